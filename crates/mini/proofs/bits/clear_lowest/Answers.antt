use mathlib.Core.Path.{◌≡◌, sym, ap, ◌∙◌}
use mathlib.Core.List.{[]}
use native.Mathlib.Omega.{arith}
use lib.ListN.{length, drop, drop_of_length-le, length-drop}
use lib.Seq.{drop-drop}
use Rattle.spec.specs.Reading.{bits}
use Rattle.mini.proofs.LowestLaws.{bits_zero, cleared_lowest}
use Rattle.mini.proofs.bits.clear_lowest.Goals as goal

-- no place is left
pub returns-then-left-eq0 : goal.returns-then-left-eq0
returns-then-left-eq0 c =
    λ p.
    let all = bits 64 p c.args.bitvec in
    let e : drop c.loop.counter all ≡ [] = sym (c.loop.invariant p) ∙ ap (bits 64 p) c.if-left-eq0.true ∙ bits_zero 64 p in
    bits_zero 64 p ∙ sym (drop_of_length-le all (omega (arith, ap length e, length-drop c.loop.counter all)))

pub loop-preserved : goal.loop-preserved
loop-preserved c =
    λ p. cleared_lowest 64 p c.loop.left (omega arith) ∙ ap (drop 1) (c.loop.invariant p) ∙ drop-drop 1 c.loop.counter (bits 64 p c.args.bitvec)
