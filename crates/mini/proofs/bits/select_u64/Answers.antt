use mathlib.Core.Path.{◌≡◌, ap, ◌∙◌}
use native.Mathlib.Omega.{arith}
use lib.ListN.{get_or}
use Rattle.spec.specs.Reading.{bits}
use Rattle.mini.proofs.LowestLaws.{some_left, cleared_more, first_left}
use Rattle.mini.proofs.bits.select_u64.Goals as goal

pub overflow_sub-left : goal.overflow_sub-left
overflow_sub-left c = let l = c.loop in some_left c.args.bitvec l.left l.counter l.invariant (omega (arith, c.requires))

pub loop-preserved : goal.loop-preserved
loop-preserved c =
    let l = c.loop in
    cleared_more c.args.bitvec l.left l.counter l.invariant (omega (arith, c.requires))

pub returns : goal.returns
returns c =
    let l = c.loop in
    let a = c.args in
    let all : l.counter ≡ a.k = omega arith in
    first_left a.bitvec l.left l.counter l.invariant (omega (arith, c.requires)) ∙ ap (λ n. get_or (bits 64 0 a.bitvec) n 0) all
