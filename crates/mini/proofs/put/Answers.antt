-- `mini::put` meets its contract: the ten bytes of the mini-block are stored.
use Prim.Native.Nat.{◌+◌, ◌-◌, ◌*◌}
use mathlib.Core.Path.{◌≡◌, ap, ◌∙◌}
use native.Mathlib.Omega.{arith}
use Rattle.mini.specs.Mini.{mini_bytes}
use Rattle.mini.specs.declared.DenseMiniBlock.{DenseMiniBlock}
use Rattle.mini.proofs.MiniLaws.{mini_ten}
use Rattle.words.proofs.StoreLaws.{part_back}
use borrow.Rule.Slice.PartMut.{put_mid}
use Rattle.mini.proofs.put.Goals as goal

pub returns : goal.returns
returns c =
    let a = c.args in
    let start = 10 * a.m in
    let wide : start + 10 - start ≡ 10 = omega arith in
    let ten : DenseMiniBlock = record { bitvec = a.word; rank = a.before } in
    ap (λ l. put_mid start (start + 10 - start) a.out.now l) (c.store.ensures ∙ c.to_bytes-ten.ensures)
    ∙ rw wide (part_back (mini_bytes ten) a.out.now start 10 (mini_ten ten) (omega (arith, c.requires)))
