use Prim.Native.Nat.{◌/◌}
use native.Mathlib.Omega.{arith}
use Rattle.words.proofs.TestLaws.{times_bit}
use Rattle.directory.proofs.FindLaws.{halving_all, halving_more, halved}
use Rattle.directory.proofs.find_block.Goals as goal

pub loop-left-init : goal.loop-left-init
loop-left-init c = halving_all _ _ _ c.requires.0

pub loop-left-preserved : goal.loop-left-preserved
loop-left-preserved c = halving_more c.loop-left.invariant c.loop-left-test.true _ c.not_above.ensures

pub returns : goal.returns
returns c = halved c.loop-left.invariant (omega arith)

pub overflow_mul-base-in-loop-left : goal.overflow_mul-base-in-loop-left
overflow_mul-base-in-loop-left c =
    omega (arith, times_bit (c.loop-left.left / 2) _ _ c.not_above.ensures)

pub overflow_add-base-in-loop-left : goal.overflow_add-base-in-loop-left
overflow_add-base-in-loop-left c =
    omega (arith, times_bit (c.loop-left.left / 2) _ _ c.not_above.ensures)
