use Rattle.std.proofs.Common.{arith}
use Rattle.batches.proofs.SelectLaws.{run_one, run_more}
use Rattle.batches.proofs.selects.run_end.Goals as goal

pub loop-n-init : goal.loop-n-init
loop-n-init c = run_one _ _ _ (omega arith)

pub loop-n-preserved : goal.loop-n-preserved
loop-n-preserved c = run_more _ _ _ _ c.loop-n.invariant (omega (arith, c.room-few.ensures)) c.if-ranks-from.false
