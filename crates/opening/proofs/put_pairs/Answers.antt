use native.Mathlib.Omega.{arith}
use Rattle.opening.proofs.FillLaws.{put_more, put_all}
use Rattle.opening.proofs.put_pairs.Goals as goal

pub loop-block-preserved : goal.loop-block-preserved
loop-block-preserved c = put_more c.loop-block.invariant (omega arith)

pub returns : goal.returns
returns c = put_all c.loop-block.invariant (omega arith)
