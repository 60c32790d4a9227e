use Rattle.search.proofs.TurnLaws.{probing_none, probing_more, probed, probed_all}
use Rattle.search.proofs.probe.Goals as goal

pub loop-left-init : goal.loop-left-init
loop-left-init c = probing_none _ _

pub loop-left-preserved : goal.loop-left-preserved
loop-left-preserved c = probing_more c.loop-left.invariant _ c.loop-left-test.true c.value_at_idx.ensures c.if-value_at_idx-target.true

pub returns-else-value_at_idx-target : goal.returns-else-value_at_idx-target
returns-else-value_at_idx-target c = probed c.loop-left.invariant _ c.loop-left-test.true c.value_at_idx.ensures c.if-value_at_idx-target.false

pub returns-after-loop-left : goal.returns-after-loop-left
returns-after-loop-left c = probed_all c.loop-left.invariant c.loop-left-test.false
