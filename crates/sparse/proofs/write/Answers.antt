use Rattle.sparse.proofs.ContentLaws.{writing_none, writing_more, writing_all}
use Rattle.sparse.proofs.write.Goals as goal

pub loop-i-init : goal.loop-i-init
loop-i-init c = writing_none _ _ c.requires

pub loop-i-preserved : goal.loop-i-preserved
loop-i-preserved c =
    writing_more _ _ _ _ c.loop-i-test.true c.loop-i.invariant
    c.put_u16.ensures

pub returns : goal.returns
returns c = writing_all c.loop-i.invariant c.loop-i-test.false
