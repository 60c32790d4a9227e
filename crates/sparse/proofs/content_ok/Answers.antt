use mathlib.Core.Path.{◌∙◌}
use native.Mathlib.Omega.{arith}
use Rattle.sparse.proofs.ContentLaws.{checking_none, checking_more, checking_all, checked_none, content}
use Rattle.sparse.proofs.content_ok.Goals as goal

pub returns-then-rows-eq0 : goal.returns-then-rows-eq0
returns-then-rows-eq0 c = checked_none _ _ (omega arith) ∙ content c.args.rows _ _ c.requires.0 c.requires.1

pub loop-i-init : goal.loop-i-init
loop-i-init c = checking_none _ _ (omega arith)

pub loop-i-preserved : goal.loop-i-preserved
loop-i-preserved c = checking_more c.loop-i.invariant _ _ (omega arith) c.value_at_idx.ensures c.value_at_idx-in-loop-i.ensures

pub returns : goal.returns
returns c =
    checking_all c.loop-i.invariant _ _ c.loop-i-test.false (omega arith) c.value_at_idx-2.ensures ∙ content c.args.rows _ _ c.requires.0 c.requires.1
