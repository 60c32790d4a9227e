use native.Mathlib.Omega.{arith}
use Rattle.search.proofs.SearchLaws.{finds_end}
use Rattle.search.proofs.TurnLaws.{halving_all, halving_more, halved_below, halved_at}
use Rattle.search.proofs.binary_search.Goals as goal

-- no place
pub returns-then-size-eq0 : goal.returns-then-size-eq0
returns-then-size-eq0 c = finds_end 0 (omega arith) (λ rises known. known)

pub loop-size-init : goal.loop-size-init
loop-size-init c = halving_all _ _ (omega arith)

pub loop-size-preserved : goal.loop-size-preserved
loop-size-preserved c = halving_more c.loop-size.invariant _ _ c.loop-size-test.true c.value_at_idx-p.ensures c.not_above.ensures

pub returns-then-p-target : goal.returns-then-p-target
returns-then-p-target c = halved_below c.loop-size.invariant _ (omega arith) c.value_at_idx-p-2.ensures c.if-p-target.true

pub returns : goal.returns
returns c = halved_at c.loop-size.invariant _ _ c.value_at_idx-p-2.ensures c.if-p-target.false c.answer_at.ensures
