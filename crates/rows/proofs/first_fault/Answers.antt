use mathlib.Core.Path.{sym, ap, ◌∙◌}
use native.Mathlib.Omega.{arith}
use Rattle.spec.specs.Answers.{value, unless, row_fault}
use Rattle.spec.proofs.Steps.{left_none, left_some, left_more, left_all, fault_order, fault_range, fault_later}
use Rattle.rows.proofs.first_fault.Goals as goal

pub loop-row-init : goal.loop-row-init
loop-row-init c = left_none _ _

pub returns-then-row-low : goal.returns-then-row-low
returns-then-row-low c = ap (λ o. unless o (value tt)) (sym (fault_order _ _ _ _ c.if-row-low.true) ∙ left_some c.loop-row.invariant (omega arith))

pub returns-then-row_count-row : goal.returns-then-row_count-row
returns-then-row_count-row c =
    ap (λ o. unless o (value tt))
    (sym (fault_range _ _ _ _ c.if-row-low.false c.if-row_count-row.true) ∙ left_some c.loop-row.invariant (omega arith))

pub loop-row-preserved : goal.loop-row-preserved
loop-row-preserved c = left_more c.loop-row.invariant _ (omega arith) (λ xs. fault_later _ _ _ xs c.if-row-low.false c.if-row_count-row.false)

pub returns : goal.returns
unfolding row_fault
returns c = ap (λ o. unless o (value tt)) (left_all c.loop-row.invariant (omega arith))
