-- `rows::first_fault` meets its contract: what is left of the rows, from the least that may follow on, decides. Assumes nothing.
use Rattle.spec.specs.Answers.{row_fault}
use Rattle.spec.proofs.Steps.{Left}
use Rattle.rows.proofs.first_fault.Given as goal

abbrev pub invariant-loop-row : goal.invariant-loop-row
invariant-loop-row l = Left (row_fault l.row_count l.low) (row_fault l.row_count 0 l.rows) l.rows l.row-index
