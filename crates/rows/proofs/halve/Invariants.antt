-- `rows::halve` meets its contract: the last row below the bound stays between base and left rows on. Assumes nothing.
use Rattle.rows.proofs.RowLaws.{Between}
use Rattle.rows.proofs.halve.Given as goal

abbrev pub invariant-loop-left : goal.invariant-loop-left
invariant-loop-left l = Between l.rows l.end l.base l.left

abbrev pub decreases-loop-left : goal.decreases-loop-left
decreases-loop-left l = l.left
