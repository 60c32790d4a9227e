-- `sparse::batch` meets its contract. Assumes nothing.
use Rattle.sparse.proofs.BatchLaws.{Asking}
use Rattle.sparse.proofs.batch.Given as goal

abbrev pub invariant-loop-row : goal.invariant-loop-row
invariant-loop-row l = Asking l.part l.questions l.base l.first l.initial.rows l.initial.ranks l.rows l.ranks l.n l.cursor l.row-index
