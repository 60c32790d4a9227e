-- `sparse::write` meets its contract. Assumes nothing.
use Rattle.sparse.proofs.ContentLaws.{Writing}
use Rattle.sparse.proofs.write.Given as goal

abbrev pub invariant-loop-i : goal.invariant-loop-i
invariant-loop-i l = Writing l.rows l.out l.i
