-- `sparse::content_ok` meets its contract. Assumes nothing.
use Rattle.sparse.proofs.ContentLaws.{Checking}
use Rattle.sparse.proofs.content_ok.Given as goal

abbrev pub invariant-loop-i : goal.invariant-loop-i
invariant-loop-i l = Checking l.part l.end l.ok l.i
