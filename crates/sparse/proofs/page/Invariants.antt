-- `sparse::page` meets its contract. Assumes nothing.
use Rattle.sparse.proofs.PageLaws.{Listing}
use Rattle.sparse.proofs.page.Given as goal

abbrev pub invariant-loop-j : goal.invariant-loop-j
invariant-loop-j l = Listing l.part l.base l.from l.initial.out l.out l.j
