-- `dense::page` meets its contract. Assumes nothing.
use Rattle.dense.proofs.PageLaws.{Listing}
use Rattle.dense.proofs.page.Given as goal

abbrev pub invariant-loop-row : goal.invariant-loop-row
invariant-loop-row l = Listing l.part l.base l.from l.initial.out l.out l.m l.word l.row-index
