-- `pages::fill` meets its contract. Assumes nothing.
use Rattle.batches.proofs.PageLaws.{Paging}
use Rattle.batches.proofs.pages.fill.Given as goal

abbrev pub invariant-loop-block : goal.invariant-loop-block
invariant-loop-block l = Paging l.index.bytes.now l.index.directory.now l.index.record l.from l.initial.rows l.rows l.block l.done
