-- `lookups::in_order` meets its contract. Assumes nothing.
use Rattle.batches.proofs.HitLaws.{Seeking}
use Rattle.batches.proofs.lookups.in_order.Given as goal

abbrev pub invariant-loop-row : goal.invariant-loop-row
invariant-loop-row l =
    let x = l.index in Seeking x.bytes.now x.directory.now x.record l.questions l.initial.rows l.initial.ranks l.rows l.ranks l.n l.row-index
