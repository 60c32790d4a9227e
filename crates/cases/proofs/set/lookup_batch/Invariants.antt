-- `cases::set::lookup_batch` meets its contract: what is written and what the questions left call for are the batch. Assumes nothing.
use Rattle.cases.proofs.BatchLaws.{Batching}
use Rattle.cases.proofs.set.lookup_batch.Given as goal

abbrev pub invariant-loop-q : goal.invariant-loop-q
invariant-loop-q l = Batching l.rows l.questions l.initial.hits l.initial.ranks l.hits l.ranks l.n l.q-index
