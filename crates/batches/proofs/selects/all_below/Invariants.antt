-- `selects::all_below` meets its contract: the flag, with what is left of the ranks, decides the whole. Assumes nothing.
use Rattle.batches.proofs.FlagLaws.{Seen}
use Rattle.batches.proofs.selects.all_below.Given as goal

abbrev pub invariant-loop-rank : goal.invariant-loop-rank
invariant-loop-rank l = Seen l.n l.ranks l.ok l.rank-index
