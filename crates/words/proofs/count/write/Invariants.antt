-- `words::count::write` meets its contract. The loop's invariant: the groups that are left, written to the list as it is, give what all of them give
-- on the list as it came. Assumes nothing.
use Rattle.words.proofs.GroupLaws.{Grouped}
use Rattle.words.proofs.count.write.Given as goal

abbrev pub invariant-loop-rest : goal.invariant-loop-rest
invariant-loop-rest l = Grouped l.initial.out l.count l.out l.rest l.i

abbrev pub decreases-loop-rest : goal.decreases-loop-rest
decreases-loop-rest l = l.rest
