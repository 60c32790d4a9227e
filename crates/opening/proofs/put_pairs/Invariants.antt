-- `opening::put_pairs` meets its contract: the pairs left make of the directory what all of them make of it. Assumes nothing.
use Rattle.opening.proofs.FillLaws.{Putting}
use Rattle.opening.proofs.put_pairs.Given as goal

abbrev pub invariant-loop-block : goal.invariant-loop-block
invariant-loop-block l = Putting l.initial.directory l.from l.to l.rows l.size l.directory l.block
