-- `search::binary_search` meets its contract. Assumes nothing.
use Rattle.search.proofs.TurnLaws.{Halving}
use Rattle.search.proofs.binary_search.Given as goal

abbrev pub invariant-loop-size : goal.invariant-loop-size
invariant-loop-size l = Halving l.part l.target l.base l.size

abbrev pub decreases-loop-size : goal.decreases-loop-size
decreases-loop-size l = l.size
