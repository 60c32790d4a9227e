-- `rows::neighbours` meets its contract: the flag says whether all pairs so far passed. Assumes nothing.
use Rattle.rows.proofs.NeighbourLaws.{Said}
use Rattle.rows.proofs.neighbours.Given as goal

abbrev pub invariant-loop-i : goal.invariant-loop-i
invariant-loop-i g l = Said (goal.F-post g l.test) l.rows l.ok l.i
