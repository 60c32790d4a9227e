-- `search::probe` meets its contract. Assumes nothing.
use Prim.Native.Nat.{◌-◌}
use Rattle.search.proofs.TurnLaws.{Probing}
use Rattle.search.proofs.probe.Given as goal

abbrev pub invariant-loop-left : goal.invariant-loop-left
invariant-loop-left l = Probing l.part l.target l.left

abbrev pub decreases-loop-left : goal.decreases-loop-left
decreases-loop-left l = l.n - l.left
