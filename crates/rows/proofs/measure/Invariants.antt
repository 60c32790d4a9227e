-- `rows::measure` meets its contract: what the runs so far take, and what is left. Assumes nothing.
use Prim.Native.Nat.{◌-◌}
use lib.ListN.{length}
use Rattle.rows.proofs.MeasureLaws.{Measuring}
use Rattle.rows.proofs.measure.Given as goal

abbrev pub invariant-loop-i : goal.invariant-loop-i
invariant-loop-i l = Measuring l.rows l.data l.entries l.i

abbrev pub decreases-loop-i : goal.decreases-loop-i
decreases-loop-i l = length l.rows - l.i
