-- `writing::put_blocks` meets its contract: what is left to store makes the whole. Assumes nothing.
use Prim.Native.Nat.{◌-◌}
use lib.ListN.{length}
use Rattle.writing.proofs.PutLaws.{Putting}
use Rattle.writing.proofs.put_blocks.Given as goal

abbrev pub invariant-loop-i : goal.invariant-loop-i
invariant-loop-i l = Putting l.initial.out l.rows l.at l.to l.out l.data_at l.entry_at l.i

abbrev pub decreases-loop-i : goal.decreases-loop-i
decreases-loop-i l = length l.rows - l.i
