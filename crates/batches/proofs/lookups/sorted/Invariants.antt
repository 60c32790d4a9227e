-- `lookups::sorted` meets its contract: a run of questions of one block at each turn. Assumes nothing.
use Rattle.std.proofs.Common.{◌-◌, length}
use Rattle.batches.proofs.HitLaws.{Seeking}
use Rattle.batches.proofs.lookups.sorted.Given as goal

abbrev pub invariant-loop-i : goal.invariant-loop-i
invariant-loop-i l = Seeking l.index.bytes.now l.index.directory.now l.index.record l.questions l.initial.rows l.initial.ranks l.rows l.ranks l.n l.i

abbrev pub decreases-loop-i : goal.decreases-loop-i
decreases-loop-i l = length l.questions - l.i
