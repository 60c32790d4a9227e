-- `selects::replace` meets its contract. Assumes nothing.
use Rattle.std.proofs.Common.{◌-◌, length}
use Rattle.batches.proofs.SelectLaws.{Replacing}
use Rattle.batches.proofs.selects.replace.Given as goal

abbrev pub invariant-loop-i : goal.invariant-loop-i
invariant-loop-i l = Replacing l.index.bytes.now l.index.directory.now l.index.record l.initial.ranks l.ranks l.block l.i

abbrev pub decreases-loop-i : goal.decreases-loop-i
decreases-loop-i l = length l.initial.ranks - l.i
