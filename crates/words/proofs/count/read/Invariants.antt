-- `words::count::read` meets its contract. The loop's invariant: what the bytes that are left say, with those that are read, is what all of them say.
-- Assumes nothing.
use lib.ListN.{length}
use Rattle.words.proofs.CountLaws.{SoFar}
use Rattle.words.proofs.count.read.Given as goal

abbrev pub invariant-loop-i : goal.invariant-loop-i
invariant-loop-i l = SoFar l.s l.count l.weight (length l.yielded)
