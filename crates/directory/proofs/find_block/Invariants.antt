-- `directory::find_block` meets its contract: the blocks from base on that are left have the rank, if any of them has. Assumes nothing.
use Rattle.directory.proofs.FindLaws.{Halving}
use Rattle.directory.proofs.find_block.Given as goal

abbrev pub invariant-loop-left : goal.invariant-loop-left
invariant-loop-left l = Halving l.directory l.blocks l.k l.base l.left

abbrev pub decreases-loop-left : goal.decreases-loop-left
decreases-loop-left l = l.left
