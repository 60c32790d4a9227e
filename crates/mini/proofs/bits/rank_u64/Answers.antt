-- `bits::rank_u64` meets its contract: the mask has the places below el, of which at most el are in the set.
use Rattle.mini.proofs.BitLaws.{ones_mask}
use Rattle.mini.proofs.bits.rank_u64.Goals as goal

pub returns : goal.returns
returns c = ones_mask c.args.bitvec c.args.el c.requires
