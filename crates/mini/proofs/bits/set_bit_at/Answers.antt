-- `bits::set_bit_at` meets its contract: the bit that `1 << n` has is added, unless it is there.
use Rattle.mini.proofs.BitLaws.{or_bit}
use Rattle.mini.proofs.bits.set_bit_at.Goals as goal

pub returns : goal.returns
returns c = or_bit c.args.input c.args.n c.requires
