-- `bits::get_bit_at` meets its contract: the bit that `1 << n` has.
use Rattle.mini.proofs.BitLaws.{test_bit}
use Rattle.mini.proofs.bits.get_bit_at.Goals as goal

pub returns : goal.returns
returns c = test_bit c.args.input c.args.n c.requires
