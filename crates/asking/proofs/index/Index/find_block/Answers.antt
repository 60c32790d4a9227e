-- `Index::find_block` meets its contract. Assumes nothing.
use Rattle.std.proofs.Common.{arith}
use Rattle.spec.proofs.Asking.{unbroken}
use Rattle.asking.proofs.index.Index.find_block.Goals as goal

pub find_block-requires : goal.find_block-requires
find_block-requires c = (omega (arith, c.requires), omega (arith, (unbroken _ _ _ c.args.self.unbroken).words))

pub returns : goal.returns
returns c = rw c.block_count-blocks.ensures at c.find_block.ensures
