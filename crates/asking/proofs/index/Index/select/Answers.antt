-- `Index::select` meets its contract. Assumes nothing.
use Rattle.std.proofs.Common.{arith}
use Rattle.spec.proofs.Asking.{unbroken}
use Rattle.asking.proofs.MemberLaws.{is_member}
use Rattle.asking.proofs.index.Index.select.Goals as goal

-- there is a block, since there is a rank
pub find_block-block-requires : goal.find_block-block-requires
find_block-block-requires c = omega (arith, (unbroken _ _ _ c.args.self.unbroken).populated, c.requires)

pub returns : goal.returns
returns c =
    is_member _ _ _ c.args.self.bytes_fit _ _ c.requires
    c.find_block-block.ensures _ (omega arith) (omega (arith, c.rows_before.ensures)) _ c.part.ensures _ c.select.ensures.exact
