-- `pages::fill_in` meets its contract. Assumes nothing.
use Rattle.std.proofs.Common.{arith}
use Rattle.batches.proofs.PageLaws.{listed_in}
use Rattle.batches.proofs.pages.fill_in.Goals as goal

pub returns : goal.returns
returns c =
    listed_in _ _ _ c.args.index.bytes_fit _ _ _ _ _ _ c.requires c.part.ensures (omega (arith, c.rows_before.ensures)) (omega arith) c.page.ensures
