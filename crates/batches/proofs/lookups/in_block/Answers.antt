-- `lookups::in_block` meets its contract. Assumes nothing.
use Rattle.batches.proofs.LookupLaws.{block_hits}
use Rattle.batches.proofs.lookups.in_block.Goals as goal

pub returns : goal.returns
returns c =
    block_hits _ _ _ c.args.index.bytes_fit c.args.index.unbroken _ c.requires.block_below _ c.part-part.ensures _ c.requires.never_falls.1
    (rw c.rows_before-first.ensures at c.batch.ensures)
