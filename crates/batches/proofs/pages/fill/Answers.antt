use Rattle.std.proofs.Common.{◌+◌, ap, arith}
use Rattle.spec.proofs.Asking.{unbroken}
use Rattle.batches.proofs.PageLaws.{paging_start, paging_more, paging_end, paging_past}
use Rattle.batches.proofs.pages.fill.Goals as goal

-- there is a block, since there is a rank
pub find_block-block-requires : goal.find_block-block-requires
find_block-block-requires c = omega (arith, (unbroken _ _ _ c.args.index.unbroken).populated, c.requires)

pub loop-block-init : goal.loop-block-init
loop-block-init c = paging_start _ _ _ c.args.index.bytes_fit _ _ _ c.find_block-block.ensures c.requires.1

pub returns-then-done-rows : goal.returns-then-done-rows
returns-then-done-rows c =
    let l = c.loop-block.invariant in paging_end _ _ _ c.args.index.bytes_fit _ _ _ _ _ l (omega (arith, l.long, c.if-done-rows.true))

pub loop-block-preserved : goal.loop-block-preserved
loop-block-preserved c =
    let l = c.loop-block in
    paging_more _ _ _ c.args.index.bytes_fit _ _ _ _ _ l.invariant _ _ (omega (arith, c.block_count-blocks.ensures))
    (omega (arith, l.invariant.long, l.invariant.some, c.if-done-rows.false)) c.requires.1
    (ap (λ k. l.done + k) (rw c.rows_before.ensures at c.room.ensures)) c.fill_in.ensures

pub returns : goal.returns
returns c =
    let l = c.loop-block.invariant in
    paging_past _ _ _ c.args.index.bytes_fit _ _ _ _ _ l (omega (arith, l.within, c.block_count-blocks.ensures)) c.requires.1
