use Rattle.std.proofs.Common.{arith}
use Rattle.spec.proofs.Asking.{unbroken}
use Rattle.batches.proofs.SelectLaws.{replacing_start, rank_below, replacing_more, replacing_end}
use Rattle.batches.proofs.selects.replace.Goals as goal

pub loop-i-init : goal.loop-i-init
loop-i-init c = replacing_start _ _ _ c.args.index.bytes_fit _

pub block_of-block-requires : goal.block_of-block-requires
block_of-block-requires c =
    let l = c.loop-i.invariant in
    let k = rank_below _ _ _ c.args.index.bytes_fit _ _ _ _ l c.requires (omega (arith, l.long)) in
    l.one (omega (arith, (unbroken _ _ _ c.args.index.unbroken).populated))

pub loop-i-preserved : goal.loop-i-preserved
loop-i-preserved c =
    let l = c.loop-i.invariant in
    replacing_more _ _ _ c.args.index.bytes_fit _ _ _ _ l _ _ _ c.requires (omega (arith, l.long)) c.block_of-block.ensures
    (rw c.rows_before.ensures at c.run_end-to.ensures) c.fill_in.ensures

pub returns : goal.returns
returns c = let l = c.loop-i.invariant in replacing_end _ _ _ c.args.index.bytes_fit _ _ _ _ l (omega (arith, l.long))
