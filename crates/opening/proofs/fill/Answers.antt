use mathlib.Core.Path.{◌∙◌}
use native.Mathlib.Omega.{arith}
use Rattle.opening.proofs.FillLaws.{fill_end, fill_right, fill_small, fill_more}
use Rattle.opening.proofs.OpenLaws.{filled, fill_start}
use Rattle.opening.proofs.fill.Goals as goal

pub table-four-items-requires : goal.table-four-items-requires
table-four-items-requires c = (filled _ _ (λ i. (c.type_inv.bytes i).fits) c.requires.accepts).fits

pub loop-four-init : goal.loop-four-init
loop-four-init c = fill_start _ _ _ _ (filled _ _ (λ i. (c.type_inv.bytes i).fits) c.requires.accepts) c.table-four-items.ensures

pub put_pairs-requires : goal.put_pairs-requires
put_pairs-requires c =
    let n = fill_right c.loop-four.invariant c.from_bytes-x.result (omega arith) c.from_bytes-x.ensures in
    (omega (arith, n.from), omega (arith, n.inside, c.loop-four.invariant.long, c.requires.room))

pub overflow_add-rows : goal.overflow_add-rows
overflow_add-rows c =
    let s = fill_small c.loop-four.invariant c.from_bytes-x.result (omega arith) c.from_bytes-x.ensures in omega (arith, s.few)

pub loop-four-preserved : goal.loop-four-preserved
loop-four-preserved c =
    fill_more c.loop-four.invariant c.from_bytes-x.result (omega arith) c.from_bytes-x.ensures _ _ c.data_size.ensures
    c.put_pairs.ensures

pub returns : goal.returns
returns c = c.put_pairs-2.ensures ∙ rw c.block_count-blocks.ensures (fill_end c.loop-four.invariant (omega arith))
