use native.Mathlib.Omega.{arith}
use Rattle.spec.specs.Reading.{part}
use Rattle.writing.proofs.PutLaws.{putting_none, putting_more, putting_all, room, room_data}
use Rattle.writing.proofs.put_blocks.Goals as goal

pub loop-i-init : goal.loop-i-init
loop-i-init c = putting_none _ _ _ _ c.requires.room.0 c.requires.room.1

pub block_run-end-requires : goal.block_run-end-requires
block_run-end-requires c = (omega arith, c.requires.rows_rise)

pub slice_bounds-put_block-start : goal.slice_bounds-put_block-start
slice_bounds-put_block-start c = omega (arith, c.block_run-end.ensures.some)

pub slice_bounds-put_block-end : goal.slice_bounds-put_block-end
slice_bounds-put_block-end c = omega (arith, c.block_run-end.ensures.within)

pub put_block-requires : goal.put_block-requires
unfolding part
put_block-requires c =
    let r = room c.loop-i.invariant c.block_run-end.ensures in
    record { room = r.0; rows_there = r.1 }

pub overflow_sub-end : goal.overflow_sub-end
overflow_sub-end c = omega (arith, c.block_run-end.ensures.some)

pub overflow_add-data_at : goal.overflow_add-data_at
overflow_add-data_at c =
    let p = c.loop-i.invariant in
    omega (arith, room_data p c.block_run-end.ensures, p.entry_room, c.data_size-data_at.ensures)

pub overflow_add-entry_at : goal.overflow_add-entry_at
overflow_add-entry_at c =
    let p = c.loop-i.invariant in
    omega (arith, p.entry_room)

pub loop-i-smaller : goal.loop-i-smaller
loop-i-smaller c = let r = c.block_run-end.ensures in omega (arith, r.some, r.within)

pub loop-i-preserved : goal.loop-i-preserved
unfolding part
loop-i-preserved c = putting_more c.loop-i.invariant c.block_run-end.ensures _ _ c.data_size-data_at.ensures c.put_block.ensures

pub shape_of-out : goal.shape_of-out
shape_of-out c = c.loop-i.invariant.long

pub returns : goal.returns
returns c = putting_all c.loop-i.invariant (omega arith)
