-- `writing::put_file` meets its contract: row count, data and entries, number of entries, one behind another. Assumes nothing.
use mathlib.Core.Path.{ap}
use native.Mathlib.Omega.{arith}
use lib.ListN.{length}
use lib.Seq.{length-sets}
use Rattle.writing.proofs.FileLaws.{all_ascend, few_blocks, short, no_room, written_whole, file_length, data_room, file_stored}
use Rattle.writing.proofs.put_file.Goals as goal

pub measure-shape-requires : goal.measure-shape-requires
measure-shape-requires c = all_ascend c.requires

pub overflow_add-entries : goal.overflow_add-entries
overflow_add-entries c = omega (arith, short c.requires _ _ _ c.size-start.ensures c.measure-shape.ensures)

pub overflow_mul-last : goal.overflow_mul-last
overflow_mul-last c = omega (arith, short c.requires _ _ _ c.size-start.ensures c.measure-shape.ensures)

pub overflow_add-last : goal.overflow_add-last
overflow_add-last c = omega (arith, short c.requires _ _ _ c.size-start.ensures c.measure-shape.ensures)

pub overflow_add-last-2 : goal.overflow_add-last-2
overflow_add-last-2 c = omega (arith, short c.requires _ _ _ c.size-start.ensures c.measure-shape.ensures)

pub returns-then-out-last : goal.returns-then-out-last
returns-then-out-last c =
    let n = file_length _ _ _ _ _ c.size-start.ensures c.measure-shape.ensures in
    no_room c.requires _ (omega (arith, n))

pub put_blocks-requires : goal.put_blocks-requires
put_blocks-requires c =
    let long = simp length-sets at (ap length c.write.ensures.wrote) in
    record { rows_rise = all_ascend c.requires; room = data_room c.args.rows.now _ _ _ _ c.measure-shape.ensures (omega (arith, long)) }

pub overflow_cast-shape : goal.overflow_cast-shape
overflow_cast-shape c = omega (arith, few_blocks c.requires, c.measure-shape.ensures.entries')

pub returns : goal.returns
returns c =
    let q = c.size-start.ensures in
    let h = c.measure-shape.ensures in
    let n = file_length c.args.row_count c.args.rows.now _ _ _ q h in
    written_whole c.requires c.args.out.now _ _ n (omega arith)
    (file_stored c.args.row_count c.args.rows.now c.args.out.now _ _ _ q h (omega (arith, n)) _ _ _
    c.write.ensures.wrote c.put_blocks.ensures c.put_u16.ensures)
