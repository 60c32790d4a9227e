-- `cases::files::full` is safe: there are as many rows as are taken. Assumes nothing.
use Rattle.std.proofs.Common.{rules, sym, length, ◌≤◌}
use lib.Seq.{length-take-le}
use Rattle.cases.proofs.files.full.Goals as goal

pub slice_bounds-write-end : goal.slice_bounds-write-end
slice_bounds-write-end g c = let room : 5119 ≤ length c.from_fn-rows.result = search rules in sym (length-take-le _ _ room)

pub slice_bounds-write-end-3 : goal.slice_bounds-write-end-3
slice_bounds-write-end-3 g c = let room : 5120 ≤ length c.from_fn-rows.result = search rules in sym (length-take-le _ _ room)
