-- `cases::bytes::row_count` is safe: a row count takes at most five bytes. Assumes nothing.
use Rattle.std.proofs.Common.{length, arith, sym, ap, ◌≤◌}
use lib.Seq.{length-take-le, length-sets}
use Rattle.spec.proofs.RowCount.{groups_length}
use Rattle.cases.proofs.bytes.row_count.Goals as goal

pub write-n-requires : goal.write-n-requires
write-n-requires g c = (groups_length 4 _).1

pub slice_bounds-out-end : goal.slice_bounds-out-end
slice_bounds-out-end g c =
    omega (arith, c.write-n.ensures.long, simp length-sets at (ap length c.write-n.ensures.wrote), groups_length 4 c.args.count)

pub slice_bounds-line-end : goal.slice_bounds-line-end
slice_bounds-line-end g c =
    let room : c.write-n.result ≤ length c.write-n.new.out =
    omega (arith, c.write-n.ensures.long, simp length-sets at (ap length c.write-n.ensures.wrote), groups_length 4 c.args.count) in
    sym (length-take-le _ _ room)
