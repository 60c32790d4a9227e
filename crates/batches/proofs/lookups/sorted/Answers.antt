use Rattle.std.proofs.Common.{add-zero, arith}
use Rattle.spec.specs.Reading.{part}
use Rattle.batches.proofs.HitLaws.{length_tail, seeking_none, seeking_all, seeking_past, seeking_run, ran}
use Rattle.batches.proofs.lookups.sorted.Goals as goal

pub loop-i-init : goal.loop-i-init
loop-i-init c = seeking_none _ _ _ _ _ _

pub returns-then-index-row : goal.returns-then-index-row
returns-then-index-row c =
    let p = c.requires.room in
    let past = seeking_past c.loop-i.invariant c.args.index.bytes_fit c.requires.never_falls (omega arith) c.if-index-row.true in
    rw (add-zero c.loop-i.n) at (seeking_all past (omega arith) p.0 p.1)

pub in_block-n-requires : goal.in_block-n-requires
unfolding part
in_block-n-requires c =
    let l = c.loop-i in
    let r = ran _ _ _ c.loop-i-test.true c.requires.never_falls c.run_end-to.ensures in
    let f = l.invariant.loose in
    let many = r.many in record {
      block_below = omega (arith, c.if-index-row.false);
      never_falls = (r.falls, r.block);
      room = (
        omega (arith, length_tail l.n l.rows, f.fewer, f.rows_long, r.within, c.requires.room.0),
        omega (arith, length_tail l.n l.ranks, f.fewer, f.ranks_long, r.within, c.requires.room.1),
      );
    }

pub overflow_add-n : goal.overflow_add-n
unfolding part
overflow_add-n c =
    let r = ran _ _ _ c.loop-i-test.true c.requires.never_falls c.run_end-to.ensures in
    let many = r.many in
    omega (arith, c.in_block-n.ensures.fewer, c.loop-i.invariant.loose.fewer, r.within)

pub loop-i-smaller : goal.loop-i-smaller
loop-i-smaller c = let r = ran _ _ _ c.loop-i-test.true c.requires.never_falls c.run_end-to.ensures in omega (arith, r.some, r.within)

pub loop-i-preserved : goal.loop-i-preserved
unfolding part
loop-i-preserved c =
    let p = c.requires.room in
    let r = ran _ _ _ c.loop-i-test.true c.requires.never_falls c.run_end-to.ensures in
    seeking_run c.loop-i.invariant _ _ _ _ (omega (arith, r.some)) r.within p.0 p.1 c.in_block-n.ensures
    c.in_block-n.auto.rows c.in_block-n.auto.ranks

pub returns : goal.returns
returns c = let p = c.requires.room in seeking_all c.loop-i.invariant (omega arith) p.0 p.1

pub slice_bounds-some-count : goal.slice_bounds-some-count
slice_bounds-some-count c = omega (arith, (ran _ _ _ c.loop-i-test.true c.requires.never_falls c.run_end-to.ensures).some)

pub slice_bounds-some-start : goal.slice_bounds-some-start
slice_bounds-some-start c = omega (arith, (ran _ _ _ c.loop-i-test.true c.requires.never_falls c.run_end-to.ensures).some)

pub slice_bounds-some-end : goal.slice_bounds-some-end
slice_bounds-some-end c = omega (arith, (ran _ _ _ c.loop-i-test.true c.requires.never_falls c.run_end-to.ensures).within)
