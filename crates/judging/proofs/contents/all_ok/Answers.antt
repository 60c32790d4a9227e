use native.Mathlib.Omega.{arith}
use Rattle.spec.specs.Reading.{part}
use Rattle.judging.proofs.ContentLaws.{checking_end, checking_within, checking_wrong, checking_more}
use Rattle.judging.proofs.contents.all_ok.Goals as goal

pub slice_bounds-content_ok-end : goal.slice_bounds-content_ok-end
slice_bounds-content_ok-end c =
    let x = c.from_bytes-x in omega (arith, checking_within c.loop-four.invariant x.result (omega arith) x.ensures _ c.data_size.ensures)

pub returns-then-not-content_ok : goal.returns-then-not-content_ok
unfolding part
returns-then-not-content_ok c =
    let x = c.from_bytes-x in
    checking_wrong c.loop-four.invariant x.result (omega arith) x.ensures _ c.data_size.ensures _ _ c.rows_at-end.ensures
    c.content_ok.ensures c.if-not-content_ok.true

pub loop-four-preserved : goal.loop-four-preserved
unfolding part
loop-four-preserved c =
    let x = c.from_bytes-x in
    checking_more c.loop-four.invariant x.result (omega arith) x.ensures _ c.data_size.ensures _ _ c.rows_at-end.ensures
    c.content_ok.ensures c.if-not-content_ok.false

pub returns : goal.returns
returns c = checking_end c.loop-four.invariant (omega arith)
