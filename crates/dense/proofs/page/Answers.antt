use Rattle.std.proofs.Common.{refl, arith, w64}
use Rattle.std.proofs.lemmas.List.{set-get_or}
use Rattle.std.proofs.lemmas.Nat.Bits.{bit_at-trailing_zeros}
use Rattle.dense.proofs.PageLaws.{list_first, list_full, list_none, list_more, list_end}
use Rattle.dense.proofs.page.Goals as goal
use Rattle.dense.proofs.page.Goals.{then-word-eq0+in-Some, else-word-eq0}

pub loop-row-init : goal.loop-row-init
loop-row-init c =
    list_first _ c.told-part c.find_mini-m.ensures c.mini_block-x.ensures (omega arith)
    (omega arith) c.clear_lowest-word.ensures (omega arith)

pub overflow_add-m : goal.overflow_add-m
overflow_add-m c = omega (arith, c.loop-row.invariant.within)

pub returns-in_default : goal.returns-in_default
returns-in_default c =
    let l = c.loop-row in
    rw (set-get_or l.out l.row-index 0) (list_none c.told-part l.invariant c.if-word-eq0.true c.in_default.ensures c.loop-row-test.true)

pub overflow_add-row : goal.overflow_add-row
overflow_add-row c = elim c.if-word-eq0.branch [
  | then-word-eq0+in-Some w ↦ omega (arith, w.m-is, (w.in-Some.ensures {u = tt}).1)
  | else-word-eq0 w ↦ omega (arith, w.m-is, c.loop-row.invariant.within)
]

pub overflow_add-row-in-loop-row : goal.overflow_add-row-in-loop-row
overflow_add-row-in-loop-row c = elim c.if-word-eq0.branch [
  | then-word-eq0+in-Some w ↦
      let full = w.in-Some.ensures {u = tt} in
      rw (w.m-is, w.word-is) (omega (arith, full.1, (bit_at-trailing_zeros w64 w.in-Some.rows full.4 full.5).0))
  | else-word-eq0 w ↦
      let l = c.loop-row.invariant in
      rw (w.m-is, w.word-is) (omega (arith, l.within, (bit_at-trailing_zeros w64 c.loop-row.word (omega (arith, w.if-word-eq0.false)) l.word).0))
]

pub loop-row-preserved : goal.loop-row-preserved
loop-row-preserved c = elim c.if-word-eq0.branch [
  | then-word-eq0+in-Some w ↦
      let full = w.in-Some.ensures {u = tt} in
      let next = list_full c.told-part c.loop-row.invariant w.if-word-eq0.true full in
      rw (w.m-is, w.word-is) (list_more c.told-part next full.4 c.loop-row-test.true refl)
  | else-word-eq0 w ↦
      rw (w.m-is, w.word-is) (list_more c.told-part c.loop-row.invariant (omega (arith, w.if-word-eq0.false)) c.loop-row-test.true refl)
]

pub returns : goal.returns
returns c = list_end c.told-part c.loop-row.invariant (omega (arith, c.loop-row.invariant.long))
