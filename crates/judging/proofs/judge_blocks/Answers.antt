-- `judging::judge_blocks` meets its contract: each phase's answer is the verdict's. Assumes nothing.
use native.Mathlib.Omega.{arith}
use Rattle.std.proofs.Common.{rules}
use Rattle.std.proofs.lemmas.Result.{err_from_is_err_and}
use Rattle.judging.proofs.JudgeLaws.{headed, fitting, summed, says_overlap, says_wrong, says_length, data_within, says_content, says_record}
use Rattle.judging.proofs.judge_blocks.Goals as goal

pub count-number-requires : goal.count-number-requires
count-number-requires c = omega (arith, (headed _ _ c.requires).upto)

pub overflow_add-head : goal.overflow_add-head
overflow_add-head c = omega (arith, (headed _ _ c.requires).short)

pub overflow_add-head-2 : goal.overflow_add-head-2
overflow_add-head-2 c = omega (arith, (headed _ _ c.requires).short)

pub returns-then-bytes-head : goal.returns-then-bytes-head
returns-then-bytes-head c = says_overlap _ _ (headed _ _ c.requires) (omega (arith, c.count-number.ensures))

pub returns-in_err-totals : goal.returns-in_err-totals
returns-in_err-totals c =
    let p = err_from_is_err_and c.from_residual.result c.from_residual.ensures.1 in
    let f = fitting c.requires (omega (arith, c.count-number.ensures)) c.table-table.ensures in
    let w = says_wrong f c.ok_or.ensures.ok_part c.in_err-totals.was c.add_up.ensures in
    search (rules, p.1, p.2, w)

pub returns-then-from-head : goal.returns-then-from-head
returns-then-from-head c =
    let f = fitting c.requires (omega (arith, c.count-number.ensures)) c.table-table.ensures in
    let s = summed f c.ok_or.ensures.ok_part c.in_ok-totals.was c.add_up.ensures in
    says_length s (λ e. omega (arith, c.count-number.ensures))

pub all_ok-requires : goal.all_ok-requires
all_ok-requires c =
    let f = fitting c.requires (omega (arith, c.count-number.ensures)) c.table-table.ensures in
    let s = summed f c.ok_or.ensures.ok_part c.in_ok-totals.was c.add_up.ensures in
    data_within s (omega (arith, c.count-number.ensures))

pub returns-then-not-all_ok : goal.returns-then-not-all_ok
returns-then-not-all_ok c =
    let f = fitting c.requires (omega (arith, c.count-number.ensures)) c.table-table.ensures in
    let s = summed f c.ok_or.ensures.ok_part c.in_ok-totals.was c.add_up.ensures in
    says_content s (omega (arith, c.count-number.ensures)) _ c.all_ok.ensures c.if-not-all_ok.true

pub overflow_cast-result : goal.overflow_cast-result
overflow_cast-result c = omega (arith, (headed _ _ c.requires).short)

pub returns : goal.returns
returns c =
    let f = fitting c.requires (omega (arith, c.count-number.ensures)) c.table-table.ensures in
    let s = summed f c.ok_or.ensures.ok_part c.in_ok-totals.was c.add_up.ensures in
    says_record s (omega (arith, c.count-number.ensures)) _ c.all_ok.ensures c.if-not-all_ok.false
