use Rattle.std.proofs.Common.{◌^◌, ◌<◌, sym, ◌∙◌, arith}
use lib.Count.{ones-le}
use Rattle.dense.proofs.ContentLaws.{none_checked, seen_le, all_checked, wrong_count, wrong_word, one_checked}
use Rattle.dense.proofs.content_ok.Goals as goal

pub loop-m-init : goal.loop-m-init
loop-m-init c = let a = c.args in none_checked a.part.now a.rows a.end c.requires.0

pub returns-then-x-seen : goal.returns-then-x-seen
returns-then-x-seen c = wrong_count c.loop-m.invariant (omega arith) c.mini_block-x.ensures c.if-x-seen.true

pub none_from-requires : goal.none_from-requires
none_from-requires c = (omega arith, omega arith)

pub returns-then-not-none_from : goal.returns-then-not-none_from
returns-then-not-none_from c =
    let l = c.loop-m in
    let x = c.mini_block-x in
    wrong_word l.invariant (omega arith) x.ensures c.if-x-seen.false
    (sym c.none_from.ensures ∙ c.if-not-none_from.true)

pub overflow_add-seen : goal.overflow_add-seen
overflow_add-seen c =
    let word : c.mini_block-x.result.bitvec < 2 ^ 64 = omega arith in
    omega (arith, ones-le 64 _ word, seen_le c.loop-m.invariant)

pub loop-m-preserved : goal.loop-m-preserved
loop-m-preserved c =
    let word : c.mini_block-x.result.bitvec < 2 ^ 64 = omega arith in
    let l = c.loop-m in
    let x = c.mini_block-x in
    one_checked l.invariant (omega arith) x.ensures word c.if-x-seen.false
    (sym c.none_from.ensures ∙ c.if-not-none_from.false)

pub returns : goal.returns
returns c = all_checked c.loop-m.invariant (omega arith)
