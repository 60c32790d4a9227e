-- `lookup` meets its contract: the bit of the place in the word of its mini-block decides, and the rank is as in `rank`.
use Rattle.std.proofs.Common.{◌+◌, sym, ap, ◌∙◌, arith}
use mathlib.Core.Option.{some}
use Rattle.spec.proofs.Questions.{lookup_member, lookup_absent}
use Rattle.dense.proofs.DenseLaws.{contains_stored, rank_stored}
use Rattle.dense.proofs.lookup.Goals as goal

pub returns-then-get_bit_at : goal.returns-then-get_bit_at
returns-then-get_bit_at c =
    let x = c.mini_block-m in
    λ ps h.
    let there = sym (contains_stored c.told-part c.args.place (omega arith) x.ensures.word ps h)
    ∙ sym c.get_bit_at.ensures ∙ c.if-get_bit_at.true in
    ap some (ap (λ n. x.result.rank + n) c.rank_u64.ensures ∙ rank_stored c.told-part c.args.place (omega arith) x.ensures ps h)
    ∙ sym (lookup_member c.args.place ps there)

pub returns : goal.returns
returns c =
    let x = c.mini_block-m in
    λ ps h.
    let absent = sym (contains_stored c.told-part c.args.place (omega arith) x.ensures.word ps h)
    ∙ sym c.get_bit_at.ensures ∙ c.if-get_bit_at.false in
    sym (lookup_absent c.args.place ps absent)
