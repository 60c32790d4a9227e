-- `select` meets its contract: the last mini-block whose running count is at or below k has the place, if there is one.
use Rattle.std.proofs.Common.{◌+◌, ◌*◌, ap, ◌∙◌, arith}
use lib.Count.{ones-le}
use Rattle.mini.proofs.BitLaws.{length_bits}
use Rattle.dense.proofs.SelectLaws.{select_lt, selected, selects_none}
use Rattle.dense.proofs.select.Goals as goal

pub returns-then-m-left : goal.returns-then-m-left
returns-then-m-left c =
    record { inside = omega arith; exact = λ ps h. selects_none c.told-part c.find_mini-at.ensures c.mini_block-m.ensures (omega arith) (omega arith) h c.if-m-left.true }

pub overflow_cast-left-2 : goal.overflow_cast-left-2
overflow_cast-left-2 c = omega (arith, c.if-m-left.false, ones-le 64 c.mini_block-m.result.bitvec (omega arith))

pub select_u64-requires : goal.select_u64-requires
select_u64-requires c = omega (arith, c.if-m-left.false, length_bits 64 0 c.mini_block-m.result.bitvec (omega arith))

pub returns : goal.returns
returns c =
    let f = c.find_mini-at.ensures in
    let few = c.if-m-left.false in
    record {
      inside = omega (arith, c.select_u64.ensures, f.0, select_lt (omega arith) few);
      exact = λ ps h. ap (λ p. 64 * c.find_mini-at.result + p) c.select_u64.ensures ∙ selected c.told-part f c.mini_block-m.ensures (omega arith) (omega arith) h few;
    }
