-- `bits::none_from` meets its contract: an end past the word, one before it, and one within it, where the bits from it on must be none.
use mathlib.Core.Path.{sym}
use native.Mathlib.Omega.{arith}
use Rattle.mini.proofs.LowestLaws.{below_bits, below_far, below_near}
use Rattle.mini.proofs.bits.none_from.Goals as goal

pub returns-then-from-end : goal.returns-then-from-end
returns-then-from-end c = let a = c.args in below_far a.from a.end a.word (omega arith) c.if-from-end.true

pub returns-then-end-from : goal.returns-then-end-from
returns-then-end-from c = let a = c.args in below_near a.from a.end a.word (omega arith) c.if-end-from.true

pub returns : goal.returns
returns c = let a = c.args in sym (below_bits 64 a.from a.end a.word (omega arith))
