-- `bits::next_u64` meets its contract: the first of the places that the shifts leave, if they leave any.
use native.Mathlib.Omega.{arith}
use Rattle.mini.proofs.LowestLaws.{next_none, next_some}
use Rattle.mini.proofs.bits.next_u64.Goals as goal

pub returns-then-left-eq0-clause-first : goal.returns-then-left-eq0-clause-first
returns-then-left-eq0-clause-first c = next_none c.args.from c.args.bitvec c.requires (omega arith) c.if-left-eq0.true

pub returns-clause-first : goal.returns-clause-first
returns-clause-first c = next_some c.args.from c.args.bitvec c.requires (omega arith) (omega arith)
