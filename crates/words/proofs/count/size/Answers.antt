-- `words::count::size` meets its contract: the bounds are powers of 128. Assumes nothing.
use native.Mathlib.Omega.{arith}
use Rattle.words.proofs.GroupLaws.{long}
use Rattle.words.proofs.count.size.Goals as goal

pub returns-in-0-to-127 : goal.returns-in-0-to-127
returns-in-0-to-127 c = long 4 0 c.args.count (omega arith) (λ l. omega arith) (omega arith)

pub returns-in-0-to-16383 : goal.returns-in-0-to-16383
returns-in-0-to-16383 c = long 4 1 c.args.count (omega arith) (λ l. omega arith) (omega arith)

pub returns-in-0-to-2097151 : goal.returns-in-0-to-2097151
returns-in-0-to-2097151 c = long 4 2 c.args.count (omega arith) (λ l. omega arith) (omega arith)

pub returns-in-0-to-268435455 : goal.returns-in-0-to-268435455
returns-in-0-to-268435455 c = long 4 3 c.args.count (omega arith) (λ l. omega arith) (omega arith)

pub returns-in_default : goal.returns-in_default
returns-in_default c = long 4 4 c.args.count (omega arith) (λ l. omega arith) (omega (arith, c.ranges.count.fits))
