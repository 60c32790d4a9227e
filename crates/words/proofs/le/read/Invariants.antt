-- `words::le::read` meets its contract. The loop goes from the highest byte down; its invariant: n is the number in the bytes that are read.
-- Assumes nothing.
use Rattle.std.proofs.Common.{◌≡◌, ◌+◌, ◌-◌, ◌≤◌, length}
use Rattle.spec.specs.Reading.{number_in, part}
use Rattle.words.proofs.le.read.Given as goal

abbrev pub invariant-loop-byte : goal.invariant-loop-byte
invariant-loop-byte l = (length l.yielded ≤ l.w) × (l.n ≡ number_in (part (l.i + (l.w - length l.yielded)) (l.i + l.w) l.s))
