-- `bits::select_u64` meets its contract. The loop's invariant: the places left are those of the word but for its lowest, one for each
-- turn, so the first place left is the one wanted.
use mathlib.Core.Path.{◌≡◌}
use lib.ListN.{drop}
use Rattle.spec.specs.Reading.{bits}
use Rattle.mini.proofs.bits.select_u64.Given as goal

abbrev pub invariant-loop : goal.invariant-loop
invariant-loop l = bits 64 0 l.left ≡ drop l.counter (bits 64 0 l.bitvec)
