-- `bits::clear_lowest` meets its contract: the places left are those of the word without as many as there were turns.
use Prim.Native.Nat.{ℕ}
use mathlib.Core.Path.{◌≡◌}
use lib.ListN.{drop}
use Rattle.spec.specs.Reading.{bits}
use Rattle.mini.proofs.bits.clear_lowest.Given as goal

abbrev pub invariant-loop : goal.invariant-loop
invariant-loop l = (p : ℕ) → bits 64 p l.left ≡ drop l.counter (bits 64 p l.bitvec)
