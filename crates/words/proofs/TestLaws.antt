-- Tests as numbers and in conjunctions.
use Prim.Native.Nat.{ℕ, ◌*◌, ◌≤◌}
use mathlib.Core.Path.{◌≡◌}
use mathlib.Core.Bool.{Bool, true, false, ◌&&◌, and-false, and-true}
use native.Mathlib.Omega.{arith}
use Rattle.spec.specs.Set.{bit}

-- a number, or 0, is no more than the number
pub times_bit : (n m : ℕ) (b : Bool) → m ≡ bit b → n * m ≤ n
times_bit n m true e = rw e (omega arith)
times_bit n m false e = rw e (omega arith)

-- std's and-false and and-true, by the names that the papers have
pub and_no : (b : Bool) → b && false ≡ false
and_no = and-false

pub and_yes : (b : Bool) → b && true ≡ b
and_yes = and-true
