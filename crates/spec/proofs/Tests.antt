-- By cases of a test; something is not nothing.
use Prim.Native.Nat.{ℕ}
use mathlib.Core.Path.{◌≡◌, refl}
use mathlib.Core.Bool.{Bool, true, false}
use mathlib.Core.Option.{none, some}
use native.Mathlib.Omega.{arith}

-- by cases of a test, each with its equation; std's cases_Bool gives a sum
pub by_test : {A : Type 0} (b : Bool) → (b ≡ true → A) → (b ≡ false → A) → A
by_test true yes' no' = yes' refl
by_test false yes' no' = no' refl

-- something is not nothing; std has the equation the other way
pub not_none : {A B : Type 0} {a : A} → some a ≡ none → B
not_none e = let z : ◌≡◌ {A = ℕ} 0 1 = cc in absurd (omega arith)
