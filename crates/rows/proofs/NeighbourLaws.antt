-- Neighbours tested pair by pair, and what that says of the whole list.
use Prim.Native.Nat.{ℕ, suc, ◌+◌, ◌-◌, ◌≤◌, ◌<◌, zero-le}
use mathlib.Core.Path.{◌≡◌}
use mathlib.Core.Bool.{Bool, true, false}
use mathlib.Core.List.{List, [], ◌∷◌}
use native.Mathlib.Numerals.{add-one}
use native.Mathlib.Omega.{arith}
use borrow.Author.Tests.{le-leb, ltb-true, ltb-false}
use lib.Dec.{ltb}
use lib.ListN.{length, get_or}
use Rattle.std.specs.Prelude.{MatchBool}
use Rattle.std.specs.List.{AllAdjacentBelow}
use Rattle.std.proofs.lemmas.Grind.{get_or_default_zero}
use Rattle.spec.proofs.Tests.{by_test}
use Rattle.words.proofs.FlagLaws.{Climbing}

-- ---- pair by pair: what was said of the pairs before i

abbrev pub Said : (ℕ → ℕ → Bool → Type 0) → List ℕ → Bool → ℕ → Type 0
Said says xs ok i =
    MatchBool ok (AllAdjacentBelow (λ x y. says x y true) xs i)
    ((k : ℕ) × (k + 1 < length xs) × ((d : ℕ) → says (get_or xs k d) (get_or xs (k + 1) d) false))

module _ (says : ℕ → ℕ → Bool → Type 0) (xs : List ℕ) (i : ℕ) (h : 1 ≤ i) (l : i < length xs) where
  pair : (b : Bool) → says (get_or xs (i - 1) 0) (get_or xs i 0) b → (k d : ℕ) → k + 1 ≡ i → says (get_or xs k d) (get_or xs (k + 1) d) b
  pair b s k d q =
      let f : i - 1 ≡ k = omega arith in
      rw (get_or_default_zero xs k d (omega arith), get_or_default_zero xs (k + 1) d (omega arith), q) (rw f at s)

  pub said_no : says (get_or xs (i - 1) 0) (get_or xs i 0) false → Said says xs false (i + 1)
  said_no s = (i - 1, omega arith, λ d. pair false s (i - 1) d (omega arith))

  pub said_yes : (ok : Bool) → Said says xs ok i → says (get_or xs (i - 1) 0) (get_or xs i 0) true → Said says xs ok (i + 1)
  said_yes true f s = λ k d m. by_test (ltb (k + 1) i) (λ e. f k d (ltb-true (k + 1) i e)) (λ e. pair true s k d (omega (arith, ltb-false (k + 1) i e)))
  said_yes false f s = f

-- ---- of the whole list

module _ {past : ℕ → ℕ} {climbs : ℕ → List ℕ → Bool} (c : Climbing past climbs) where
  climbs_on : (x : ℕ) (xs : List ℕ) → ((k : ℕ) → suc k < length (x ∷ xs) → past (get_or (x ∷ xs) k 0) ≤ get_or (x ∷ xs) (suc k) 0) → climbs (past x) xs ≡ true
  climbs_on x [] h = c.none (past x)
  climbs_on x (y ∷ ys) h = rw (c.more (past x) y ys, le-leb (past x) y (h 0 (omega arith))) (climbs_on y ys (λ k l. h (suc k) (omega arith)))

  -- each element is at or above what the one before it asks
  pub climbs_all : (xs : List ℕ) → ((k : ℕ) → k + 1 < length xs → past (get_or xs k 0) ≤ get_or xs (k + 1) 0) → climbs 0 xs ≡ true
  climbs_all [] h = c.none 0
  climbs_all (x ∷ xs) h = rw (c.more 0 x xs, le-leb 0 x zero-le) (climbs_on x xs (λ k l. rw (add-one k) at (h k (omega arith))))
