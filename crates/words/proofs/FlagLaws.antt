-- A flag over neighbours, without an early exit. What it is a flag of is a test of a list: no element is below `low`, and each is at
-- or above what the one before it asks, `past`. What was seen so far, with what is left of the list, decides the whole.
use Prim.Native.Nat.{ℕ, zero, suc, ◌+◌, ◌-◌, ◌≤◌, ◌<◌, zero-le}
use mathlib.Core.Path.{◌≡◌, sym, ap, ◌∙◌}
use mathlib.Core.Bool.{Bool, true, false, ◌&&◌, and-false, and-true}
use mathlib.Core.List.{List, [], ◌∷◌}
use native.Mathlib.Numerals.{add-one}
use native.Mathlib.Omega.{arith}
use lib.ListN.{length, get_or, drop, drop_of_length-le}
use lib.Seq.{drop-cons}
use lib.Dec.{leb}
use borrow.Author.Tests.{leb-true, le-leb, lt-leb}
use Rattle.std.proofs.lemmas.Bool.{and_parts}

-- such a test
pub record Climbing (past : ℕ → ℕ) (climbs : ℕ → List ℕ → Bool) : Type 0 where
  pub none : (low : ℕ) → climbs low [] ≡ true
  pub more : (low x : ℕ) (xs : List ℕ) → climbs low (x ∷ xs) ≡ leb low x && climbs (past x) xs

pub record Flagged (past : ℕ → ℕ) (climbs : ℕ → List ℕ → Bool) (xs : List ℕ) (ok : Bool) (i : ℕ) : Type 0 where
  pub from : 1 ≤ i
  pub left : ok && climbs (past (get_or xs (i - 1) 0)) (drop i xs) ≡ climbs 0 xs

module _ {past : ℕ → ℕ} {climbs : ℕ → List ℕ → Bool} (c : Climbing past climbs) where
  pub flag_start : (xs : List ℕ) → Flagged past climbs xs true 1
  flag_start [] = record { from = omega arith; left = c.none (past 0) ∙ sym (c.none 0) }
  flag_start (x ∷ xs) = record { from = omega arith; left = rw (c.more 0 x xs, le-leb 0 x zero-le) }

  module _ {xs : List ℕ} {ok : Bool} {i : ℕ} (f : Flagged past climbs xs ok i) (h : i < length xs) where
    next : drop i xs ≡ get_or xs i 0 ∷ drop (i + 1) xs
    next = rw (add-one i) (drop-cons xs i 0 h)

    step : climbs (past (get_or xs (i - 1) 0)) (drop i xs) ≡ leb (past (get_or xs (i - 1) 0)) (get_or xs i 0) && climbs (past (get_or xs i 0)) (drop (i + 1) xs)
    step = rw next (c.more (past (get_or xs (i - 1) 0)) (get_or xs i 0) (drop (i + 1) xs))

    same : i + 1 - 1 ≡ i
    same = omega arith

    pub flag_falls : get_or xs i 0 < past (get_or xs (i - 1) 0) → Flagged past climbs xs false (i + 1)
    flag_falls l =
        record {
          from = omega arith;
          left = sym (and-false ok) ∙ ap (λ t. ok && t) (sym (step ∙ rw (lt-leb (past (get_or xs (i - 1) 0)) (get_or xs i 0) l))) ∙ f.left;
        }

    pub flag_climbs : past (get_or xs (i - 1) 0) ≤ get_or xs i 0 → Flagged past climbs xs ok (i + 1)
    flag_climbs l =
        record {
          from = omega arith;
          left = ap (λ t. ok && t) (rw same (sym (step ∙ rw (le-leb (past (get_or xs (i - 1) 0)) (get_or xs i 0) l)))) ∙ f.left;
        }

  pub flag_end : (xs : List ℕ) (ok : Bool) (i : ℕ) → Flagged past climbs xs ok i → length xs ≤ i → ok ≡ climbs 0 xs
  flag_end xs ok i f h =
      sym (and-true ok) ∙ ap (λ t. ok && t) (sym (c.none (past (get_or xs (i - 1) 0))))
      ∙ ap (λ l. ok && climbs (past (get_or xs (i - 1) 0)) l) (sym (drop_of_length-le xs {i = i} h)) ∙ f.left

  -- where an element asks for no less than itself, none is below an earlier one
  module _ (up : (x : ℕ) → x ≤ past x) where
    climbs_from : (low k : ℕ) (xs : List ℕ) → climbs low xs ≡ true → k < length xs → low ≤ get_or xs k 0
    climbs_from low k [] e h = absurd (omega arith)
    climbs_from low zero (x ∷ xs) e h = leb-true low x (and_parts (leb low x) (climbs (past x) xs) (sym (c.more low x xs) ∙ e)).0
    climbs_from low (suc k) (x ∷ xs) e h =
        let p = and_parts (leb low x) (climbs (past x) xs) (sym (c.more low x xs) ∙ e) in
        omega (arith, leb-true low x p.0, up x, climbs_from (past x) k xs p.1 (omega arith))

    pub climbs_apart : (low i j : ℕ) (xs : List ℕ) → climbs low xs ≡ true → i ≤ j → j < length xs → get_or xs i 0 ≤ get_or xs j 0
    climbs_apart low i j [] e h l = absurd (omega arith)
    climbs_apart low zero zero (x ∷ xs) e h l = omega arith
    climbs_apart low zero (suc j) (x ∷ xs) e h l =
        let p = and_parts (leb low x) (climbs (past x) xs) (sym (c.more low x xs) ∙ e) in omega (arith, up x, climbs_from (past x) j xs p.1 (omega arith))
    climbs_apart low (suc i) zero (x ∷ xs) e h l = absurd (omega arith)
    climbs_apart low (suc i) (suc j) (x ∷ xs) e h l =
        let p = and_parts (leb low x) (climbs (past x) xs) (sym (c.more low x xs) ∙ e) in climbs_apart (past x) i j xs p.1 (omega arith) (omega arith)
