-- Rows that rise: neighbours, the search for the end of those below a bound, and the first fault.
use Prim.Native.Nat.{ℕ, suc, ◌+◌, ◌-◌, ◌/◌, ◌≤◌, ◌<◌}
use mathlib.Core.Path.{◌≡◌, refl}
use mathlib.Core.Bool.{true}
use mathlib.Core.List.{List, [], ◌∷◌}
use native.Mathlib.Omega.{arith}
use lib.ListN.{length, get_or}
use lib.Dec.{leb}
use borrow.Author.Tests.{leb-true, le-leb}
use mathlib.Core.Option.{none}
use Rattle.std.proofs.lemmas.Bool.{and_parts}
use Rattle.spec.specs.Answers.{row_fault}
use Rattle.spec.proofs.Rising.{Rising}
use Rattle.spec.proofs.Promises.{fault_none}
use Rattle.words.specs.Part.{NeverFalls}
use Rattle.words.proofs.FlagLaws.{Climbing, climbs_apart}
use Rattle.rows.specs.Runs.{ascends, Below}

-- ---- neighbours

-- each row asks the next to be at least one more
pub ascending : Climbing suc ascends
unfolding ascends
ascending = record { none = λ low. refl; more = λ low x xs. refl }

-- ---- the end of the rows below a bound

pub never_falls : (rows : List ℕ) → ascends 0 rows ≡ true → NeverFalls rows
never_falls rows e i j h l = climbs_apart ascending (λ x. omega arith) 0 i j rows e h l

-- the row at `base` is below the bound, and the row at `base + left` is not, if there is one
pub record Between (rows : List ℕ) (end base left : ℕ) : Type 0 where
  pub some : 1 ≤ left
  pub within : base + left ≤ length rows
  pub below : get_or rows base 0 < end
  pub above : base + left < length rows → end ≤ get_or rows (base + left) 0

module _ {rows : List ℕ} {end base left : ℕ} (a : NeverFalls rows) (b : Between rows end base left) where
  pub between_up : 1 < left → get_or rows (base + left / 2) 0 < end → Between rows end (base + left / 2) (left - left / 2)
  between_up h l =
      let e : base + left / 2 + (left - left / 2) ≡ base + left = omega arith in
      record { some = omega arith; within = omega (arith, b.within); below = l; above = λ m. rw e (b.above (omega arith)) }

  pub between_down : 1 < left → end ≤ get_or rows (base + left / 2) 0 → Between rows end base (left - left / 2)
  between_down h l =
      record {
        some = omega arith;
        within = omega (arith, b.within);
        below = b.below;
        above = λ m. omega (arith, a (base + left / 2) (base + (left - left / 2)) (omega arith) m);
      }

  pub between_end : left ≤ 1 → Below rows end (base + 1)
  between_end h =
      let one : base + 1 ≡ base + left = omega (arith, b.some) in
      record {
        within = omega (arith, b.within);
        before = λ j l. omega (arith, b.below, a j base (omega arith) (omega (arith, b.within)));
        after = λ j l m. omega (arith, rw (← one) at (b.above (omega arith)), a (base + 1) j l m);
      }

-- ---- galloping: the row at `at` is below the bound

pub record Gallop (rows : List ℕ) (end at step : ℕ) : Type 0 where
  pub inside : at < length rows
  pub below : get_or rows at 0 < end
  pub some : 1 ≤ step

-- ---- no fault

-- rows that ascend are strictly increasing below a bound that they all keep
pub ascends_rising : (low end : ℕ) (xs : List ℕ) → ascends low xs ≡ true → ((k : ℕ) → k < length xs → get_or xs k 0 < end) → Rising low end xs
unfolding ascends
ascends_rising low end [] e h = tt
ascends_rising low end (x ∷ xs) e h =
    let p = and_parts (leb low x) (ascends (suc x) xs) e in
    (leb-true low x p.0, h 0 (omega arith), ascends_rising (suc x) end xs p.1 (λ k l. h (suc k) (omega arith)))

pub rising_ascends : (low end : ℕ) (xs : List ℕ) → Rising low end xs → ascends low xs ≡ true
unfolding ascends
rising_ascends low end [] r = refl
rising_ascends low end (x ∷ xs) r = rw (le-leb low x r.0) (rising_ascends (suc x) end xs r.2)

-- the last row below the row count, if there is one
pub no_fault : (count : ℕ) (rows : List ℕ) → ascends 0 rows ≡ true → (0 < length rows → get_or rows (length rows - 1) 0 < count) → row_fault count 0 rows ≡ none
no_fault count rows a h =
    fault_none count 0 rows (ascends_rising 0 count rows a (λ k m.
    omega (arith, h (omega (arith, m)), climbs_apart ascending (λ x. omega arith) 0 k (length rows - 1) rows a (omega (arith, m)) (omega (arith, m)))))
