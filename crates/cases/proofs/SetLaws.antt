-- The questions of a set, in the words of the library's methods on lists.
-- Assumes nothing.
use Prim.Native.Nat.{ℕ, ◌+◌}
use mathlib.Core.Path.{◌≡◌, refl, ap, ◌∙◌}
use mathlib.Core.Bool.{Bool, true, false, cond}
use mathlib.Core.List.{List, [], ◌∷◌}
use mathlib.Core.Option.{Option, some}
use native.Mathlib.Omega.{arith}
use lib.Dec.{eqb, ltb, leb}
use lib.ListN.{length}
use Rattle.std.specs.Prelude.{Ok, Some, None}
use Rattle.std.specs.Prelude.{Option as Maybe}
use Rattle.std.specs.List.{list_any, filter, find}
use Rattle.std.specs.Option.{option_map}
use Rattle.spec.specs.Set.{bit, contains, rank, next}
use Rattle.spec.specs.Answers.{found, or_nothing}

pub contains_any : (d : ℕ) (xs : List ℕ) → list_any (λ x. eqb x d) xs ≡ contains d xs
unfolding contains
contains_any d [] = refl
contains_any d (x ∷ xs) = rw (contains_any d xs)

-- one more, if the test says so
counts : (b : Bool) (x : ℕ) (ys : List ℕ) (n : ℕ) → length ys ≡ n → length (cond b (x ∷ ys) ys) ≡ bit b + n
counts true x ys n e = omega (arith, e)
counts false x ys n e = omega (arith, e)

pub rank_filter : (d : ℕ) (xs : List ℕ) → length (filter (λ x. ltb x d) xs) ≡ rank d xs
unfolding rank
rank_filter d [] = refl
rank_filter d (x ∷ xs) = counts (ltb x d) x (filter (λ y. ltb y d) xs) (rank d xs) (rank_filter d xs)

-- the first, if the test says so
first : (b : Bool) (x : ℕ) (r : Maybe ℕ) (o : Option ℕ) → found (Ok r) ≡ or_nothing o → found (Ok (cond b (Some x) r)) ≡ or_nothing (cond b (some x) o)
first true x r o e = refl
first false x r o e = e

finds : (t : ℕ) (xs : List ℕ) → found (Ok (find (λ x. leb t x) xs)) ≡ or_nothing (next t xs)
unfolding next
finds t [] = refl
finds t (x ∷ xs) = first (leb t x) x (find (λ y. leb t y) xs) (next t xs) (finds t xs)

pub next_find : (t : ℕ) (xs : List ℕ) (r : Maybe ℕ) → option_map (λ x. x) r ≡ find (λ x. leb t x) xs → found (Ok r) ≡ or_nothing (next t xs)
next_find t xs (Some x) e = ap (λ o. found (Ok o)) e ∙ finds t xs
next_find t xs None e = ap (λ o. found (Ok o)) e ∙ finds t xs
