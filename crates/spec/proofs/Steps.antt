-- A loop over a list: what is left of the list decides the whole; and what the first row says of the questions and of rows to write.
use Prim.Native.Nat.{ℕ, ◌+◌, ◌≤◌, ◌<◌}
use mathlib.Core.Path.{◌≡◌, refl, sym, ap, ◌∙◌}
use mathlib.Core.Bool.{true}
use mathlib.Core.List.{List, [], ◌∷◌}
use mathlib.Core.Option.{some}
use native.Mathlib.Numerals.{add-one}
use native.Mathlib.Omega.{arith}
use borrow.Author.Tests.{lt-ltb, le-ltb, le-leb, lt-leb, eq-eqb, ne_eqb}
use lib.ListN.{length, drop, get_or, drop_of_length-le}
use lib.Seq.{drop-cons}
use Rattle.spec.specs.Set.{contains, rank, next}
use Rattle.spec.specs.Answers.{row_fault}

-- ---- a turn for each element of a list

-- after i turns, f of the elements left is what the whole list gives
pub record Left {A : Type 0} (f : List ℕ → A) (all : A) (xs : List ℕ) (i : ℕ) : Type 0 where
  pub within : i ≤ length xs
  pub same : f (drop i xs) ≡ all

pub left_none : {A : Type 0} (f : List ℕ → A) (xs : List ℕ) → Left f (f xs) xs 0
left_none f xs = record { within = omega arith; same = refl }

module _ {A : Type 0} {f : List ℕ → A} {all : A} {xs : List ℕ} {i : ℕ} (l : Left f all xs i) where
  pub left_some : i < length xs → f (get_or xs i 0 ∷ drop (i + 1) xs) ≡ all
  left_some h =
      let e : drop i xs ≡ get_or xs i 0 ∷ drop (i + 1) xs = rw (add-one i) (drop-cons xs i 0 h) in
      sym (ap f e) ∙ l.same

  pub left_more : (g : List ℕ → A) → i < length xs → ((ys : List ℕ) → f (get_or xs i 0 ∷ ys) ≡ g ys) → Left g all xs (i + 1)
  left_more g h e = record { within = omega arith; same = sym (e (drop (i + 1) xs)) ∙ left_some h }

  pub left_all : length xs ≤ i → f [] ≡ all
  left_all h = sym (ap f (drop_of_length-le xs h)) ∙ l.same

-- ---- the questions, by the first row

module _ (x d : ℕ) (xs : List ℕ) where
  pub contains_first : x ≡ d → contains d (x ∷ xs) ≡ true
  unfolding contains
  contains_first h = rw (eq-eqb x d h)

  pub contains_later : (x ≡ d → ⊥) → contains d (x ∷ xs) ≡ contains d xs
  unfolding contains
  contains_later h = rw (ne_eqb x d h)

  pub rank_below : x < d → rank d (x ∷ xs) ≡ 1 + rank d xs
  unfolding rank
  rank_below h = rw (lt-ltb x d h)

  pub rank_above : d ≤ x → rank d (x ∷ xs) ≡ rank d xs
  unfolding rank
  rank_above h = rw (le-ltb x d h) (omega arith)

  pub next_first : d ≤ x → next d (x ∷ xs) ≡ some x
  unfolding next
  next_first h = rw (le-leb d x h)

  pub next_later : x < d → next d (x ∷ xs) ≡ next d xs
  unfolding next
  next_later h = rw (lt-leb d x h)

-- ---- rows to write, by the first row

module _ (count low x : ℕ) (xs : List ℕ) where
  pub fault_order : x < low → row_fault count low (x ∷ xs) ≡ some 2
  unfolding row_fault
  fault_order h = rw (lt-ltb x low h)

  pub fault_range : low ≤ x → count ≤ x → row_fault count low (x ∷ xs) ≡ some 3
  unfolding row_fault
  fault_range h k = rw (le-ltb x low h, le-leb count x k)

  pub fault_later : low ≤ x → x < count → row_fault count low (x ∷ xs) ≡ row_fault count (x + 1) xs
  unfolding row_fault
  fault_later h k = rw (le-ltb x low h, lt-leb count x k, add-one x)
