-- The turns of the sorted batch in a block: the cursor stays on a match, and passes only places below every question left.
use Prim.Native.Nat.{ℕ, ◌+◌, ◌-◌, ◌/◌, ◌%◌, ◌^◌, ◌≤◌, ◌<◌}
use mathlib.Core.Path.{◌≡◌, sym, ap, ◌∙◌}
use mathlib.Core.Bool.{true, false}
use mathlib.Core.List.{List}
use native.Mathlib.Omega.{arith}
use lib.ListN.{length, get_or, set}
use Rattle.spec.specs.Set.{rising, contains, rank}
use Rattle.spec.specs.Layout.{size}
use Rattle.spec.proofs.Rising.{rising_facts}
use Rattle.spec.proofs.Questions.{rank_below}
use Rattle.words.specs.Part.{NeverFalls, InBlock, Batched}
use Rattle.search.specs.Search.{places_said, answer, index_of, AllBelow, Finds}
use Rattle.std.specs.Prelude.{Result, Ok, Err}
use Rattle.sparse.proofs.PlaceLaws.{held}
use Rattle.search.proofs.SearchLaws.{answer_found, answer_insert}
use Rattle.words.proofs.RowLaws.{rows_from, row_contains, row_rank}
use Rattle.words.proofs.FillLaws.{counted, Filling, filling_none, filling_hit, filling_miss, filling_all}

-- ---- the batch

-- after i questions, with the cursor at a place
pub record Asking (bs qs : List ℕ) (base first : ℕ) (rows₀ ranks₀ rows ranks : List ℕ) (n cursor i : ℕ) : Type 0 where
  pub filled : Filling (rising 0 size (places_said bs) ≡ true) (rows_from base (places_said bs)) qs (counted (rows_from base (places_said bs)) first) rows₀ ranks₀ rows ranks n i
  pub inside : cursor ≤ length bs / 2
  pub passed : rising 0 size (places_said bs) ≡ true → (j : ℕ) → i ≤ j → j < length qs → AllBelow (places_said bs) (get_or qs j 0 - base) cursor

pub asking_none : (bs qs : List ℕ) (base first : ℕ) (rows ranks : List ℕ) → Asking bs qs base first rows ranks rows ranks 0 0 0
asking_none bs qs base first rows ranks =
    record { filled = filling_none _ _ qs _ rows ranks; inside = omega arith; passed = λ rises j l m k h. absurd (omega arith) }

module _ {bs qs rows₀ ranks₀ rows ranks : List ℕ} {base first n cursor i : ℕ} (a : Asking bs qs base first rows₀ ranks₀ rows ranks n cursor i)
    (order : NeverFalls qs) (block : InBlock base qs) (h : i < length qs) {r : Result ℕ ℕ} (f : Finds bs (get_or qs i 0 - base) cursor r) where
  from : base ≤ get_or qs i 0
  from = (block i h).0

  says : rising 0 size (places_said bs) ≡ true → r ≡ answer (get_or qs i 0 - base) (places_said bs)
  says rises = f.exact rises (a.passed rises i (omega arith) h)

  -- the cursor goes to the rank of the question, so it passes no place that a later one, which is not below it, could be at
  passes : (at : ℕ) → (rising 0 size (places_said bs) ≡ true → at ≡ rank (get_or qs i 0 - base) (places_said bs))
      → rising 0 size (places_said bs) ≡ true → (j : ℕ) → i + 1 ≤ j → j < length qs → AllBelow (places_said bs) (get_or qs j 0 - base) at
  passes at ranked rises j l m k b =
      omega (
        arith,
        rank_below 0 size (places_said bs) (rising_facts 0 size (places_said bs) rises) (get_or qs i 0 - base) k (omega (arith, ranked rises)),
        order i j (omega arith) m,
      )

  pub asking_hit : (at x : ℕ) → r ≡ Ok at → x ≡ (first + at) % 2 ^ 32
      → Asking bs qs base first rows₀ ranks₀ (set rows n (get_or qs i 0)) (set ranks n x) (n + 1) at (i + 1)
  asking_hit at x e q = record {
    filled = filling_hit a.filled x h (λ rises. (row_contains base (get_or qs i 0) (places_said bs) from ∙ (found rises).0, q ∙ ap (λ k. (first + k) % 2 ^ 32) ((found rises).1 ∙ sym (row_rank base (get_or qs i 0) (places_said bs) from))));
    inside = omega (arith, f.inside, ap index_of e);
    passed = passes at (λ rises. (found rises).1);
  }
    where
      found : rising 0 size (places_said bs) ≡ true → (contains (get_or qs i 0 - base) (places_said bs) ≡ true) × (at ≡ rank (get_or qs i 0 - base) (places_said bs))
      found rises = answer_found (places_said bs) (get_or qs i 0 - base) at (sym e ∙ says rises)

  pub asking_miss : (at : ℕ) → r ≡ Err at → Asking bs qs base first rows₀ ranks₀ rows ranks n at (i + 1)
  asking_miss at e = record {
    filled = filling_miss a.filled h (λ rises. row_contains base (get_or qs i 0) (places_said bs) from ∙ (absent rises).0);
    inside = omega (arith, f.inside, ap index_of e);
    passed = passes at (λ rises. (absent rises).1);
  }
    where
      absent : rising 0 size (places_said bs) ≡ true → (contains (get_or qs i 0 - base) (places_said bs) ≡ false) × (at ≡ rank (get_or qs i 0 - base) (places_said bs))
      absent rises = answer_insert (places_said bs) (get_or qs i 0 - base) at (sym e ∙ says rises)

-- no question left
pub asking_all : {bs qs rows₀ ranks₀ rows ranks : List ℕ} {base first n cursor i : ℕ} → Asking bs qs base first rows₀ ranks₀ rows ranks n cursor i
    → (length bs ≡ 10240 → ⊥) → length qs ≤ i → length qs ≤ length rows₀ → length qs ≤ length ranks₀
    → Batched bs qs base first rows₀ ranks₀ rows ranks n
asking_all {bs} a sparse h room room' =
    let f = a.filled in
    record {
      fewer = omega (arith, f.fewer, f.asked);
      rows_stay = f.rows_stay;
      ranks_stay = f.ranks_stay;
      exact = λ ps d. let e = held bs ps sparse d in rw e at (filling_all f h room room' (rw e d.rises));
    }
