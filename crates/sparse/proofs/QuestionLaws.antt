-- What a search of a block's data says of its places.
use Prim.Native.Nat.{ℕ, ◌/◌, ◌%◌, ◌^◌, ◌≤◌, ◌<◌}
use mathlib.Core.Path.{◌≡◌, sym, ap, ap₂, ◌∙◌}
use mathlib.Core.Bool.{true, false}
use mathlib.Core.Logic.{◌⊎◌, inl, inr}
use mathlib.Core.List.{List}
use native.Mathlib.Omega.{arith}
use mathlib.Core.Option.{some, none}
use lib.ListN.{length, get_or}
use borrow.Author.Tests.{lt-ltb, le-ltb}
use Rattle.spec.specs.Set.{contains, rank, select, next}
use Rattle.spec.specs.Layout.{size}
use Rattle.spec.proofs.Tests.{by_test}
use Rattle.spec.proofs.Rising.{rising_facts, rising_length}
use Rattle.spec.proofs.Questions.{rank_le, next_select}
use Rattle.words.specs.Part.{Holds}
use Rattle.search.specs.Search.{places_said, answer, index_of, Finds}
use Rattle.std.specs.Prelude.{Result, Ok, Err, is_ok}
use Rattle.search.proofs.PlaceLaws.{length_places}
use Rattle.sparse.proofs.PlaceLaws.{held}
use Rattle.search.proofs.SearchLaws.{answer_found, answer_insert}

-- the index, found or not
pub index_is : {r : Result ℕ ℕ} {i : ℕ} → (r ≡ Ok i) ⊎ (r ≡ Err i) → i ≡ index_of r
index_is w = elim w [ inl e ↦ sym (ap index_of e) | inr e ↦ sym (ap index_of e) ]

module _ {bs : List ℕ} {t : ℕ} {r : Result ℕ ℕ} (sparse : length bs ≡ 10240 → ⊥) (f : Finds bs t 0 r) (ps : List ℕ) (d : Holds bs ps) where
  says : r ≡ answer t ps
  says = let e = held bs ps sparse d in f.exact (rw e d.rises) (λ k l. absurd (omega arith)) ∙ ap (answer t) e

  -- the index is the rank, found or not
  pub index_rank : index_of r ≡ rank t ps
  index_rank = ap index_of says ∙ by_test (contains t ps) (λ q. rw q) (λ q. rw q)

  -- whether it is found says whether the place is there
  pub is_there : is_ok r ≡ contains t ps
  is_there = ap is_ok says ∙ by_test (contains t ps) (λ q. rw q) (λ q. rw q)

  -- of a place that is found or not, by what the search says
  pub found_there : {i : ℕ} → r ≡ Ok i → true ≡ contains t ps
  found_there {i} e = sym (answer_found ps t i (sym e ∙ says)).0

  pub insert_absent : {i : ℕ} → r ≡ Err i → false ≡ contains t ps
  insert_absent {i} e = sym (answer_insert ps t i (sym e ∙ says)).0

  -- in 32 bits too
  pub rank_says : {i n : ℕ} → i ≡ index_of r → n ≡ i % 2 ^ 32 → n ≡ rank t ps
  rank_says e q = omega (arith, index_rank, rank_le t ps, rising_length 0 size ps (rising_facts 0 size ps d.rises))

  -- the place at the index is the next, if there is one
  as_many : length ps ≡ length bs / 2
  as_many = sym (ap length (held bs ps sparse d)) ∙ length_places bs

  pub next_there : {i p : ℕ} → i ≡ index_of r → i < length bs / 2 → p ≡ get_or (places_said bs) i 0 → some p ≡ next t ps
  next_there {i} {p} e l q =
      let is : i ≡ rank t ps = e ∙ index_rank in
      let at : p ≡ select (rank t ps) ps = q ∙ ap₂ (λ l k. get_or l k 0) (held bs ps sparse d) is in
      sym (next_select 0 size ps (rising_facts 0 size ps d.rises) t ∙ rw (lt-ltb (rank t ps) (length ps) (omega (arith, as_many)), at))

  pub next_none : {i : ℕ} → i ≡ index_of r → length bs / 2 ≤ i → none ≡ next t ps
  next_none e l =
      sym (next_select 0 size ps (rising_facts 0 size ps d.rises) t ∙ rw (le-ltb (rank t ps) (length ps) (omega (arith, index_rank, as_many))))
