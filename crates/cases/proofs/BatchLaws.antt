-- A batch of lookups, question by question.
-- Assumes nothing.
use Prim.Native.Nat.{ℕ, ◌+◌, ◌≤◌, ◌<◌}
use mathlib.Core.Path.{◌≡◌, refl, ap, ◌∙◌}
use mathlib.Core.Bool.{true, false}
use mathlib.Core.List.{List, []}
use native.Mathlib.Nat.{zero-add, add-suc, suc-add}
use native.Mathlib.Numerals.{add-one}
use native.Mathlib.Omega.{arith}
use lib.ListN.{length, get_or, set, length-set, length-map}
use lib.Seq.{sets, sets-eq}
use Rattle.spec.specs.Set.{contains, rank, hits, ranks}
use Rattle.spec.specs.Answers.{value, front, all_hits}
use Rattle.spec.proofs.Steps.{Left, left_none, left_more, left_all}

-- ---- a batch: its count and its two lists, when n hits are written and the questions qs are left

abbrev pub batch : List ℕ → ℕ → List ℕ → List ℕ → List ℕ → ℕ × List ℕ × List ℕ
batch xs n rows ranks' qs = (n + length (hits xs qs), sets rows n (hits xs qs), sets ranks' n (ranks xs (hits xs qs)))

-- after i questions
pub record Batching (xs qs rows₀ ranks₀ rows ranks' : List ℕ) (n i : ℕ) : Type 0 where
  pub fewer : n ≤ i
  pub rows_long : length rows ≡ length rows₀
  pub ranks_long : length ranks' ≡ length ranks₀
  pub left : Left (batch xs n rows ranks') (batch xs 0 rows₀ ranks₀ qs) qs i

pub batching_none : (xs qs rows₀ ranks₀ : List ℕ) → Batching xs qs rows₀ ranks₀ rows₀ ranks₀ 0 0
batching_none xs qs rows₀ ranks₀ = record { fewer = omega arith; rows_long = refl; ranks_long = refl; left = left_none (batch xs 0 rows₀ ranks₀) qs }

module _ {xs qs rows₀ ranks₀ rows ranks' : List ℕ} {n i : ℕ} (b : Batching xs qs rows₀ ranks₀ rows ranks' n i) where
  pub batching_hit : (r : ℕ) → i < length qs → true ≡ contains (get_or qs i 0) xs → r ≡ rank (get_or qs i 0) xs
      → Batching xs qs rows₀ ranks₀ (set rows n (get_or qs i 0)) (set ranks' n r) (n + 1) (i + 1)
  unfolding hits
  batching_hit r h e k =
      record {
        fewer = omega (arith, b.fewer);
        rows_long = length-set rows n (get_or qs i 0) ∙ b.rows_long;
        ranks_long = length-set ranks' n r ∙ b.ranks_long;
        left = left_more b.left _ h (λ ys. rw (← e, k, add-one n, add-suc, suc-add));
      }

  pub batching_miss : i < length qs → false ≡ contains (get_or qs i 0) xs → Batching xs qs rows₀ ranks₀ rows ranks' n (i + 1)
  unfolding hits
  batching_miss h e =
      record {
        fewer = omega (arith, b.fewer);
        rows_long = b.rows_long;
        ranks_long = b.ranks_long;
        left = left_more b.left _ h (λ ys. rw (← e));
      }

  -- no question left: the lists are the hits and their ranks, and the rest as it was
  pub batching_all : length qs ≤ i → length qs ≤ length rows₀ → length qs ≤ length ranks₀
      → (value n, rows, ranks') ≡ all_hits qs rows₀ ranks₀ xs
  unfolding hits
  batching_all h rows-room ranks-room =
      let hs : List ℕ = hits xs qs in
      let all : batch xs n rows ranks' [] ≡ batch xs 0 rows₀ ranks₀ qs = left_all b.left h in
      let count : n ≡ length hs = omega (arith, ap (λ o. o.0) all) in
      let few : n ≤ length qs = omega (arith, b.fewer, b.left.within) in
      let as_many : length (ranks xs hs) ≡ length hs = length-map hs (λ q. rank q xs) in
      let on-rows : rows ≡ front hs rows₀ = ap (λ o. o.1) all ∙ rw (sets-eq hs rows₀ 0 (omega arith), zero-add) refl in
      let on-ranks : ranks' ≡ front (ranks xs hs) ranks₀ = ap (λ o. o.2) all ∙ rw (sets-eq (ranks xs hs) ranks₀ 0 (omega arith), zero-add) refl in
      rw (count, on-rows, on-ranks)
