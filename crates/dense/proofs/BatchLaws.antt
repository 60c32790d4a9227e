-- The turns of a batch in a block: each question is a lookup of its place.
use Rattle.std.proofs.Common.{◌≡◌, ℕ, ◌+◌, ◌-◌, ◌%◌, ◌^◌, ◌<◌, ◌≤◌, List, [], length, get_or, set, sym, ap, ◌∙◌, arith}
use Rattle.spec.specs.Set.{lookup}
use Rattle.spec.proofs.Questions.{lookup_found, lookup_none}
use Rattle.std.specs.Prelude.{Some, None}
use Rattle.std.specs.Prelude.{Option as Maybe}
use Rattle.words.specs.Part.{Holds, Of, placed, InBlock, Batched}
use Rattle.words.proofs.RowLaws.{rows_from, row_contains, row_rank}
use Rattle.words.proofs.FillLaws.{counted, Filling, filling_hit, filling_miss, filling_all}

-- after i questions, of all places that the part may hold
pub record Asking (bs qs : List ℕ) (base first : ℕ) (rows₀ ranks₀ rows ranks : List ℕ) (n i : ℕ) : Type 0 where
  pub filled : (ps : List ℕ) → Filling (Holds bs ps) (rows_from base ps) qs (counted (rows_from base ps) first) rows₀ ranks₀ rows ranks n i

module _ {bs qs rows₀ ranks₀ rows ranks : List ℕ} {base first n i : ℕ} (a : Asking bs qs base first rows₀ ranks₀ rows ranks n i)
    (block : InBlock base qs) (h : i < length qs) {r : Maybe ℕ} (says : Of bs (λ ps. placed r ≡ lookup (get_or qs i 0 - base) ps)) where
  pub asking_hit : (at x : ℕ) → r ≡ Some at → x ≡ (first + at) % 2 ^ 32
      → Asking bs qs base first rows₀ ranks₀ (set rows n (get_or qs i 0)) (set ranks n x) (n + 1) (i + 1)
  asking_hit at x e q = record {
    filled = λ ps. filling_hit (a.filled ps) x h (λ d.
        let f = lookup_found (get_or qs i 0 - base) at ps (sym (says ps d) ∙ ap placed e) in (
          row_contains base (get_or qs i 0) ps (block i h).0 ∙ f.0,
          q ∙ ap (λ k. (first + k) % 2 ^ 32) (f.1 ∙ sym (row_rank base (get_or qs i 0) ps (block i h).0)),
        ));
  }

  pub asking_miss : r ≡ None → Asking bs qs base first rows₀ ranks₀ rows ranks n (i + 1)
  asking_miss e = record {
    filled = λ ps. filling_miss (a.filled ps) h
        (λ d. row_contains base (get_or qs i 0) ps (block i h).0 ∙ lookup_none (get_or qs i 0 - base) ps (sym (says ps d) ∙ ap placed e));
  }

-- no question left
pub asking_all : {bs qs rows₀ ranks₀ rows ranks : List ℕ} {base first n i : ℕ} → Asking bs qs base first rows₀ ranks₀ rows ranks n i
    → length qs ≤ i → length qs ≤ length rows₀ → length qs ≤ length ranks₀ → Batched bs qs base first rows₀ ranks₀ rows ranks n
asking_all a h room room' =
    let f = a.filled [] in
    record {
      fewer = omega (arith, f.fewer, f.asked);
      rows_stay = f.rows_stay;
      ranks_stay = f.ranks_stay;
      exact = λ ps d. filling_all (a.filled ps) h room room' d;
    }
