-- The turns of a page of a block: what is filled, with the rows still to come, are the block's rows from an index on.
use Prim.Native.Nat.{ℕ, suc, ◌+◌, ◌/◌, ◌≤◌, ◌<◌}
use mathlib.Core.Path.{◌≡◌, refl, sym, ap, ap₂, ◌∙◌}
use mathlib.Core.List.{List, ◌++◌}
use native.Mathlib.Nat.{add-zero}
use native.Mathlib.Omega.{arith}
use lib.ListN.{length, get_or, take, drop, set, length-set, length-map, get_or-map}
use lib.Seq.{drop-cons}
use Rattle.words.specs.Part.{Paged}
use Rattle.words.proofs.RowLaws.{rows_from}
use Rattle.words.proofs.FrontLaws.{front_more, front_end}
use Rattle.search.specs.Search.{places_said}
use Rattle.search.proofs.PlaceLaws.{length_places}
use Rattle.sparse.proofs.PlaceLaws.{held}

-- j rows are filled
pub record Listing (bs : List ℕ) (base from : ℕ) (out₀ out : List ℕ) (j : ℕ) : Type 0 where
  pub long : length out ≡ length out₀
  pub filled : take j out ++ drop (from + j) (rows_from base (places_said bs)) ≡ drop from (rows_from base (places_said bs))

pub list_none : (bs : List ℕ) (base from : ℕ) (out : List ℕ) → Listing bs base from out out 0
list_none bs base from out = record { long = refl; filled = ap (λ n. drop n (rows_from base (places_said bs))) (add-zero from) }

module _ {bs : List ℕ} {base from : ℕ} {out₀ out : List ℕ} {j : ℕ} (l : Listing bs base from out₀ out j) where
  pub list_more : {p : ℕ} → p ≡ get_or (places_said bs) (from + j) 0 → from + length out₀ ≤ length bs / 2 → j < length out₀
      → Listing bs base from out₀ (set out j (base + p)) (j + 1)
  list_more {p} e room h =
      let rows = rows_from base (places_said bs) in
      let n : from + (j + 1) ≡ suc (from + j) = omega arith in
      let there : from + j < length rows = omega (arith, length-map (places_said bs) (λ p. base + p), length_places bs) in
      let row : get_or rows (from + j) (base + 0) ≡ base + p = get_or-map (λ p. base + p) (places_said bs) (from + j) 0 ∙ ap (λ p. base + p) (sym e) in
      record {
        long = length-set out j (base + p) ∙ l.long;
        filled = front_more out (drop from rows) j (base + p) (drop (from + (j + 1)) rows) (omega (arith, l.long))
            (rw (n, ← row, ← (drop-cons rows (from + j) (base + 0) there)) l.filled);
      }

  pub list_end : (length bs ≡ 10240 → ⊥) → length out₀ ≤ j → Paged bs base from out₀ out
  list_end sparse h =
      record {
        long = l.long;
        exact = λ ps d room.
            front_end out (drop from (rows_from base (places_said bs))) j _ (omega (arith, l.long)) l.filled
            ∙ ap₂ (λ n ps. take n (drop from (rows_from base ps))) l.long (held bs ps sparse d);
      }

-- a list that is longer than what the part says is not filled
pub list_short : (bs : List ℕ) (base from : ℕ) (out : List ℕ) → (length bs ≡ 10240 → ⊥) → length bs / 2 < from + length out → Paged bs base from out out
list_short bs base from out sparse h =
    record { long = refl; exact = λ ps d room. absurd (omega (arith, length_places bs, ap length (held bs ps sparse d))) }
