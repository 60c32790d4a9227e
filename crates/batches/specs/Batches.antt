-- What the steps of batches and pages ask and leave: of any bytes, directory and record that 10 does not refuse something safe, of what
-- opening gave together what the set says.
use Rattle.std.specs.Prelude.{◌≡◌, ℕ, ◌+◌, ◌-◌, ◌*◌, ◌<◌, ◌≤◌, Bool, true, ◌&&◌, List, [], ◌∷◌, ◌++◌, length, drop, nat_le, slice_index, slice_index_or}
use Rattle.spec.specs.declared.Record.{Record}
use Rattle.spec.specs.Set.{hits, ranks, selects, page}
use Rattle.asking.specs.Members.{Of}

-- ---- batch lookup

-- none is below the one before, and the first is not below `low`
unfoldable pub climbing : ℕ → List ℕ → Bool
climbing low [] = true
climbing low (x ∷ xs) = nat_le low x && climbing x xs

-- n hits: no more than questions, and places past them stay; all hits of the set, in question order
pub record Hits (file directory : List ℕ) (rec : Record) (qs rows₀ ranks₀ rows ranks' : List ℕ) (n : ℕ) : Type 0 where
  pub fewer : n ≤ length qs
  pub rows_stay : drop n rows ≡ drop n rows₀
  pub ranks_stay : drop n ranks' ≡ drop n ranks₀
  pub exact : Of file directory rec (λ xs.
      (n ≡ length (hits xs qs)) × (rows ≡ hits xs qs ++ drop n rows₀) × (ranks' ≡ ranks xs (hits xs qs) ++ drop n ranks₀))

-- ---- pages

-- a list filled with the members from rank k on
pub record Listed (file directory : List ℕ) (rec : Record) (k : ℕ) (out₀ out : List ℕ) : Type 0 where
  pub long : length out ≡ length out₀
  pub exact : Of file directory rec (λ xs. out ≡ page k (length out₀) xs)

-- the same, where block b has all these ranks
pub record ListedIn (file directory : List ℕ) (rec : Record) (b k : ℕ) (out₀ out : List ℕ) : Type 0 where
  pub long : length out ≡ length out₀
  pub exact : slice_index_or directory (2 * b) 0 ≤ k → k + length out₀ ≤ slice_index directory (2 * b + 2) → Of file directory rec (λ xs. out ≡ page k (length out₀) xs)

-- ---- batch select

-- ranks replaced by their rows
pub record Selected (file directory : List ℕ) (rec : Record) (ks out : List ℕ) : Type 0 where
  pub long : length out ≡ length ks
  pub exact : Of file directory rec (λ xs. out ≡ selects xs ks)

-- the ranks from i up to e are consecutive, and below `end` if the first is
pub record Run (ks : List ℕ) (i end e : ℕ) : Type 0 where
  pub some : i < e
  pub within : e ≤ length ks
  pub next : (j : ℕ) → j < e - i → slice_index ks (i + j) ≡ slice_index ks i + j
  pub below : slice_index_or ks i 0 < end → slice_index ks i + (e - i) ≤ end
