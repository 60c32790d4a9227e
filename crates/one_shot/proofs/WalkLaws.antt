-- The walk over a file's entries: where those left lead, from the rows and the bytes so far, is where all lead.
use Prim.Native.Nat.{ℕ, zero, suc, ◌+◌, ◌-◌, ◌*◌, ◌^◌, ◌≤◌, ◌<◌}
use mathlib.Core.Path.{◌≡◌, refl, sym, ap, subst, ◌∙◌}
use mathlib.Core.Bool.{Bool, cond, true, false}
use mathlib.Core.List.{List, [], ◌∷◌, map}
use native.Mathlib.Omega.{arith}
use borrow.Author.Tests.{lt-ltb, le-ltb, eq-eqb, ne_eqb, eqb-true, eqb-false, leb-true, leb-false}
use lib.Dec.{ltb, leb, eqb}
use lib.ListN.{length, get_or, drop_of_length-le, length-map}
use Rattle.spec.specs.declared.Entry.{Entry}
use Rattle.spec.specs.Reading.{AreBytes, entry_in, entries_at, entry_count, entries_of, size_of_data}
use Rattle.spec.proofs.Bytes.{part_number_lt}
use Rattle.spec.proofs.Content.{size_le}
use Rattle.spec.proofs.Tests.{by_test}
use Rattle.judging.proofs.TableLaws.{left, left_some}
use Rattle.one_shot.specs.Spots.{spot_from, holder_from, Found}
use Rattle.one_shot.specs.declared.spots.Spot.{Spot}

-- ---- a file has fewer than 65,536 entries

length_entries_at : (n at : ℕ) (file : List ℕ) → length (entries_at n at file) ≡ n
unfolding entries_at
length_entries_at zero at file = refl
length_entries_at (suc n) at file = ap suc (length_entries_at n (at + 4) file)

pub few_entries : (table : List (List ℕ)) (file : List ℕ) → AreBytes file → 2 ≤ length file → map entry_in table ≡ entries_of file → length table < 2 ^ 16
few_entries table file y h e =
    let n : length table ≡ entry_count file = sym (length-map table entry_in) ∙ ap length e ∙ length_entries_at _ _ file in
    omega (arith, n, part_number_lt 2 (length file - 2) (length file) file y (omega arith) (omega arith))

-- ---- from entry to entry

-- where the entries left lead from the rows and the bytes so far, all lead; both are small: no entry has 2 ^ 32 rows
pub record Leading (says : ℕ → ℕ → Bool → Type 0) (table : List (List ℕ)) (all : Spot → Type 0) (rows from i : ℕ) : Type 0 where
  pub walk : (s : Spot) → Found says rows from (left table i) s → all s
  pub few : rows ≤ 4294967296 * i
  pub short : from ≤ 4294967296 + 10240 * i

pub leading_none : (says : ℕ → ℕ → Bool → Type 0) (table : List (List ℕ)) (file : List ℕ) (start : ℕ) → start < 2 ^ 32
    → map entry_in table ≡ entries_of file → Leading says table (Found says 0 start (entries_of file)) 0 start 0
leading_none says table file start l e = record { walk = λ s f. subst (λ es. Found says 0 start es s) e f; few = omega arith; short = omega arith }

module _ {says : ℕ → ℕ → Bool → Type 0} {table : List (List ℕ)} {all : Spot → Type 0} {rows from i : ℕ} (p : Leading says table all rows from i) where
  pub leads_none : length table ≤ i → all (record { number = 0; rows = rows; from = from; to = from })
  unfolding Found
  leads_none h = let none' : left table i ≡ [] = ap (map entry_in) (drop_of_length-le table {i = i} h) in p.walk _ (rw none' refl)

  module _ (x : Entry) (n : ℕ) (h : i < length table) (e : x ≡ entry_in (get_or table i [])) (q : n ≡ size_of_data x.rows) where
    -- the test takes this entry
    pub leads_here : says x.number (rows + x.rows) true → all (record { number = x.number; rows = rows; from = from; to = from + n })
    unfolding Found
    leads_here t = p.walk _ (rw (left_some table i x h e) (true, t, rw q refl))

    -- it does not
    pub leads_on : x.rows < 2 ^ 32 → says x.number (rows + x.rows) false → Leading says table all (rows + x.rows) (from + n) (i + 1)
    unfolding Found
    leads_on l t =
        let z = size_le x.rows in
        record {
          walk = λ s f. p.walk s (rw (left_some table i x h e) (false, t, rw q at f));
          few = omega (arith, p.few);
          short = omega (arith, p.short);
        }

-- ---- one entry, for a block

module _ (b rows at : ℕ) (x : Entry) (es : List Entry) where
  pub spot_here : x.number ≡ b → spot_from b rows at (x ∷ es) ≡ record { number = b; rows = rows; from = at; to = at + size_of_data x.rows }
  unfolding spot_from
  spot_here e = rw (eq-eqb x.number b e)

  pub spot_empty : b < x.number → spot_from b rows at (x ∷ es) ≡ record { number = b; rows = rows; from = at; to = at }
  unfolding spot_from
  spot_empty l = rw (ne_eqb x.number b (λ e. omega (arith, e)), lt-ltb b x.number l)

  pub spot_later : x.number < b → spot_from b rows at (x ∷ es) ≡ spot_from b (rows + x.rows) (at + size_of_data x.rows) es
  unfolding spot_from
  spot_later l = rw (ne_eqb x.number b (λ e. omega (arith, e)), le-ltb b x.number (omega arith))

-- ---- one entry, for a rank

module _ (k rows at : ℕ) (x : Entry) (es : List Entry) where
  pub holder_here : k < rows + x.rows → holder_from k rows at (x ∷ es) ≡ record { number = x.number; rows = rows; from = at; to = at + size_of_data x.rows }
  unfolding holder_from
  holder_here l = rw (lt-ltb k (rows + x.rows) l)

  pub holder_later : rows + x.rows ≤ k → holder_from k rows at (x ∷ es) ≡ holder_from k (rows + x.rows) (at + size_of_data x.rows) es
  unfolding holder_from
  holder_later l = rw (le-ltb k (rows + x.rows) l)

-- ---- where a test leads

module _ (says : ℕ → ℕ → Bool → Type 0) where
  pub found_holder : (k : ℕ) → ((number after : ℕ) (t : Bool) → says number after t → t ≡ ltb k after) → (rows at : ℕ) (es : List Entry) (s : Spot)
      → Found says rows at es s → s ≡ holder_from k rows at es
  unfolding holder_from Found
  found_holder k is rows at [] s f = f
  found_holder k is rows at (e ∷ es) s (true, t, f) = rw (sym (is _ _ _ t)) f
  found_holder k is rows at (e ∷ es) s (false, t, f) = rw (sym (is _ _ _ t)) (found_holder k is (rows + e.rows) (at + size_of_data e.rows) es s f)

  pub found_spot : (b : ℕ) → ((number after : ℕ) (t : Bool) → says number after t → t ≡ leb b number) → (rows at : ℕ) (es : List Entry) (s : Spot)
      → Found says rows at es s → cond (eqb s.number b) s (record { number = b; rows = s.rows; from = s.from; to = s.from }) ≡ spot_from b rows at es
  unfolding spot_from Found
  found_spot b is rows at [] s f =
      by_test (eqb 0 b)
      (λ q. rw (f, q) (ap (λ n. record { number = n; rows = rows; from = at; to = at }) (eqb-true 0 b q)))
      (λ q. rw (f, q) refl)
  found_spot b is rows at (e ∷ es) s (true, t, f) =
      let le = leb-true b e.number (sym (is _ _ _ t)) in
      by_test (eqb e.number b)
      (λ q. rw (f, q) (ap (λ n. record { number = n; rows = rows; from = at; to = at + size_of_data e.rows }) (eqb-true e.number b q)))
      (λ q. rw (f, q, lt-ltb b e.number (lib.Arith.lt_of_le-ne le (λ z. eqb-false e.number b q (sym z)))) refl)
  found_spot b is rows at (e ∷ es) s (false, t, f) =
      let lt = leb-false b e.number (sym (is _ _ _ t)) in
      rw (spot_later b rows at e es lt) (found_spot b is (rows + e.rows) (at + size_of_data e.rows) es s f)
