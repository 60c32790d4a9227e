-- Entries, one after the other: what is left of them decides the whole, and what those that are right add up to.
use Prim.Native.Nat.{ℕ, ◌+◌, ◌*◌, ◌≤◌, ◌<◌}
use mathlib.Core.Path.{◌≡◌, sym, ap, ap₂, ◌∙◌}
use mathlib.Core.Bool.{true, false, ◌&&◌}
use mathlib.Core.List.{List, [], ◌∷◌, map}
use native.Mathlib.Nat.{add_assoc, add-zero}
use native.Mathlib.Numerals.{add-one}
use native.Mathlib.Omega.{arith}
use lib.ListN.{length, get_or}
use lib.Dec.{leb, ltb}
use borrow.Author.Tests.{leb-true, ltb-true}
use Rattle.std.proofs.lemmas.List.{at_drop_all}
use Rattle.std.specs.Prelude.{Option, Some, None}
use Rattle.std.proofs.lemmas.Bool.{and_parts}
use Rattle.spec.specs.declared.Entry.{Entry}
use Rattle.spec.specs.Reading.{count_of_blocks, rows_at, entry_in, entries_ok, size_of_data, data_sizes}
use Rattle.spec.proofs.Content.{size_le}
use Rattle.judging.proofs.TableLaws.{left, left_some}
use Rattle.judging.specs.Phases.{is_entry, row_sum, totals_from}
use Rattle.judging.specs.declared.entries.Totals.{Totals}

-- ---- the first entry

-- what the test says of an entry
pub record Right (count low : ℕ) (x : Entry) : Type 0 where
  pub from : low ≤ x.number
  pub inside : x.number < count_of_blocks count
  pub few : x.rows ≤ rows_at count x.number

pub right : (count low : ℕ) (x : Entry) → is_entry count low x ≡ true → Right count low x
right count low x e =
    let p = and_parts (leb low x.number && ltb x.number (count_of_blocks count)) (leb x.rows (rows_at count x.number)) e in
    let q = and_parts (leb low x.number) (ltb x.number (count_of_blocks count)) p.0 in
    record { from = leb-true _ _ q.0; inside = ltb-true _ _ q.1; few = leb-true _ _ p.1 }

module _ (count low rows bytes : ℕ) (x : Entry) (es : List Entry) where
  totals_wrong : is_entry count low x ≡ false → totals_from count low rows bytes (x ∷ es) ≡ None
  unfolding totals_from entries_ok
  totals_wrong e = rw e

  totals_more : is_entry count low x ≡ true
      → totals_from count low rows bytes (x ∷ es) ≡ totals_from count (x.number + 1) (rows + x.rows) (bytes + size_of_data x.rows) es
  unfolding totals_from entries_ok row_sum data_sizes
  totals_more e = rw (e, add-one x.number, add_assoc rows x.rows (row_sum es), add_assoc bytes (size_of_data x.rows) (data_sizes es))

-- ---- the sums of the entries passed

-- those of blocks below `low` are small
pub record Small (count low rows bytes : ℕ) : Type 0 where
  pub blocks : low ≤ count_of_blocks count
  pub few : rows ≤ count
  pub fewer : rows ≤ 65536 * low
  pub bytes' : bytes ≤ 10240 * low

pub small_none : (count : ℕ) → Small count 0 0 0
small_none count = record { blocks = omega arith; few = omega arith; fewer = omega arith; bytes' = omega arith }

pub small_more : {count low rows bytes : ℕ} {x : Entry} → Small count low rows bytes → Right count low x
    → Small count (x.number + 1) (rows + x.rows) (bytes + size_of_data x.rows)
small_more {count} {low} {rows} {bytes} {x} s r =
    let f = r.from in
    let i = r.inside in
    let n = r.few in
    let z = size_le x.rows in
    record { blocks = omega arith; few = omega (arith, s.few, s.fewer); fewer = omega (arith, s.fewer); bytes' = omega (arith, s.bytes') }

-- on top of them, the entries left give what all entries give
pub record Adding (table : List (List ℕ)) (count : ℕ) (all : Option Totals) (low rows bytes i : ℕ) : Type 0 where
  pub walk : totals_from count low rows bytes (left table i) ≡ all
  pub small : Small count low rows bytes

module _ {table : List (List ℕ)} {count : ℕ} {all : Option Totals} {low rows bytes i : ℕ} (a : Adding table count all low rows bytes i) where
  pub adding_end : length table ≤ i → Some (record { rows = rows; size = bytes }) ≡ all
  unfolding totals_from entries_ok row_sum data_sizes
  adding_end h =
      sym (ap₂ (λ r b. Some (record { rows = r; size = b })) (add-zero rows) (add-zero bytes))
      ∙ sym (at_drop_all (λ l. totals_from count low rows bytes (map entry_in l)) table i h) ∙ a.walk

  module _ (x : Entry) (h : i < length table) (e : x ≡ entry_in (get_or table i [])) where
    first : totals_from count low rows bytes (x ∷ left table (i + 1)) ≡ all
    first = sym (ap (totals_from count low rows bytes) (left_some table i x h e)) ∙ a.walk

    pub adding_wrong : is_entry count low x ≡ false → None ≡ all
    adding_wrong o = sym (totals_wrong count low rows bytes x (left table (i + 1)) o) ∙ first

    pub adding_small : is_entry count low x ≡ true → Small count (x.number + 1) (rows + x.rows) (bytes + size_of_data x.rows)
    adding_small o = small_more a.small (right count low x o)

    pub adding_more : (n : ℕ) → n ≡ size_of_data x.rows → is_entry count low x ≡ true
        → Adding table count all (x.number + 1) (rows + x.rows) (bytes + n) (i + 1)
    adding_more n q o = rw q (record { walk = sym (totals_more count low rows bytes x (left table (i + 1)) o) ∙ first; small = adding_small o })
