-- Filling a directory: pair by pair, and run by run.
use Prim.Native.Nat.{ℕ, zero, suc, ◌+◌, ◌-◌, ◌*◌, ◌≤◌, ◌<◌}
use mathlib.Core.Path.{◌≡◌, refl, sym, ◌∙◌}
use mathlib.Core.Bool.{true}
use mathlib.Core.List.{List, [], ◌∷◌, map}
use native.Mathlib.Numerals.{add-one}
use native.Mathlib.Omega.{arith}
use lib.ListN.{length, get_or, set, length-set}
use lib.Seq.{sets, length-sets}
use Rattle.std.proofs.lemmas.List.{at_drop_all}
use Rattle.std.proofs.lemmas.Bool.{and_parts}
use Rattle.spec.specs.declared.Entry.{Entry}
use Rattle.spec.specs.Reading.{count_of_blocks, entry_in, entries_ok, size_of_data}
use Rattle.words.proofs.StoreLaws.{sets_append}
use Rattle.judging.specs.Phases.{is_entry}
use Rattle.judging.proofs.TableLaws.{left, left_some}
use Rattle.judging.proofs.EntryLaws.{Right, right, Small, small_more}
use Rattle.opening.specs.Filling.{same}
use Rattle.opening.proofs.PairLaws.{runs}

-- ---- the same pair over and over

length_same : (f rows bytes : ℕ) → length (same f rows bytes) ≡ 2 * f
unfolding same
length_same zero rows bytes = refl
length_same (suc f) rows bytes = let i = length_same f rows bytes in omega arith

-- the pairs left, from block b on, make of d what all make of d₀
pub record Putting (d₀ : List ℕ) (from to rows bytes : ℕ) (d : List ℕ) (b : ℕ) : Type 0 where
  pub within : b ≤ to
  pub long : length d ≡ length d₀
  pub left : sets d (2 * b) (same (to - b) rows bytes) ≡ sets d₀ (2 * from) (same (to - from) rows bytes)

module _ {d₀ : List ℕ} {from to rows bytes : ℕ} {d : List ℕ} {b : ℕ} (p : Putting d₀ from to rows bytes d b) where
  pub put_more : b < to → Putting d₀ from to rows bytes (set (set d (2 * b) rows) (2 * b + 1) bytes) (b + 1)
  unfolding same
  put_more h =
      let one : to - b ≡ suc (to - (b + 1)) = omega arith in
      let next : 2 * (b + 1) ≡ suc (suc (2 * b)) = omega arith in
      record { within = omega arith; long = simp length-set p.long; left = rw (next, add-one (2 * b)) (rw one at p.left) }

  pub put_all : to ≤ b → d ≡ sets d₀ (2 * from) (same (to - from) rows bytes)
  unfolding same
  put_all h = let z : to - b ≡ 0 = omega arith in rw z at p.left

-- ---- run after run

-- the entries left are right behind block b, and their runs make of d what all make of d₀
pub record Filling (d₀ : List ℕ) (table : List (List ℕ)) (count : ℕ) (all d : List ℕ) (b rows bytes i : ℕ) : Type 0 where
  pub entries : entries_ok count b (left table i) ≡ true
  pub small : Small count b rows bytes
  pub long : length d ≡ length d₀
  pub runs' : sets d (2 * b) (runs (count_of_blocks count) b rows bytes (left table i)) ≡ all

module _ {d₀ : List ℕ} {table : List (List ℕ)} {count : ℕ} {all d : List ℕ} {b rows bytes i : ℕ} (f : Filling d₀ table count all d b rows bytes i) where
  pub fill_end : length table ≤ i → sets d (2 * b) (same (count_of_blocks count + 1 - b) rows bytes) ≡ all
  unfolding runs
  fill_end h = sym (at_drop_all (λ l. sets d (2 * b) (runs (count_of_blocks count) b rows bytes (map entry_in l))) table i h) ∙ f.runs'

  module _ (x : Entry) (h : i < length table) (e : x ≡ entry_in (get_or table i [])) where
    next : left table i ≡ x ∷ left table (i + 1)
    next = left_some table i x h e

    first : (is_entry count b x ≡ true) × (entries_ok count (suc x.number) (left table (i + 1)) ≡ true)
    unfolding entries_ok
    first = and_parts (is_entry count b x) (entries_ok count (suc x.number) (left table (i + 1))) (rw next at f.entries)

    pub fill_right : Right count b x
    fill_right = right count b x first.0

    pub fill_small : Small count (x.number + 1) (rows + x.rows) (bytes + size_of_data x.rows)
    fill_small = small_more f.small fill_right

    pub fill_more : (n : ℕ) (d' : List ℕ) → n ≡ size_of_data x.rows → d' ≡ sets d (2 * b) (same (x.number + 1 - b) rows bytes)
        → Filling d₀ table count all d' (x.number + 1) (rows + x.rows) (bytes + n) (i + 1)
    unfolding runs
    fill_more n d' q w =
        let run = same (x.number + 1 - b) rows bytes in
        let behind = runs (count_of_blocks count) (x.number + 1) (rows + x.rows) (bytes + size_of_data x.rows) (left table (i + 1)) in
        let l = fill_right.from in
        let to : 2 * b + length run ≡ 2 * (x.number + 1) = omega (arith, length_same (x.number + 1 - b) rows bytes) in
        rw (q, w) (record {
          entries = rw (add-one x.number) first.1;
          small = fill_small;
          long = length-sets d (2 * b) run ∙ f.long;
          runs' = sym (sets_append run behind d (2 * b) (2 * (x.number + 1)) to) ∙ (rw next at f.runs');
        })
