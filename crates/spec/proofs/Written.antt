-- What is accepted was written: an accepted file is the file of its blocks, and these are well formed.
use Prim.Native.Nat.{ℕ, zero, suc, ◌+◌, ◌-◌, ◌*◌, ◌≤◌, ◌<◌}
use mathlib.Core.Path.{◌≡◌, refl, sym, ap, ap₂, ◌∙◌, subst₂}
use mathlib.Core.Bool.{true, false, ◌&&◌, true≢false}
use mathlib.Core.List.{List, [], ◌∷◌, ◌++◌, map, flat_map}
use mathlib.Core.Option.{some}
use native.Mathlib.Nat.{zero-add}
use native.Mathlib.Omega.{arith}
use lib.ListN.{length, get_or, take, drop, length-map}
use lib.Seq.{take_at, take-take}
use lib.Dec.{leb, ltb}
use borrow.Author.Tests.{ltb-true, ltb-false, leb-true, eq-eqb}
use Rattle.std.proofs.lemmas.Bool.{and_parts, and_from}
use Rattle.spec.specs.declared.Entry.{Entry}
use Rattle.spec.specs.Layout.{bytes_of, groups, entry_bytes, Block, all_data, entry_of, all_entries, written}
use Rattle.spec.specs.Reading.{limit, count_of_blocks, rows_at, AreBytes, part, Head, padded, entry_in, entries_at, entries_ok, size_of_data, data_sizes, is_content, contents_ok, blocks_at, Verdict, holds, entry_count, entry_start, entries_of, verdict}
use Rattle.spec.proofs.Tests.{by_test}
use Rattle.spec.proofs.Bytes.{length_part, part_join, part_none, part_all, bytes_part, part_number, get_or_part, bytes_back}
use Rattle.spec.proofs.RowCount.{head_of, Headed, headed}
use Rattle.spec.proofs.Content.{Block-written, block_written}
use Rattle.spec.proofs.Blocks.{Well}
use Rattle.spec.proofs.Verdict.{head_in, Passed, View, refuses, accepts, view}
use Rattle.spec.proofs.Accepted.{entry_for}

-- ---- entries

entries_written : (e at to : ℕ) (file : List ℕ) → AreBytes file → at + 4 * e ≡ to → to ≤ length file → flat_map entry_bytes (entries_at e at file) ≡ part at to file
unfolding entries_at flat_map
entries_written zero at to file y p l = sym (part_none at to file (omega arith))
entries_written (suc e) at to file y p l =
    ap₂ (λ a b. a ++ b) (bytes_back (part at (at + 4) file) (bytes_part at (at + 4) file y) (length_part at (at + 4) file (omega arith) (omega arith) ∙ omega arith))
    (entries_written e (at + 4) to file y (omega arith) l)
    ∙ part_join at (at + 4) to file (omega arith) (omega arith)

entry_to_bytes : (gs : List Block) → flat_map entry_bytes (map entry_for gs) ≡ all_entries gs
unfolding all_entries flat_map entry_of
entry_to_bytes [] = refl
entry_to_bytes (g ∷ gs) = ap (λ t. entry_of g ++ t) (entry_to_bytes gs)

length_entries_at : (e at : ℕ) (file : List ℕ) → length (entries_at e at file) ≡ e
unfolding entries_at
length_entries_at zero at file = refl
length_entries_at (suc e) at file = ap suc (length_entries_at e (at + 4) file)

-- an entry has at least one row
abbrev Some : List Entry → Type 0
Some [] = Unit {0}
Some (e ∷ es) = (0 < e.rows) × Some es

entries_some : (e at : ℕ) (file : List ℕ) → Some (entries_at e at file)
unfolding entries_at entry_in
entries_some zero at file = tt
entries_some (suc e) at file = (omega arith, entries_some e (at + 4) file)

-- ---- blocks

record Blocks-written (count low at to : ℕ) (es : List Entry) (file : List ℕ) : Type 0 where
  entries' : map entry_for (blocks_at es at file) ≡ es
  bytes : all_data (blocks_at es at file) ≡ part at to file
  well : Well count low (blocks_at es at file)

blocks_written : (count low at to : ℕ) (es : List Entry) (file : List ℕ) → Some es → AreBytes file → entries_ok count low es ≡ true → at + data_sizes es ≡ to → to ≤ length file
    → contents_ok count es at file ≡ true → Blocks-written count low at to es file
unfolding entries_ok data_sizes contents_ok blocks_at all_data flat_map
blocks_written count low at to [] file s y o e l k = record { entries' = refl; bytes = sym (part_none at to file (omega arith)); well = tt }
blocks_written count low at to (x ∷ es) file s y o e l k =
    let n = size_of_data x.rows in
    let end = rows_at count x.number in
    let o1 = and_parts (leb low x.number && ltb x.number (count_of_blocks count) && leb x.rows end) (entries_ok count (suc x.number) es) o in
    let o2 = and_parts (leb low x.number && ltb x.number (count_of_blocks count)) (leb x.rows end) o1.0 in
    let o3 = and_parts (leb low x.number) (ltb x.number (count_of_blocks count)) o2.0 in
    let k1 = and_parts (is_content x.rows end (part at (at + n) file)) (contents_ok count es (at + n) file) k in
    let b : Block-written x.rows end (part at (at + n) file) =
    block_written x.rows end (part at (at + n) file) (bytes_part at (at + n) file y) (length_part at (at + n) file (omega arith) (omega arith) ∙ omega arith) k1.0 in
    let r : Blocks-written count (suc x.number) (at + n) to es file = blocks_written count (suc x.number) (at + n) to es file s.1 y o1.1 (omega arith) l k1.1 in
    record {
      entries' = ap₂ (λ m t. record { number = x.number; rows = m } ∷ t) b.many r.entries';
      bytes = ap₂ (λ a t. a ++ t) b.bytes r.bytes ∙ part_join at (at + n) to file (omega arith) (omega arith);
      well = (leb-true low x.number o3.0, ltb-true x.number (count_of_blocks count) o3.1, rw b.many s.0, b.places, r.well);
    }

-- ---- the file

-- the row count at the front, read and not padded, is in the shortest form
module _ (file : List ℕ) (h : Head) (y : AreBytes file) (p : head_in file ≡ some h) (u : padded h file ≡ false) where
  read : Headed 4 (part 0 (length file - 2) file) h
  read = headed 4 (part 0 (length file - 2) file) h (bytes_part 0 (length file - 2) file y) p

  read_within : (1 ≤ h.start) × (h.start ≤ length file - 2)
  read_within = (read.from, omega (arith, read.upto, length_part 0 (length file - 2) file (omega arith) (omega arith)))

  last_alone : get_or (part 0 (length file - 2) file) (h.start - 1) 0 ≡ 128 → h.start ≡ 1
  last_alone e =
      let w = read_within in
      let f : get_or file (h.start - 1) 0 ≡ 128 = ap (λ i. get_or file i 0) (sym (zero-add (h.start - 1))) ∙ sym (get_or_part 0 (length file - 2) file (h.start - 1) (omega arith)) ∙ e in
      by_test (ltb 1 h.start)
      (λ t. absurd (true≢false (sym (and_from _ _ t (eq-eqb _ _ f)) ∙ u)))
      (λ t. omega (arith, ltb-false 1 h.start t))

  read_start : h.start ≡ length (groups 4 h.count)
  read_start = (read.shortest last_alone).1

  read_front : part 0 h.start file ≡ groups 4 h.count
  unfolding part
  read_front =
      let P = part 0 (length file - 2) file in
      sym (take-take (h.start - 0) (length file - 2 - 0) file (omega (arith, read_within)))
      ∙ ap (take (h.start - 0)) (read.shortest last_alone).0 ∙ take_at (groups 4 h.count) (drop h.start P) (h.start - 0) (omega (arith, read_start))

pub record Was-written (file : List ℕ) (h : Head) (gs : List Block) : Type 0 where
  pub limited : h.count ≤ limit
  pub head : h ≡ head_of h.count
  pub well : Well h.count 0 gs
  pub bytes : file ≡ written h.count gs
  pub entries' : entries_of file ≡ map entry_for gs
  pub fits : 4 * entry_count file + 2 ≤ length file

passed_written : (file : List ℕ) (h : Head) → AreBytes file → head_in file ≡ some h → Passed file h → Was-written file h (blocks_at (entries_of file) h.start file)
unfolding written
passed_written file h y p t =
    let u = t.unpadded in
    let fits = t.fits in
    let sizes = t.sizes in
    let n = length file in
    let at = entry_start file in
    let es = entries_of file in
    let gs = blocks_at es h.start file in
    let start = read_start file h y p u in
    let b : Blocks-written h.count 0 h.start at es file =
    blocks_written h.count 0 h.start at es file (entries_some (entry_count file) at file) y t.entries (omega arith) (omega arith) t.contents in
    let e : entry_count file ≡ length gs = sym (length_entries_at (entry_count file) at file) ∙ ap length (sym b.entries') ∙ length-map gs entry_for in
    let es' : part at (n - 2) file ≡ all_entries gs =
    sym (entries_written (entry_count file) at (n - 2) file y (omega arith) (omega arith)) ∙ ap (flat_map entry_bytes) (sym b.entries') ∙ entry_to_bytes gs in
    let last : part (n - 2) n file ≡ bytes_of 2 (length gs) = sym (part_number 2 (n - 2) n file y (omega arith) (omega arith)) ∙ ap (bytes_of 2) e in
    record {
      limited = t.limited;
      head = λ i. record { count = h.count; start = start i };
      well = b.well;
      bytes =
          sym (part_all file)
          ∙ sym (part_join 0 h.start n file (omega arith) (omega arith)
          ) ∙ ap₂ (λ a b. a ++ b) (read_front file h y p u)
          (sym (part_join h.start at n file (omega arith) (omega arith))
          ∙ ap₂ (λ a b. a ++ b) (sym b.bytes) (sym (part_join at (n - 2) n file (omega arith) (omega arith)) ∙ ap₂ (λ a b. a ++ b) es' last));
      entries' = sym b.entries';
      fits = omega arith;
    }

pub was_written : (file : List ℕ) (h : Head) (gs : List Block) → AreBytes file → verdict file ≡ holds h gs → Was-written file h gs
was_written file h gs y v = go (verdict file) (view file) v
  where
    go : (v : Verdict) → View file v → v ≡ holds h gs → Was-written file h gs
    go v (refuses k m) e = absurd (let z : ◌≡◌ {A = ℕ} 0 1 = cc in omega arith)
    go v (accepts h₀ p t) e =
        let same : h₀ ≡ h = cc in
        let blocks : blocks_at (entries_of file) h₀.start file ≡ gs = cc in
        subst₂ (Was-written file) same blocks (passed_written file h₀ y p t)
