-- A written file is accepted, with the row count and the blocks that it was written from.
use Prim.Native.Nat.{ℕ, suc, ◌+◌, ◌-◌, ◌*◌, ◌≤◌, ◌<◌}
use mathlib.Core.Path.{◌≡◌, refl, sym, ap, ap₂, ◌∙◌}
use mathlib.Core.Bool.{true, ◌&&◌}
use mathlib.Core.List.{List, [], ◌∷◌, ◌++◌, map, flat_map, append_assoc, append-nil}
use mathlib.Core.Option.{some}
use native.Mathlib.Nat.{zero-add}
use native.Mathlib.Omega.{arith}
use lib.ListN.{length, length-append}
use borrow.Author.Tests.{lt-ltb, le-leb}
use Rattle.spec.specs.declared.Entry.{Entry}
use Rattle.spec.specs.Layout.{bytes_of, groups, size, Block, data_of, all_data, entry_of, all_entries, written}
use Rattle.spec.specs.Reading.{limit, count_of_blocks, rows_at, number_in, part, ungroups, entry_in, entries_at, entries_ok, size_of_data, data_sizes, places_in, is_content, contents_ok, blocks_at, holds, entry_count, entry_start, entries_of, verdict}
use Rattle.spec.proofs.Bytes.{length_bytes, number_bytes, part_at, regroup, next_part, longer, entry_back}
use Rattle.spec.proofs.Rising.{rising_length}
use Rattle.spec.proofs.RowCount.{head_of, read_back, shortest_unpadded}
use Rattle.spec.proofs.Content.{length_data, places_back, content_back}
use Rattle.spec.proofs.Blocks.{Well, well_length}
use Rattle.spec.proofs.Verdict.{passed_holds}

-- the entry that a block has
abbrev pub entry_for : Block → Entry
entry_for g = record { number = g.number; rows = length g.places }

pub length_entry : (g : Block) → length (entry_of g) ≡ 4
unfolding entry_of
length_entry g = simp (length-append, length_bytes)

pub length_entries : (gs : List Block) → length (all_entries gs) ≡ 4 * length gs
unfolding all_entries flat_map
length_entries [] = refl
length_entries (g ∷ gs) = simp (length-append, length_entry, length_entries gs) (omega arith)

pub length_all_data : (gs : List Block) → length (all_data gs) ≡ data_sizes (map entry_for gs)
unfolding all_data data_sizes flat_map
length_all_data [] = refl
length_all_data (g ∷ gs) = length-append (data_of g.places) (all_data gs) ∙ ap₂ (λ a b. a + b) (length_data g.places) (length_all_data gs)

-- ---- entries

entries_back : (count low at : ℕ) (gs : List Block) (pre rest : List ℕ) → count ≤ limit → Well count low gs → length pre ≡ at
    → entries_at (length gs) at (pre ++ (all_entries gs ++ rest)) ≡ map entry_for gs
unfolding entries_at all_entries flat_map entry_of
entries_back count low at [] pre rest h w l = refl
entries_back count low at (g ∷ gs) pre rest h w l =
    let n = length_entry g in
    ap₂ (λ e es. e ∷ es)
    (ap entry_in (next_part pre (entry_of g) (all_entries gs) rest at (at + 4) l (omega arith))
    ∙ entry_back (entry_for g) (omega (arith, w.1)) w.2 (omega (arith, rising_length 0 (rows_at count g.number) g.places w.3)))
    (ap (entries_at (length gs) (at + 4)) (regroup pre (entry_of g) (all_entries gs) rest)
    ∙ entries_back count (suc g.number) (at + 4) gs (pre ++ entry_of g) rest h w.4 (longer pre (entry_of g) at (at + 4) l (omega arith)))

pub entries_pass : (count low : ℕ) (gs : List Block) → Well count low gs → entries_ok count low (map entry_for gs) ≡ true
unfolding entries_ok
entries_pass count low [] w = refl
entries_pass count low (g ∷ gs) w =
    let n : length g.places ≤ rows_at count g.number = omega (arith, rising_length 0 (rows_at count g.number) g.places w.3) in
    rw (le-leb low g.number w.0, lt-ltb g.number (count_of_blocks count) w.1, le-leb (length g.places) (rows_at count g.number) n)
    (entries_pass count (suc g.number) gs w.4)

-- ---- contents

module _ (count at : ℕ) (g : Block) (gs : List Block) (pre rest : List ℕ) (l : length pre ≡ at) where
  block_part : part at (at + size_of_data (length g.places)) (pre ++ ((data_of g.places ++ all_data gs) ++ rest)) ≡ data_of g.places
  block_part = next_part pre (data_of g.places) (all_data gs) rest at (at + size_of_data (length g.places)) l (ap (λ n. at + n) (length_data g.places))

  block_longer : length (pre ++ data_of g.places) ≡ at + size_of_data (length g.places)
  block_longer = longer pre (data_of g.places) at (at + size_of_data (length g.places)) l (ap (λ n. at + n) (length_data g.places))

rows_le : (count b : ℕ) → rows_at count b ≤ size
rows_le count b = omega arith

contents_pass : (count low at : ℕ) (gs : List Block) (pre rest : List ℕ) → Well count low gs → length pre ≡ at → contents_ok count (map entry_for gs) at (pre ++ (all_data gs ++ rest)) ≡ true
unfolding contents_ok all_data flat_map
contents_pass count low at [] pre rest w l = refl
contents_pass count low at (g ∷ gs) pre rest w l =
    let end = rows_at count g.number in
    ap₂ (λ a b. a && b)
    (ap (is_content (length g.places) end) (block_part count at g gs pre rest l) ∙ content_back end g.places (rows_le count g.number) w.3)
    (ap (contents_ok count (map entry_for gs) (at + size_of_data (length g.places))) (regroup pre (data_of g.places) (all_data gs) rest)
    ∙ contents_pass count (suc g.number) (at + size_of_data (length g.places)) gs (pre ++ data_of g.places) rest w.4 (block_longer count at g gs pre rest l))

blocks_back : (count low at : ℕ) (gs : List Block) (pre rest : List ℕ) → Well count low gs → length pre ≡ at → blocks_at (map entry_for gs) at (pre ++ (all_data gs ++ rest)) ≡ gs
unfolding blocks_at all_data flat_map
blocks_back count low at [] pre rest w l = refl
blocks_back count low at (g ∷ gs) pre rest w l =
    ap₂ (λ ps gs. record { number = g.number; places = ps } ∷ gs)
    (ap (places_in (length g.places)) (block_part count at g gs pre rest l) ∙ places_back (rows_at count g.number) g.places (rows_le count g.number) w.3)
    (ap (blocks_at (map entry_for gs) (at + size_of_data (length g.places))) (regroup pre (data_of g.places) (all_data gs) rest)
    ∙ blocks_back count (suc g.number) (at + size_of_data (length g.places)) gs (pre ++ data_of g.places) rest w.4 (block_longer count at g gs pre rest l))

-- ---- the file

pub length_written : (count : ℕ) (gs : List Block) → length (written count gs) ≡ length (groups 4 count) + data_sizes (map entry_for gs) + 4 * length gs + 2
unfolding written
length_written count gs = simp (length-append, length_bytes, length_entries, length_all_data) (omega arith)

module _ (count : ℕ) (gs : List Block) where
  -- all but the last two bytes, and these
  front : List ℕ
  front = groups 4 count ++ (all_data gs ++ all_entries gs)

  last : List ℕ
  last = bytes_of 2 (length gs)

  parted : written count gs ≡ front ++ last
  unfolding written front last
  parted = simp append_assoc

  length_front : length front ≡ length (written count gs) - 2
  unfolding last
  length_front = let e = ap length parted ∙ length-append front last in omega (arith, length_bytes 2 (length gs))

  head_read : count ≤ limit → ungroups 5 (part 0 (length (written count gs) - 2) (written count gs)) ≡ some (head_of count)
  unfolding front
  head_read h =
      ap (λ l. ungroups 5 (part 0 (length (written count gs) - 2) l)) parted
      ∙ ap (ungroups 5) (part_at [] front last 0 (length (written count gs) - 2) refl (zero-add (length front) ∙ length_front))
      ∙ read_back 4 count (all_data gs ++ all_entries gs) (omega arith)

  count_is_read : length gs < size → entry_count (written count gs) ≡ length gs
  unfolding last
  count_is_read h =
      let n = length (written count gs) in
      let l : n - 2 + length last ≡ n = omega (arith, length_bytes 2 (length gs), length_written count gs) in
      ap (λ l. number_in (part (n - 2) n l)) (parted ∙ ap (λ l. front ++ l) (sym (append-nil last)))
      ∙ ap number_in (part_at front last [] (n - 2) n length_front l) ∙ number_bytes 2 (length gs) h

  start_read : length gs < size → entry_start (written count gs) ≡ length (groups 4 count ++ all_data gs)
  start_read h = let e = count_is_read h in let l = length_written count gs in
      omega (arith, length-append (groups 4 count) (all_data gs), length_all_data gs)

  entries_read : count ≤ limit → Well count 0 gs → length gs < size → entries_of (written count gs) ≡ map entry_for gs
  unfolding written
  entries_read h w f =
      let e : written count gs ≡ (groups 4 count ++ all_data gs) ++ (all_entries gs ++ bytes_of 2 (length gs)) = simp append_assoc in
      ap₂ (λ n l. entries_at n (entry_start (written count gs)) l) (count_is_read f) e
      ∙ entries_back count 0 (entry_start (written count gs)) gs (groups 4 count ++ all_data gs) (bytes_of 2 (length gs)) h w (sym (start_read f))

pub accepted : (count : ℕ) (gs : List Block) → count ≤ limit → Well count 0 gs → verdict (written count gs) ≡ holds (head_of count) gs
unfolding written
accepted count gs h w =
    let H = groups 4 count in
    let rest : List ℕ = all_entries gs ++ bytes_of 2 (length gs) in
    let f : length gs < size = omega (arith, well_length count 0 gs w) in
    let n = count_is_read count gs f in
    let e = entries_read count gs h w f in
    let l = length_written count gs in
    let s : entry_start (written count gs) - length H ≡ data_sizes (map entry_for gs) =
    omega (arith, start_read count gs f, length-append H (all_data gs), length_all_data gs) in
    passed_holds (written count gs) (head_of count) (head_read count gs h)
    (record {
      unpadded = shortest_unpadded count (all_data gs ++ rest) (omega arith);
      limited = h;
      fits = omega arith;
      entries = ap (entries_ok count 0) e ∙ entries_pass count 0 gs w;
      sizes = s ∙ ap data_sizes (sym e);
      contents = ap (λ es. contents_ok count es (length H) (written count gs)) e ∙ contents_pass count 0 (length H) gs H rest w refl;
    })
    ∙ ap (holds (head_of count)) (ap (λ es. blocks_at es (length H) (written count gs)) e ∙ blocks_back count 0 (length H) gs H rest w refl)
