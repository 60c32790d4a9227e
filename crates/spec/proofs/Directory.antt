-- What opening gave together: the directory's words, and the part of the file that holds a block's data.
use Prim.Native.Nat.{ℕ, zero, suc, ◌+◌, ◌*◌, ◌≤◌, ◌<◌}
use mathlib.Core.Path.{◌≡◌, refl, sym, ap, ◌∙◌}
use mathlib.Core.Bool.{false}
use mathlib.Core.List.{List, [], ◌∷◌, ◌++◌}
use native.Mathlib.Nat.{zero-add}
use native.Mathlib.Omega.{arith}
use lib.ListN.{length, get_or, length-append, length-take}
use lib.Seq.{get_or-take}
use borrow.Author.Tests.{lt-ltb}
use Rattle.spec.specs.declared.Record.{Record}
use Rattle.spec.specs.Layout.{bytes_of, groups, size, Block, rows_of, data_of, all_data, all_entries, written}
use Rattle.spec.specs.Reading.{count_of_blocks, AreBytes, part, Head, rows_before, bytes_before, pairs, directory_of, directory_length, Given}
use Rattle.spec.specs.Answers.{value, OpenOwes, broken}
use Rattle.spec.proofs.Rising.{Rising, rising_length}
use Rattle.spec.proofs.Questions.{rank_low, rank_all}
use Rattle.spec.proofs.Promises.{length_directory, open_given}
use Rattle.spec.proofs.Asking.{not_broken}
use Rattle.spec.proofs.RowCount.{groups_length}
use Rattle.spec.proofs.Content.{length_data}
use Rattle.spec.proofs.Blocks.{Well, well_rows}
use Rattle.spec.proofs.Accepted.{length_all_data, length_written}
use Rattle.spec.proofs.Written.{Was-written, was_written}
use Rattle.spec.proofs.Cut.{places_of}
use Rattle.spec.proofs.Splits.{bytes_before_next, bytes_before_le, block_data}

-- ---- the directory's words

pair_at : (f b k : ℕ) (gs : List Block) → k < f
    → (get_or (pairs f b gs) (2 * k) 0 ≡ rows_before (b + k) gs) × (get_or (pairs f b gs) (2 * k + 1) 0 ≡ bytes_before (b + k) gs)
unfolding pairs
pair_at zero b k gs h = absurd (omega arith)
pair_at (suc f) b zero gs h = let e : b ≡ b + 0 = omega arith in (ap (λ n. rows_before n gs) e, ap (λ n. bytes_before n gs) e)
pair_at (suc f) b (suc k) gs h =
    let i = pair_at f (suc b) k gs (omega arith) in
    let e : suc b + k ≡ b + suc k = omega arith in
    let m : 2 * suc k ≡ suc (suc (2 * k)) = omega arith in
    let n : 2 * suc k + 1 ≡ suc (suc (2 * k + 1)) = omega arith in (
      ap (λ n. get_or (pairs (suc f) b gs) n 0) m ∙ i.0 ∙ ap (λ n. rows_before n gs) e,
      ap (λ n. get_or (pairs (suc f) b gs) n 0) n ∙ i.1 ∙ ap (λ n. bytes_before n gs) e,
    )

-- all data are before block B
bytes_all : (count low b : ℕ) (gs : List Block) → count_of_blocks count ≤ b → Well count low gs → bytes_before b gs ≡ length (all_data gs)
unfolding bytes_before all_data mathlib.Core.List.flat_map
bytes_all count low b [] h w = refl
bytes_all count low b (g ∷ gs) h w =
    let n = w.1 in
    rw (lt-ltb g.number b (omega arith), bytes_all count (suc g.number) b gs h w.4)
    (omega (arith, length-append (data_of g.places) (all_data gs), length_data g.places))

-- ---- what opening gave together

module _ (file directory : List ℕ) (rec : Record) (h : Head) (gs : List Block) (y : AreBytes file) (given : Given file directory rec h gs) where
  pub given_written : Was-written file h gs
  given_written = was_written file h gs y given.accepted

  row_count : rec.row_count ≡ h.count
  row_count = ap (λ r. r.row_count) given.record'

  pub given_well : Well rec.row_count 0 gs
  given_well = rw row_count given_written.well

  pub given_rise : Rising 0 rec.row_count (rows_of gs)
  given_rise = well_rows rec.row_count 0 gs given_well

  pub given_populated : rec.populated ≡ length (rows_of gs)
  given_populated = ap (λ r. r.populated) given.record'

  pub given_start : rec.data_start ≡ length (groups 4 rec.row_count)
  given_start = ap (λ r. r.data_start) given.record' ∙ ap (λ k. k.start) given_written.head ∙ ap (λ n. length (groups 4 n)) (sym row_count)

  pub given_room : directory_length rec.row_count ≤ length directory
  given_room = omega (arith, row_count, length_directory h.count gs, ap length given.words, length-take (directory_length h.count) directory)

  word : (k : ℕ) → k < directory_length rec.row_count → get_or directory k 0 ≡ get_or (directory_of h.count gs) k 0
  word k l = let e = row_count in sym (get_or-take (directory_length h.count) directory k 0 (omega arith)) ∙ ap (λ l. get_or l k 0) given.words

  -- for each block the populated rows, and the data bytes, in all blocks before it
  pub word_rows : (b : ℕ) → b ≤ count_of_blocks rec.row_count → get_or directory (2 * b) 0 ≡ rows_before b gs
  unfolding directory_of
  word_rows b l =
      let e = row_count in
      word (2 * b) (omega arith) ∙ (pair_at (suc (count_of_blocks h.count)) 0 b gs (omega arith)).0 ∙ ap (λ n. rows_before n gs) (zero-add b)

  pub word_bytes : (b : ℕ) → b ≤ count_of_blocks rec.row_count → get_or directory (2 * b + 1) 0 ≡ bytes_before b gs
  unfolding directory_of
  word_bytes b l =
      let e = row_count in
      word (2 * b + 1) (omega arith) ∙ (pair_at (suc (count_of_blocks h.count)) 0 b gs (omega arith)).1 ∙ ap (λ n. bytes_before n gs) (zero-add b)

  -- the first pair is 0 0; the closing pair is the populated total n and the data length
  pub first_word : get_or directory 0 0 ≡ 0
  first_word = word_rows 0 (omega arith) ∙ rank_low 0 rec.row_count (rows_of gs) given_rise 0 (omega arith)

  pub closing_rows : get_or directory (2 * count_of_blocks rec.row_count) 0 ≡ rec.populated
  closing_rows =
      let B = count_of_blocks rec.row_count in
      word_rows B (omega arith) ∙ rank_all 0 rec.row_count (rows_of gs) given_rise (B * size) (omega arith) ∙ sym given_populated

  pub closing_bytes : get_or directory (2 * count_of_blocks rec.row_count + 1) 0 ≡ length (all_data gs)
  closing_bytes =
      let B = count_of_blocks rec.row_count in word_bytes B (omega arith) ∙ bytes_all rec.row_count 0 B gs (omega arith) given_well

  -- row count, data, entries and their number fill the file
  pub given_length : length file ≡ rec.data_start + length (all_data gs) + 4 * length gs + 2
  given_length =
      ap length given_written.bytes ∙ length_written h.count gs ∙ omega (arith, given_start, ap (λ n. length (groups 4 n)) row_count, length_all_data gs)

  -- it is not BROKEN
  pub given_unbroken : broken file directory rec ≡ false
  given_unbroken =
      let e = row_count in
      let start = given_start in
      let g = groups_length 4 rec.row_count in
      not_broken file directory rec (record {
        count = omega (arith, given_written.limited);
        populated = omega (arith, given_populated, rising_length 0 rec.row_count (rows_of gs) given_rise);
        words = given_room;
        total = closing_rows;
        from = omega arith;
        upto = omega arith;
        bytes = omega (arith, closing_bytes, given_length);
      })

  -- the part of the file that holds the data of block b
  module _ (b : ℕ) (l : b < count_of_blocks rec.row_count) where
    next_word : get_or directory (2 * b + 3) 0 ≡ bytes_before (b + 1) gs
    next_word = let e : 2 * b + 3 ≡ 2 * (b + 1) + 1 = omega arith in ap (λ i. get_or directory i 0) e ∙ word_bytes (b + 1) (omega arith)

    pub leads_within : (get_or directory (2 * b + 1) 0 ≤ get_or directory (2 * b + 3) 0) × (rec.data_start + get_or directory (2 * b + 3) 0 ≤ length file)
    leads_within =
        let n = next_word in
        let m = word_bytes b (omega arith) in
        let k = bytes_before_next rec.row_count gs given_well b in
        (omega arith, omega (arith, given_length, bytes_before_le rec.row_count gs given_well (b + 1)))

    pub leads : part (rec.data_start + get_or directory (2 * b + 1) 0) (rec.data_start + get_or directory (2 * b + 3) 0) file ≡ data_of (places_of b gs)
    unfolding written
    leads =
        rw (word_bytes b (omega arith), next_word)
        (ap (part (rec.data_start + bytes_before b gs) (rec.data_start + bytes_before (b + 1) gs)) given_written.bytes
        ∙ block_data rec.row_count gs given_well b rec.data_start (groups 4 h.count) (all_entries gs ++ bytes_of 2 (length gs))
        (ap (λ n. length (groups 4 n)) (sym row_count) ∙ sym given_start))

-- ---- what opening gives is given together, and never BROKEN

pub open_unbroken : (file directory directory' : List ℕ) (rec : Record) → AreBytes file → OpenOwes file directory (value rec, directory')
    → broken file directory' rec ≡ false
open_unbroken file directory directory' rec y w =
    let g = open_given file directory directory' rec w in given_unbroken file directory' rec g.0 g.1 y g.2
