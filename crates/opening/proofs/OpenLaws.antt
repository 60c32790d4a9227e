-- What open owes, from the verdict; and what an accepted file hands to the filling of its directory.
use Prim.Native.Nat.{ℕ, ◌+◌, ◌-◌, ◌*◌, ◌≤◌, ◌<◌}
use mathlib.Core.Path.{◌≡◌, refl, sym, ap, ap₂, ◌∙◌}
use mathlib.Core.Bool.{true}
use mathlib.Core.List.{List, ◌++◌, map}
use native.Mathlib.Omega.{arith}
use borrow.Author.Tests.{lt-ltb, le-ltb}
use lib.ListN.{length, drop}
use lib.Seq.{sets}
use Rattle.spec.specs.declared.Record.{Record}
use Rattle.spec.specs.Reading.{number_in, part, entry_in, AreBytes, Verdict, fault, holds, verdict, entries_ok, entry_count, entries_of, record_of, count_of_blocks, directory_of, directory_length}
use Rattle.spec.specs.Answers.{value, refused, say_open, OpenOwes, directory_in}
use Rattle.spec.proofs.Promises.{length_directory}
use Rattle.spec.proofs.Accepted.{entries_pass}
use Rattle.spec.proofs.Written.{was_written}
use Rattle.words.proofs.StoreLaws.{sets_front}
use Rattle.judging.specs.Phases.{judged}
use Rattle.judging.proofs.EntryLaws.{small_none}
use Rattle.judging.proofs.JudgeLaws.{entry_count_back}
use Rattle.opening.specs.Filling.{Accepts}
use Rattle.opening.proofs.PairLaws.{runs, directory_runs}
use Rattle.opening.proofs.FillLaws.{Filling}

-- ---- what is owed

-- a record that was judged is that of the blocks
pub accepted : (file : List ℕ) (rec : Record) → value rec ≡ judged (verdict file)
    → (a : Accepts file rec.row_count) × (rec ≡ record_of (record { count = rec.row_count; start = a.start }) a.blocks)
accepted file rec e = go (verdict file) refl e
  where
    go : (v : Verdict) → verdict file ≡ v → value rec ≡ judged v
        → (a : Accepts file rec.row_count) × (rec ≡ record_of (record { count = rec.row_count; start = a.start }) a.blocks)
    go (fault k) p q = absurd (let z : ◌≡◌ {A = ℕ} 0 1 = cc in omega arith)
    go (holds h gs) p q =
        let r : rec ≡ record_of h gs = cc in
        let n : h.count ≡ rec.row_count = sym (ap (λ r. r.row_count) r) in
        let same : h ≡ record { count = rec.row_count; start = h.start } = λ i. record { count = n i; start = h.start } in
        (record { start = h.start; blocks = gs; verdict' = p ∙ ap (λ h. holds h gs) same }, r ∙ ap (λ h. record_of h gs) same)

pub owes_refusal : (file directory : List ℕ) (k : ℕ) → refused k ≡ judged (verdict file) → OpenOwes file directory (refused k, directory)
unfolding say_open
owes_refusal file directory k e = go (verdict file) refl e
  where
    go : (v : Verdict) → verdict file ≡ v → refused k ≡ judged v → OpenOwes file directory (refused k, directory)
    go (fault j) p q = let same : k ≡ j = cc in rw (p, same)
    go (holds h gs) p q = absurd (let z : ◌≡◌ {A = ℕ} 0 1 = cc in omega arith)

module _ (file directory : List ℕ) (count : ℕ) (a : Accepts file count) where
  pub owes_room : length directory < directory_length count → OpenOwes file directory (refused 4, directory)
  unfolding say_open
  owes_room l = rw (a.verdict', lt-ltb (length directory) (directory_length count) l)

  pub owes_index : (rec : Record) → rec ≡ record_of (record { count = count; start = a.start }) a.blocks → directory_length count ≤ length directory
      → OpenOwes file directory (value rec, sets directory 0 (directory_in (verdict file)))
  unfolding say_open
  owes_index rec r l =
      let d = directory_of count a.blocks in
      let filled : sets directory 0 d ≡ d ++ drop (length d) directory =
      sets_front d directory (omega (arith, length_directory count a.blocks)) in
      rw (a.verdict', le-ltb (length directory) (directory_length count) l) (ap₂ (λ r l. (value r, l)) r filled)

-- ---- what an accepted file has

pub record Filled (file : List ℕ) (count : ℕ) : Type 0 where
  pub fits : 4 * entry_count file + 2 ≤ length file
  pub right : entries_ok count 0 (entries_of file) ≡ true
  pub runs' : runs (count_of_blocks count) 0 0 0 (entries_of file) ≡ directory_in (verdict file)

pub filled : (file : List ℕ) (count : ℕ) → AreBytes file → Accepts file count → Filled file count
filled file count y a =
    let w = was_written file _ a.blocks y a.verdict' in
    record {
      fits = w.fits;
      right = ap (entries_ok count 0) w.entries' ∙ entries_pass count 0 a.blocks w.well;
      runs' = ap (runs (count_of_blocks count) 0 0 0) w.entries' ∙ sym (directory_runs count a.blocks w.well) ∙ sym (ap directory_in a.verdict');
    }

-- so many entries, as they are read
pub counted : {file : List ℕ} {count n : ℕ} → Filled file count
    → n ≡ number_in (part (length file - 2) (length file - 2 + 2) file) → n ≡ entry_count file
counted {file} {n = n} f q = entry_count_back file n (omega (arith, f.fits)) q

pub fill_start : (file directory : List ℕ) (table : List (List ℕ)) (count : ℕ) → Filled file count → map entry_in table ≡ entries_of file
    → Filling directory table count (sets directory 0 (directory_in (verdict file))) directory 0 0 0 0
fill_start file directory table count f e =
    record { entries = rw e f.right; small = small_none count; long = refl; runs' = rw e (ap (sets directory 0) f.runs') }
