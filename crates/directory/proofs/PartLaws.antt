-- 10 as the code tests it, and the part of a block: what it is of any offsets, and that it holds the block's places.
use Prim.Native.Nat.{ℕ, ◌+◌, ◌*◌, ◌≤◌, ◌<◌}
use mathlib.Core.Path.{◌≡◌, sym, ap, ◌∙◌}
use mathlib.Core.Bool.{true}
use mathlib.Core.List.{List, []}
use native.Mathlib.Omega.{arith}
use lib.ListN.{length, get_or}
use lib.Dec.{leb, ltb}
use borrow.Author.Tests.{ltb-true, ltb-false, le-leb, lt-leb}
use Rattle.spec.specs.declared.Record.{Record}
use Rattle.spec.specs.Layout.{size, Block}
use Rattle.spec.specs.Reading.{count_of_blocks, AreBytes, part, Head, Given}
use Rattle.spec.specs.Answers.{broken}
use Rattle.spec.proofs.Tests.{by_test}
use Rattle.spec.proofs.Rising.{rising_true}
use Rattle.spec.proofs.Asking.{Unbroken, unbroken, not_broken}
use Rattle.spec.proofs.Cut.{places_of}
use Rattle.spec.proofs.Splits.{places_rise}
use Rattle.spec.proofs.Directory.{given_well, leads, leads_within}
use Rattle.words.specs.Part.{Holds}
use Rattle.directory.specs.Parts.{inside, part_of}

-- ---- 10

module _ (file directory : List ℕ) (rec : Record) where
  -- one test fails
  pub is_broken : (Unbroken file directory rec → ⊥) → true ≡ broken file directory rec
  is_broken no' = by_test (broken file directory rec) (λ e. sym e) (λ e. absurd (no' (unbroken file directory rec e)))

  -- n is B
  module _ (n : ℕ) (e : n ≡ count_of_blocks rec.row_count) where
    pub total_broken : (get_or directory (2 * n) 0 ≡ rec.populated → ⊥) → true ≡ broken file directory rec
    total_broken no' = is_broken (λ u. no' (ap (λ i. get_or directory (2 * i) 0) e ∙ u.total))

    -- the last test decides, once the others have passed
    pub last_test : rec.row_count ≤ 4294901760 → rec.populated ≤ rec.row_count → 2 * n + 2 ≤ length directory
        → get_or directory (2 * n) 0 ≡ rec.populated → 1 ≤ rec.data_start → rec.data_start ≤ 5
        → ltb (length file) (rec.data_start + get_or directory (2 * n + 1) 0 + 2) ≡ broken file directory rec
    last_test count populated words total from upto =
        let t = rec.data_start + get_or directory (2 * n + 1) 0 + 2 in
        let same : get_or directory (2 * n + 1) 0 ≡ get_or directory (2 * count_of_blocks rec.row_count + 1) 0 = ap (λ i. get_or directory (2 * i + 1) 0) e in
        by_test (ltb (length file) t)
        (λ q. q ∙ is_broken (λ u. omega (arith, ltb-true (length file) t q, u.bytes)))
        (λ q. q ∙ sym (not_broken file directory rec (record {
          count = count;
          populated = populated;
          words = omega arith;
          total = ap (λ i. get_or directory (2 * i) 0) (sym e) ∙ total;
          from = from;
          upto = upto;
          bytes = omega (arith, ltb-false (length file) t q);
        })))

-- ---- the part between two offsets

module _ (from to : ℕ) (file : List ℕ) where
  pub inside_back : to < from → [] ≡ inside from to file
  unfolding inside
  inside_back l = rw (lt-leb from to l)

  pub inside_past : length file < to → [] ≡ inside from to file
  unfolding inside
  inside_past l = rw (lt-leb to (length file) l) (by_test (leb from to) (λ e. rw e) (λ e. rw e))

  pub inside_part : from ≤ to → to ≤ length file → part from to file ≡ inside from to file
  unfolding inside
  inside_part l m = rw (le-leb from to l, le-leb to (length file) m)

-- of what opening gave together, it is the block's data
pub part_holds : (file directory : List ℕ) (rec : Record) → AreBytes file → (h : Head) (gs : List Block) → Given file directory rec h gs
    → (b : ℕ) → b < count_of_blocks rec.row_count → Holds (part_of file directory rec.data_start b) (places_of b gs)
part_holds file directory rec y h gs g b l =
    let w = leads_within file directory rec h gs y g b l in
    record {
      rises = rising_true 0 size (places_of b gs) (places_rise rec.row_count gs (given_well file directory rec h gs y g) b);
      bytes = sym (inside_part _ _ file (omega arith) w.1) ∙ leads file directory rec h gs y g b l;
    }
