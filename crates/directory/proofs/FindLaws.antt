-- The block of a rank: halving the blocks.
use Prim.Native.Nat.{ℕ, ◌+◌, ◌-◌, ◌*◌, ◌/◌, ◌≤◌, ◌<◌}
use mathlib.Core.Path.{◌≡◌}
use mathlib.Core.List.{List}
use native.Mathlib.Nat.{zero-add}
use native.Mathlib.Omega.{arith}
use lib.ListN.{get_or}
use lib.Dec.{leb}
use borrow.Author.Tests.{leb-true, leb-false}
use Rattle.spec.specs.declared.Record.{Record}
use Rattle.spec.specs.Set.{bit}
use Rattle.spec.specs.Layout.{size, Block, rows_of}
use Rattle.spec.specs.Reading.{count_of_blocks, AreBytes, Head, Given}
use Rattle.spec.proofs.Tests.{by_test}
use Rattle.spec.proofs.Questions.{rank_mono}
use Rattle.spec.proofs.Directory.{word_rows}
use Rattle.directory.specs.Parts.{Climbs, Bracket}

-- ---- halving

-- the rank is in one of `left` blocks from `base` on, if it is in one of n
pub record Halving (directory : List ℕ) (n k base left : ℕ) : Type 0 where
  pub some : 1 ≤ left
  pub within : base + left ≤ n
  pub has : Climbs directory n → get_or directory 0 0 ≤ k → k < get_or directory (2 * n) 0
      → (get_or directory (2 * base) 0 ≤ k) × (k < get_or directory (2 * (base + left)) 0)

pub halving_all : (directory : List ℕ) (n k : ℕ) → 0 < n → Halving directory n k 0 n
halving_all directory n k l = record { some = l; within = omega arith; has = λ climbs low high. (low, rw (zero-add n) high) }

module _ {directory : List ℕ} {n k base left : ℕ} (inv : Halving directory n k base left) where
  -- the rows before the middle block decide
  pub halving_more : 1 < left → (m : ℕ) → m ≡ bit (leb (get_or directory (2 * (base + left / 2)) 0) k)
      → Halving directory n k (base + left / 2 * m) (left - left / 2)
  halving_more l m e =
      let half = left / 2 in
      let mid = get_or directory (2 * (base + half)) 0 in
      by_test (leb mid k)
      (λ q.
      let at : base + half * m ≡ base + half = rw (e, q) (omega arith) in
      let end : base + half + (left - half) ≡ base + left = omega arith in
      rw at (record {
        some = omega arith;
        within = omega (arith, inv.within);
        has = λ climbs low high. (leb-true mid k q, rw end (inv.has climbs low high).1);
      }))
      (λ q.
      let at : base + half * m ≡ base = rw (e, q) (omega arith) in
      rw at (record {
        some = omega arith;
        within = omega (arith, inv.within);
        has = λ climbs low high.
            ((inv.has climbs low high).0, omega (arith, leb-false mid k q, climbs (base + half) (base + (left - half)) (omega arith) (omega (arith, inv.within))));
      }))

  pub halved : left ≤ 1 → Bracket directory n k base
  halved l =
      let one : left ≡ 1 = omega (arith, inv.some) in
      record { one = omega (arith, inv.some, inv.within); has = λ climbs low high. rw one at (inv.has climbs low high) }

-- ---- what opening gave

-- the rows before blocks never fall
pub climbs : (file directory : List ℕ) (rec : Record) → AreBytes file → (h : Head) (gs : List Block) → Given file directory rec h gs
    → Climbs directory (count_of_blocks rec.row_count)
climbs file directory rec y h gs g i j m n =
    rw (word_rows file directory rec h gs y g i (omega arith), word_rows file directory rec h gs y g j n)
    (rank_mono (i * size) (j * size) (rows_of gs) (omega arith))
