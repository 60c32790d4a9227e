-- Opening accepts exactly the strings that writing gives, and recovers row count and set.
use Prim.Native.Nat.{ℕ, ◌*◌, ◌≤◌}
use mathlib.Core.Path.{◌≡◌, sym, ap, ◌∙◌}
use mathlib.Core.List.{List, [], ◌∷◌, map}
use native.Mathlib.Omega.{arith}
use lib.ListN.{length}
use Rattle.spec.specs.Layout.{Block, blocks, rows_of, written, file_of}
use Rattle.spec.specs.Reading.{Permitted, AreBytes, Head, data_sizes, holds, verdict}
use Rattle.spec.proofs.Rising.{rising_facts, rising_true}
use Rattle.spec.proofs.RowCount.{groups_length, head_of}
use Rattle.spec.proofs.Blocks.{rows_blocks, blocks_rows, well_blocks, well_rows, well_length}
use Rattle.spec.proofs.Content.{size_le}
use Rattle.spec.proofs.Accepted.{entry_for, length_written, accepted}
use Rattle.spec.proofs.Written.{was_written}

-- what is written is accepted, with its row count and its blocks, and the rows of these are the set
pub written_accepted : (count : ℕ) (rows : List ℕ) → Permitted count rows
    → (verdict (file_of count rows) ≡ holds (head_of count) (blocks rows)) × (rows_of (blocks rows) ≡ rows)
unfolding file_of
written_accepted count rows p = (accepted count (blocks rows) p.limited (well_blocks count rows (rising_facts 0 count rows p.rises)), rows_blocks rows)

-- what is accepted was written, from the row count and the set that the verdict says
pub accepted_written : (file : List ℕ) (h : Head) (gs : List Block) → AreBytes file → verdict file ≡ holds h gs
    → Permitted h.count (rows_of gs) × (file ≡ file_of h.count (rows_of gs)) × (h ≡ head_of h.count) × (gs ≡ blocks (rows_of gs))
unfolding file_of
accepted_written file h gs y v =
    let w = was_written file h gs y v in
    let b = blocks_rows h.count 0 gs w.well in (
      record { limited = w.limited; rises = rising_true 0 h.count (rows_of gs) (well_rows h.count 0 gs w.well) },
      w.bytes ∙ ap (written h.count) (sym b),
      w.head,
      sym b,
    )

-- a written file determines row count and set
pub written_one : (c d : ℕ) (xs ys : List ℕ) → Permitted c xs → Permitted d ys → file_of c xs ≡ file_of d ys → (c ≡ d) × (xs ≡ ys)
written_one c d xs ys p q e =
    let a = written_accepted c xs p in
    let b = written_accepted d ys q in
    let v : holds (head_of c) (blocks xs) ≡ holds (head_of d) (blocks ys) = sym a.0 ∙ ap verdict e ∙ b.0 in
    let h : head_of c ≡ head_of d = cc in
    let g : blocks xs ≡ blocks ys = cc in
    (ap (λ h. h.count) h, sym a.1 ∙ ap rows_of g ∙ b.1)

-- ---- the longest file has 671,340,547 bytes

data_sizes_le : (gs : List Block) → data_sizes (map entry_for gs) ≤ 10240 * length gs
unfolding data_sizes
data_sizes_le [] = omega arith
data_sizes_le (g ∷ gs) = let i = data_sizes_le gs in let j = size_le (length g.places) in omega arith

pub longest : (count : ℕ) (rows : List ℕ) → Permitted count rows → length (file_of count rows) ≤ 671340547
unfolding file_of
longest count rows p =
    let few = well_length count 0 (blocks rows) (well_blocks count rows (rising_facts 0 count rows p.rises)) in
    let lim = p.limited in
    omega (arith, length_written count (blocks rows), data_sizes_le (blocks rows), groups_length 4 count)
