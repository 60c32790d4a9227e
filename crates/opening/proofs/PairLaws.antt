-- The directory of blocks, as runs of equal pairs: one up to each entry's block, and one behind the last.
use Prim.Native.Nat.{ℕ, zero, suc, ◌+◌, ◌-◌, ◌*◌, ◌≤◌, ◌<◌}
use mathlib.Core.Path.{◌≡◌, refl, sym, ap, ap₂, ◌∙◌}
use mathlib.Core.List.{List, [], ◌∷◌, ◌++◌, map, flat_map}
use native.Mathlib.Nat.{add-zero, zero-add}
use native.Mathlib.Numerals.{add-one}
use native.Mathlib.Omega.{arith}
use lib.ListN.{length, length-map}
use Rattle.spec.specs.declared.Entry.{Entry}
use Rattle.spec.specs.Set.{rank}
use Rattle.spec.specs.Layout.{size, Block, rows_in, rows_of}
use Rattle.spec.specs.Reading.{count_of_blocks, rows_at, size_of_data, rows_before, bytes_before, pairs, directory_of}
use Rattle.spec.proofs.Questions.{rank_append, rank_low, rank_all}
use Rattle.spec.proofs.Blocks.{Well, rows_in_rise, well_rows}
use Rattle.spec.proofs.Accepted.{entry_for}
use Rattle.spec.proofs.Cut.{bytes_none, bytes_later}
use Rattle.opening.specs.Filling.{same}

-- the runs of the blocks from b up to B, with the rows and the data bytes of all blocks before b
unfoldable pub runs : ℕ → ℕ → ℕ → ℕ → List Entry → List ℕ
runs B b rows bytes [] = same (B + 1 - b) rows bytes
runs B b rows bytes (e ∷ es) = same (e.number + 1 - b) rows bytes ++ runs B (e.number + 1) (rows + e.rows) (bytes + size_of_data e.rows) es

-- the pairs of f blocks from the b-th on, with rows and data bytes on top
unfoldable above : ℕ → ℕ → ℕ → ℕ → List Block → List ℕ
above zero b rows bytes gs = []
above (suc f) b rows bytes gs = (rows + rows_before b gs) ∷ (bytes + bytes_before b gs) ∷ above f (suc b) rows bytes gs

above_none : (f b : ℕ) (gs : List Block) → above f b 0 0 gs ≡ pairs f b gs
unfolding above pairs
above_none zero b gs = refl
above_none (suc f) b gs = λ i. zero-add (rows_before b gs) i ∷ zero-add (bytes_before b gs) i ∷ above_none f (suc b) gs i

-- f blocks before all populated ones
above_low : (count low k f b rows bytes : ℕ) (gs : List Block) → Well count low gs → b + k ≤ low + 1
    → above (k + f) b rows bytes gs ≡ same k rows bytes ++ above f (b + k) rows bytes gs
unfolding above same
above_low count low zero f b rows bytes gs w h = ap₂ (λ n m. above n m rows bytes gs) (zero-add f) (sym (add-zero b))
above_low count low (suc k) f b rows bytes gs w h =
    let r : rows + rows_before b gs ≡ rows = omega (arith, rank_low (low * size) count (rows_of gs) (well_rows count low gs w) (b * size) (omega arith)) in
    let y : bytes + bytes_before b gs ≡ bytes = omega (arith, bytes_none count low b gs (omega arith) w) in
    let s : suc k + f ≡ suc (k + f) = omega arith in
    let t : suc b + k ≡ b + suc k = omega arith in
    let i = above_low count low k f (suc b) rows bytes gs w (omega arith) in
    rw (s, r, y, i, t)

-- past a block its rows and bytes are there
above_past : (count low f b rows bytes : ℕ) (g : Block) (gs : List Block) → Well count low (g ∷ gs) → g.number < b
    → above f b rows bytes (g ∷ gs) ≡ above f b (rows + length g.places) (bytes + size_of_data (length g.places)) gs
unfolding above rows_of flat_map
above_past count low zero b rows bytes g gs w h = refl
above_past count low (suc f) b rows bytes g gs w h =
    let end = g.number * size + rows_at count g.number in
    let all = rank_all (g.number * size + 0) end (rows_in g) (rows_in_rise g.number 0 (rows_at count g.number) g.places w.3) (b * size) (omega arith) in
    let r : rows + rank (b * size) (rows_in g ++ rows_of gs) ≡ rows + length g.places + rows_before b gs =
    omega (arith, rank_append (b * size) (rows_in g) (rows_of gs), all, length-map g.places (λ p. g.number * size + p)) in
    let y : bytes + bytes_before b (g ∷ gs) ≡ bytes + size_of_data (length g.places) + bytes_before b gs = omega (arith, bytes_later b g gs h) in
    rw (r, y, above_past count low f (suc b) rows bytes g gs w (omega arith))

above_empty : (f b rows bytes : ℕ) → above f b rows bytes [] ≡ same f rows bytes
unfolding above same rows_of flat_map rank bytes_before
above_empty zero b rows bytes = refl
above_empty (suc f) b rows bytes = λ i. add-zero rows i ∷ add-zero bytes i ∷ above_empty f (suc b) rows bytes i

above_runs : (count b rows bytes : ℕ) (gs : List Block) → Well count b gs
    → above (count_of_blocks count + 1 - b) b rows bytes gs ≡ runs (count_of_blocks count) b rows bytes (map entry_for gs)
unfolding runs
above_runs count b rows bytes [] w = above_empty (count_of_blocks count + 1 - b) b rows bytes
above_runs count b rows bytes (g ∷ gs) w =
    let B = count_of_blocks count in
    let n = g.number in
    let l = w.0 in
    let m = w.1 in
    let split : B + 1 - b ≡ n + 1 - b + (B + 1 - (n + 1)) = omega arith in
    let next : b + (n + 1 - b) ≡ n + 1 = omega arith in
    let w' : Well count (n + 1) gs = rw (add-one n) w.4 in
    ap (λ f. above f b rows bytes (g ∷ gs)) split
    ∙ above_low count n (n + 1 - b) (B + 1 - (n + 1)) b rows bytes (g ∷ gs) (omega arith, w.1, w.2, w.3, w.4) (omega arith)
    ∙ ap (λ l. same (n + 1 - b) rows bytes ++ l)
    (ap (λ k. above (B + 1 - (n + 1)) k rows bytes (g ∷ gs)) next ∙ above_past count b (B + 1 - (n + 1)) (n + 1) rows bytes g gs w (omega arith)
    ∙ above_runs count (n + 1) (rows + length g.places) (bytes + size_of_data (length g.places)) gs w')

pub directory_runs : (count : ℕ) (gs : List Block) → Well count 0 gs → directory_of count gs ≡ runs (count_of_blocks count) 0 0 0 (map entry_for gs)
unfolding directory_of
directory_runs count gs w =
    let f : suc (count_of_blocks count) ≡ count_of_blocks count + 1 - 0 = omega arith in
    sym (above_none (suc (count_of_blocks count)) 0 gs) ∙ ap (λ f. above f 0 0 0 gs) f ∙ above_runs count 0 0 0 gs w
