-- A question of the set is one of a block: rank, contains, lookup, select and next, and where the block's bytes lie.
use Prim.Native.Nat.{ℕ, zero, suc, ◌+◌, ◌*◌, ◌/◌, ◌%◌, ◌≤◌, ◌<◌}
use mathlib.Core.Path.{◌≡◌, refl, sym, ap, ap₂, ◌∙◌}
use mathlib.Core.Bool.{◌||◌, or-false}
use mathlib.Core.List.{List, [], ◌∷◌, ◌++◌, append_assoc}
use mathlib.Core.Option.{Option, none, some}
use native.Mathlib.Omega.{arith}
use lib.ListN.{length, take, drop, length-append, length-drop, length-map, get_or-append}
use lib.Seq.{get_or-append-add, drop-append-add, drop-append-le, take-append-le}
use lib.Dec.{leb, ltb, eqb}
use borrow.Author.Tests.{leb-true, leb-false, le-leb, lt-leb, ltb-true, ltb-false, eqb-true, eqb-false, le-ltb, lt-ltb, eq-eqb, ne_eqb}
use Rattle.spec.specs.Set.{bit, contains, rank, lookup, select, next, page}
use Rattle.spec.specs.Layout.{size, Block, rows_of, data_of, all_data}
use Rattle.spec.specs.Reading.{part, size_of_data, rows_before, bytes_before}
use Rattle.spec.proofs.Tests.{by_test}
use Rattle.spec.proofs.Rising.{Rising}
use Rattle.spec.proofs.Questions.{contains_append, contains_before, contains_past, rank_append, rank_low, rank_all, or_else, next_append, next_past, next_low}
use Rattle.spec.proofs.Bytes.{part_at}
use Rattle.spec.proofs.Content.{length_data}
use Rattle.spec.proofs.Blocks.{Well, rows_in_rise}
use Rattle.spec.proofs.Cut.{places_of, rows_from, cut}

-- ---- the questions of one block's rows

rank_in : (d : ℕ) (ps : List ℕ) → rank d (rows_from (d / size) ps) ≡ rank (d % size) ps
unfolding rank
rank_in d [] = refl
rank_in d (p ∷ ps) = ap₂ (λ t n. bit t + n) (by_test (ltb p (d % size))
    (λ e. lt-ltb (d / size * size + p) d (omega (arith, ltb-true p (d % size) e)) ∙ sym e)
    (λ e. le-ltb (d / size * size + p) d (omega (arith, ltb-false p (d % size) e)) ∙ sym e)) (rank_in d ps)

contains_in : (d : ℕ) (ps : List ℕ) → contains d (rows_from (d / size) ps) ≡ contains (d % size) ps
unfolding contains
contains_in d [] = refl
contains_in d (p ∷ ps) = ap₂ (λ t n. t || n) (by_test (eqb p (d % size))
    (λ e. eq-eqb (d / size * size + p) d (omega (arith, eqb-true p (d % size) e)) ∙ sym e)
    (λ e. ne_eqb (d / size * size + p) d (λ q. eqb-false p (d % size) e (omega arith)) ∙ sym e)) (contains_in d ps)

-- n more, if there is one
abbrev pub moved : ℕ → Option ℕ → Option ℕ
moved n none = none
moved n (some v) = some (n + v)

next_in : (t : ℕ) (ps : List ℕ) → next t (rows_from (t / size) ps) ≡ moved (t / size * size) (next (t % size) ps)
unfolding next
next_in t [] = refl
next_in t (p ∷ ps) = by_test (leb (t % size) p)
    (λ e. rw (e, le-leb t (t / size * size + p) (omega (arith, leb-true (t % size) p e))))
    (λ e. rw (e, lt-leb t (t / size * size + p) (omega (arith, leb-false (t % size) p e))) (next_in t ps))

select_in : (b k : ℕ) (ps : List ℕ) → k < length ps → select k (rows_from b ps) ≡ b * size + select k ps
select_in b k [] h = absurd (omega arith)
select_in b zero (p ∷ ps) h = refl
select_in b (suc k) (p ∷ ps) h = select_in b k ps (omega arith)

-- ---- the splits

module _ (count : ℕ) (gs : List Block) (w : Well count 0 gs) where
  -- what a number in block b, or at its end, has below it
  rank_cut : (b d : ℕ) → b * size ≤ d → d ≤ (b + 1) * size → rank d (rows_of gs) ≡ length (cut count 0 b gs w).before + rank d (rows_from b (places_of b gs))
  rank_cut b d l m =
      let c = cut count 0 b gs w in
      let R = rows_from b (places_of b gs) in
      ap (rank d) c.rows ∙ rank_append d c.before (R ++ c.after)
      ∙ omega (arith, rank_append d R c.after, rank_all 0 (b * size) c.before c.earlier d l, rank_low ((b + 1) * size) count c.after c.later d m)

  block_rise : (b : ℕ) → Rising (b * size + 0) (b * size + size) (rows_from b (places_of b gs))
  block_rise b = rows_in_rise b 0 size (places_of b gs) (cut count 0 b gs w).places

  -- the rows before block b, and before the next
  rows_cut : (b : ℕ) → rows_before b gs ≡ length (cut count 0 b gs w).before
  rows_cut b =
      omega (arith, rank_cut b (b * size) (omega arith) (omega arith), rank_low (b * size + 0) (b * size + size) (rows_from b (places_of b gs)) (block_rise b) (b * size) (omega arith))

  pub rows_before_next : (b : ℕ) → rows_before (b + 1) gs ≡ rows_before b gs + length (places_of b gs)
  rows_before_next b =
      let R = rows_from b (places_of b gs) in
      omega (
        arith,
        rank_cut b ((b + 1) * size) (omega arith) (omega arith),
        rows_cut b,
        rank_all (b * size + 0) (b * size + size) R (block_rise b) ((b + 1) * size) (omega arith),
        length-map (places_of b gs) (λ p. b * size + p),
      )

  -- rank: the rows in blocks before, and those of the block at lower places
  pub rank_split : (d : ℕ) → rank d (rows_of gs) ≡ rows_before (d / size) gs + rank (d % size) (places_of (d / size) gs)
  rank_split d = rank_cut (d / size) d (omega arith) (omega arith) ∙ omega (arith, rows_cut (d / size), rank_in d (places_of (d / size) gs))

  pub contains_split : (d : ℕ) → contains d (rows_of gs) ≡ contains (d % size) (places_of (d / size) gs)
  contains_split d =
      let b = d / size in
      let c = cut count 0 b gs w in
      let R = rows_from b (places_of b gs) in
      ap (contains d) c.rows ∙ contains_append d c.before (R ++ c.after) ∙ ap (λ t. contains d c.before || t) (contains_append d R c.after)
      ∙ rw (contains_past 0 (b * size) c.before c.earlier d (omega arith), contains_before ((b + 1) * size) count c.after c.later d (omega arith), contains_in d (places_of b gs))
      (or-false (contains (d % size) (places_of b gs)))

  pub lookup_split : (d : ℕ) → lookup d (rows_of gs) ≡ moved (rows_before (d / size) gs) (lookup (d % size) (places_of (d / size) gs))
  lookup_split d =
      rw (contains_split d, rank_split d) (by_test (contains (d % size) (places_of (d / size) gs)) (λ e. rw e) (λ e. rw e))

  -- the row whose rank is k more than the rows before block b is in it, if the block has more than k rows
  pub select_split : (b k : ℕ) → k < length (places_of b gs) → select (rows_before b gs + k) (rows_of gs) ≡ b * size + select k (places_of b gs)
  select_split b k h =
      let c = cut count 0 b gs w in
      let R = rows_from b (places_of b gs) in
      ap₂ (λ n l. select (n + k) l) (rows_cut b) c.rows ∙ get_or-append-add c.before (R ++ c.after) k 0
      ∙ get_or-append R c.after 0 k (omega (arith, length-map (places_of b gs) (λ p. b * size + p))) ∙ select_in b k (places_of b gs) h

  -- rows of one block, one after another
  pub page_split : (b k n : ℕ) → k + n ≤ length (places_of b gs)
      → page (rows_before b gs + k) n (rows_of gs) ≡ page k n (rows_from b (places_of b gs))
  page_split b k n h =
      let c = cut count 0 b gs w in
      let R = rows_from b (places_of b gs) in
      let many : length R ≡ length (places_of b gs) = length-map (places_of b gs) (λ p. b * size + p) in
      ap₂ (λ m l. take n (drop (m + k) l)) (rows_cut b) c.rows
      ∙ ap (take n) (drop-append-add c.before (R ++ c.after) k ∙ drop-append-le k R c.after (omega arith))
      ∙ take-append-le n (drop k R) c.after (omega (arith, length-drop k R))

  -- next: in the block, or else in a later one
  pub next_split : (t : ℕ) → next t (rows_of gs) ≡ or_else (moved (t / size * size) (next (t % size) (places_of (t / size) gs))) (next ((t / size + 1) * size) (rows_of gs))
  next_split t =
      let b = t / size in
      let c = cut count 0 b gs w in
      let R = rows_from b (places_of b gs) in
      let parts : (u : ℕ) → b * size ≤ u → next u (rows_of gs) ≡ or_else (next u R) (next u c.after) =
      λ u l. ap (next u) c.rows ∙ next_append u c.before (R ++ c.after)
      ∙ ap₂ (λ a b. or_else a b) (next_past 0 (b * size) c.before c.earlier u l) (next_append u R c.after) in
      let later : next ((b + 1) * size) (rows_of gs) ≡ next t c.after =
      parts ((b + 1) * size) (omega arith)
      ∙ ap₂ (λ a b. or_else a b) (next_past (b * size + 0) (b * size + size) R (block_rise b) ((b + 1) * size) (omega arith))
      (next_low ((b + 1) * size) count c.after c.later ((b + 1) * size) t (omega arith) (omega arith)) in
      parts t (omega arith) ∙ ap₂ (λ a b. or_else a b) (next_in t (places_of b gs)) (sym later)

  -- ---- where a block's bytes lie

  pub bytes_before_next : (b : ℕ) → bytes_before (b + 1) gs ≡ bytes_before b gs + size_of_data (length (places_of b gs))
  bytes_before_next b = (cut count 0 b gs w).next_bytes

  pub bytes_before_le : (b : ℕ) → bytes_before b gs ≤ length (all_data gs)
  bytes_before_le b =
      let c = cut count 0 b gs w in
      omega (arith, ap length c.bytes, length-append c.data_before (data_of (places_of b gs) ++ c.data_after), c.many)

  pub block_data : (b at : ℕ) (pre rest : List ℕ) → length pre ≡ at
      → part (at + bytes_before b gs) (at + bytes_before (b + 1) gs) (pre ++ (all_data gs ++ rest)) ≡ data_of (places_of b gs)
  block_data b at pre rest l =
      let c = cut count 0 b gs w in
      let D = data_of (places_of b gs) in
      let e : pre ++ (all_data gs ++ rest) ≡ (pre ++ c.data_before) ++ (D ++ (c.data_after ++ rest)) = ap (λ d. pre ++ (d ++ rest)) c.bytes ∙ simp append_assoc in
      ap (part (at + bytes_before b gs) (at + bytes_before (b + 1) gs)) e
      ∙ part_at (pre ++ c.data_before) D (c.data_after ++ rest) (at + bytes_before b gs) (at + bytes_before (b + 1) gs)
      (length-append pre c.data_before ∙ omega (arith, c.many)) (omega (arith, c.next_bytes, length_data (places_of b gs)))

  pub places_rise : (b : ℕ) → Rising 0 size (places_of b gs)
  places_rise b = (cut count 0 b gs w).places
