-- Where the entries of well-formed blocks lead: to the rows before a block and to its data, by its number or by a rank that it has.
use Prim.Native.Nat.{ℕ, suc, ◌+◌, ◌*◌, ◌≤◌, ◌<◌}
use mathlib.Core.Path.{◌≡◌, refl, subst}
use mathlib.Core.List.{List, [], ◌∷◌, map, flat_map}
use native.Mathlib.Omega.{arith}
use lib.ListN.{length, length-append, length-map}
use lib.Dec.{ltb, eqb}
use borrow.Author.Tests.{ltb-true, ltb-false, eqb-true, eqb-false}
use Rattle.spec.specs.Layout.{size, Block, rows_in, rows_of}
use Rattle.spec.specs.Reading.{rows_at, size_of_data, rows_before, bytes_before}
use Rattle.spec.proofs.Tests.{by_test}
use Rattle.spec.proofs.Questions.{rank_append, rank_low, rank_all}
use Rattle.spec.proofs.Blocks.{Well, rows_in_rise, well_rows}
use Rattle.spec.proofs.Accepted.{entry_for}
use Rattle.spec.proofs.Cut.{bytes_none, bytes_later}
use Rattle.one_shot.specs.Spots.{spot_from, holder_from}
use Rattle.one_shot.specs.declared.spots.Spot.{Spot}
use Rattle.one_shot.proofs.WalkLaws.{spot_here, spot_empty, spot_later, holder_here, holder_later}

-- the spot of the block that it names, behind so many rows and bytes
pub record At (rows at : ℕ) (gs : List Block) (s : Spot) : Type 0 where
  pub rows' : s.rows ≡ rows + rows_before s.number gs
  pub from' : s.from ≡ at + bytes_before s.number gs
  pub to' : s.to ≡ at + bytes_before (s.number + 1) gs

rows_none : (count low b : ℕ) (gs : List Block) → b ≤ low → Well count low gs → rows_before b gs ≡ 0
rows_none count low b gs h w = rank_low (low * size) count (rows_of gs) (well_rows count low gs w) (b * size) (omega arith)

module _ (count low b : ℕ) (g : Block) (gs : List Block) (w : Well count low (g ∷ gs)) where
  rows_later : g.number < b → rows_before b (g ∷ gs) ≡ length g.places + rows_before b gs
  unfolding rows_of flat_map
  rows_later h =
      let end = g.number * size + rows_at count g.number in
      let all = rank_all (g.number * size + 0) end (rows_in g) (rows_in_rise g.number 0 (rows_at count g.number) g.places w.3) (b * size) (omega arith) in
      omega (arith, rank_append (b * size) (rows_in g) (rows_of gs), all, length-map g.places (λ p. g.number * size + p))

  -- from the blocks behind the first to all
  at_later : (rows at : ℕ) (s : Spot) → g.number < s.number → s.number ≡ b → At (rows + length g.places) (at + size_of_data (length g.places)) gs s → At rows at (g ∷ gs) s
  at_later rows at s l e a =
      let m = rows_later (omega arith) in
      record {
        rows' = rw e (omega (arith, rw e at a.rows'));
        from' = rw e (omega (arith, rw e at a.from', bytes_later b g gs (omega arith)));
        to' = rw e (omega (arith, rw e at a.to', bytes_later (b + 1) g gs (omega arith)));
      }

-- the first block itself
at_first : (count low rows at : ℕ) (g : Block) (gs : List Block) → Well count low (g ∷ gs)
    → At rows at (g ∷ gs) (record { number = g.number; rows = rows; from = at; to = at + size_of_data (length g.places) })
at_first count low rows at g gs w =
    let n = g.number in
    let whole : Well count n (g ∷ gs) = (omega arith, w.1, w.2, w.3, w.4) in
    record {
      rows' = omega (arith, rows_none count n n (g ∷ gs) (omega arith) whole);
      from' = omega (arith, bytes_none count n n (g ∷ gs) (omega arith) whole);
      to' = omega (arith, bytes_later (n + 1) g gs (omega arith), bytes_none count (suc n) (n + 1) gs (omega arith) w.4);
    }

-- a block before them all
at_empty : (count low b rows at : ℕ) (gs : List Block) → Well count low gs → b < low → At rows at gs (record { number = b; rows = rows; from = at; to = at })
at_empty count low b rows at gs w l =
    record {
      rows' = omega (arith, rows_none count low b gs (omega arith) w);
      from' = omega (arith, bytes_none count low b gs (omega arith) w);
      to' = omega (arith, bytes_none count low (b + 1) gs (omega arith) w);
    }

-- ---- by number

pub spot_number : (b rows at : ℕ) (gs : List Block) → (spot_from b rows at (map entry_for gs)).number ≡ b
unfolding spot_from
spot_number b rows at [] = refl
spot_number b rows at (g ∷ gs) =
    by_test (eqb g.number b) (λ e. rw e) (λ e. rw e (by_test (ltb b g.number) (λ f. rw f) (λ f. rw f (spot_number b (rows + (entry_for g).rows) (at + size_of_data (entry_for g).rows) gs))))

pub spot_at : (count low b rows at : ℕ) (gs : List Block) → Well count low gs → At rows at gs (spot_from b rows at (map entry_for gs))
unfolding spot_from
spot_at count low b rows at [] w = at_empty count (suc b) b rows at [] tt (omega arith)
spot_at count low b rows at (g ∷ gs) w =
    let es = map entry_for gs in
    let x = entry_for g in
    by_test (eqb g.number b)
    (λ e. let q = eqb-true g.number b e in
    rw (spot_here b rows at x es q)
    (subst (λ n. At rows at (g ∷ gs) (record { number = n; rows = rows; from = at; to = at + size_of_data (length g.places) })) q (at_first count low rows at g gs w)))
    (λ e. by_test (ltb b g.number)
    (λ f. let l = ltb-true b g.number f in
    rw (spot_empty b rows at x es l) (at_empty count g.number b rows at (g ∷ gs) (omega arith, w.1, w.2, w.3, w.4) l))
    (λ f. let l : g.number < b = lib.Arith.lt_of_le-ne (ltb-false b g.number f) (eqb-false g.number b e) in
    let n = spot_number b (rows + length g.places) (at + size_of_data (length g.places)) gs in
    rw (spot_later b rows at x es l)
    (at_later count low b g gs w rows at _ (omega (arith, n)) n (spot_at count (suc g.number) b (rows + length g.places) (at + size_of_data (length g.places)) gs w.4))))

-- ---- by rank

-- the block named has the rank
pub record Has (k rows low : ℕ) (gs : List Block) (s : Spot) : Type 0 where
  pub named : low ≤ s.number
  pub upto : s.rows ≤ k
  pub past : k < rows + rows_before (s.number + 1) gs

pub holder_at : (count low k rows at : ℕ) (gs : List Block) → Well count low gs → rows ≤ k → k < rows + length (rows_of gs)
    → At rows at gs (holder_from k rows at (map entry_for gs)) × Has k rows low gs (holder_from k rows at (map entry_for gs))
unfolding rows_of flat_map
holder_at count low k rows at [] w l h = absurd (omega arith)
holder_at count low k rows at (g ∷ gs) w l h =
    let es = map entry_for gs in
    let x = entry_for g in
    let n = length g.places in
    let z = w.0 in
    by_test (ltb k (rows + n))
    (λ e. let m = ltb-true k (rows + n) e in
    rw (holder_here k rows at x es m) (
      at_first count low rows at g gs w,
      record {
        named = w.0;
        upto = l;
        past = omega (arith, rows_later count low (g.number + 1) g gs w (omega arith));
      },
    ))
    (λ e. let m = ltb-false k (rows + n) e in
    let many = length-append (rows_in g) (rows_of gs) in
    let i = holder_at count (suc g.number) k (rows + n) (at + size_of_data n) gs w.4 m (omega (arith, length-map g.places (λ p. g.number * size + p))) in
    let b = (holder_from k (rows + n) (at + size_of_data n) es).number in
    rw (holder_later k rows at x es m) (
      at_later count low b g gs w rows at _ i.1.named refl i.0,
      record {
        named = omega (arith, i.1.named);
        upto = i.1.upto;
        past = omega (arith, i.1.past, i.1.named, rows_later count low (b + 1) g gs w (omega (arith, i.1.named)));
      },
    ))
