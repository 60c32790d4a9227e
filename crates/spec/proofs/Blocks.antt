-- Rows and populated blocks: each is had back from the other.
use Prim.Native.Nat.{ℕ, suc, ◌+◌, ◌-◌, ◌*◌, ◌/◌, ◌%◌, ◌≤◌, ◌<◌, zero-le}
use mathlib.Core.Path.{◌≡◌, refl, sym, ap, ap₂, ◌∙◌, subst}
use mathlib.Core.Bool.{Bool, true, false}
use mathlib.Core.List.{List, [], ◌∷◌, ◌++◌, map, flat_map}
use native.Mathlib.Nat.{div-add-mod'}
use native.Mathlib.Omega.{arith}
use lib.ListN.{length}
use lib.Dec.{eqb}
use borrow.Author.Tests.{eqb-true, eqb-false, ne_eqb, eq-eqb}
use Rattle.spec.specs.Layout.{size, Block, join, push, blocks, rows_in, rows_of}
use Rattle.spec.specs.Reading.{count_of_blocks, rows_at}
use Rattle.spec.proofs.Rising.{Rising, rising_lower, rising_widen, rising_append}

-- blocks from number `low` on, as a set of rows below `count` has them: numbers increasing and below B, none empty, places increasing
abbrev pub Well : ℕ → ℕ → List Block → Type 0
Well count low [] = Unit {0}
Well count low (g ∷ gs) =
    (low ≤ g.number) × (g.number < count_of_blocks count) × (0 < length g.places) × Rising 0 (rows_at count g.number) g.places × Well count (suc g.number) gs

-- ---- the rows of the blocks of a set are the set

rows_push : (b p : ℕ) (gs : List Block) → rows_of (push b p gs) ≡ (b * size + p) ∷ rows_of gs
unfolding rows_of flat_map
rows_push b p [] = refl
rows_push b p (g ∷ gs) = go (eqb b g.number) refl
  where
    go : (t : Bool) → eqb b g.number ≡ t → rows_of (join t b p g gs) ≡ (b * size + p) ∷ rows_of (g ∷ gs)
    go true e = ap (λ n. (b * size + p) ∷ (map (λ q. n * size + q) g.places ++ flat_map rows_in gs)) (eqb-true b g.number e)
    go false e = refl

pub rows_blocks : (rows : List ℕ) → rows_of (blocks rows) ≡ rows
unfolding blocks rows_of flat_map
rows_blocks [] = refl
rows_blocks (r ∷ rs) = rows_push (r / size) (r % size) (blocks rs) ∙ ap₂ (λ a l. a ∷ l) (div-add-mod' r size) (rows_blocks rs)

-- ---- the blocks of a set are well formed

-- the same as Well, by the least row there may be
abbrev From : ℕ → ℕ → List Block → Type 0
From count low [] = Unit {0}
From count low (g ∷ gs) =
    (g.number < count_of_blocks count) × (0 < length g.places) × (low < (g.number + 1) * size)
    × Rising (low - g.number * size) (rows_at count g.number) g.places × From count ((g.number + 1) * size) gs

from_push : (count low r : ℕ) (gs : List Block) → low ≤ r → r < count → From count (suc r) gs → From count low (push (r / size) (r % size) gs)
from_push count low r [] l h w = (omega arith, omega arith, omega arith, (omega arith, omega arith, tt), tt)
from_push count low r (g ∷ gs) l h w = go (eqb (r / size) g.number) refl
  where
    go : (b : Bool) → eqb (r / size) g.number ≡ b → From count low (join b (r / size) (r % size) g gs)
    go true e =
        let q : g.number ≡ r / size = sym (eqb-true (r / size) g.number e) in
        let s : suc r - r / size * size ≡ suc (r % size) = omega arith in
        let p : Rising (suc (r % size)) (rows_at count (r / size)) g.places =
        subst (λ k. Rising k (rows_at count (r / size)) g.places) s (subst (λ b. Rising (suc r - b * size) (rows_at count b) g.places) q w.3) in
        (omega arith, omega arith, omega arith, (omega arith, omega arith, p), subst (λ b. From count ((b + 1) * size) gs) q w.4)
    go false e =
        let t : suc r < (g.number + 1) * size = w.2 in
        let k : r / size ≤ g.number = omega arith in
        let k' : r / size < g.number = lib.Arith.lt_of_le-ne k (eqb-false (r / size) g.number e) in
        let z : suc r - g.number * size ≡ (r / size + 1) * size - g.number * size = omega arith in (
          omega arith,
          omega arith,
          omega arith,
          (omega arith, omega arith, tt),
          (w.0, w.1, omega arith, subst (λ k. Rising k (rows_at count g.number) g.places) z w.3, w.4),
        )

from_rows : (count low : ℕ) (rows : List ℕ) → Rising low count rows → From count low (blocks rows)
unfolding blocks
from_rows count low [] r = tt
from_rows count low (x ∷ xs) r = from_push count low x (blocks xs) r.0 r.1 (from_rows count (suc x) xs r.2)

from_well : (count low b : ℕ) (gs : List Block) → b * size ≤ low → From count low gs → Well count b gs
from_well count low b [] h w = tt
from_well count low b (g ∷ gs) h w = (
  omega arith,
  w.0,
  w.1,
  rising_lower 0 (low - g.number * size) (rows_at count g.number) g.places zero-le w.3,
  from_well count ((g.number + 1) * size) (suc g.number) gs (omega arith) w.4,
)

well_from : (count b : ℕ) (rows : List ℕ) → Rising (b * size) count rows → Well count b (blocks rows)
well_from count b rows r = from_well count (b * size) b (blocks rows) (omega arith) (from_rows count (b * size) rows r)

pub well_blocks : (count : ℕ) (rows : List ℕ) → Rising 0 count rows → Well count 0 (blocks rows)
well_blocks count rows r = well_from count 0 rows r

-- ---- the blocks of the rows of well-formed blocks are these blocks

-- no block b at the front
abbrev Apart : ℕ → List Block → Type 0
Apart b [] = Unit {0}
Apart b (g ∷ gs) = b < g.number

push_apart : (b p : ℕ) (gs : List Block) → Apart b gs → push b p gs ≡ record { number = b; places = p ∷ [] } ∷ gs
push_apart b p [] a = refl
push_apart b p (g ∷ gs) a = ap (λ t. join t b p g gs) (ne_eqb b g.number (λ q. omega arith))

apart : (count b : ℕ) (gs : List Block) → Well count (suc b) gs → Apart b gs
apart count b [] w = tt
apart count b (g ∷ gs) w = w.0

push_row : (b p : ℕ) (gs : List Block) → p < size → push ((b * size + p) / size) ((b * size + p) % size) gs ≡ push b p gs
push_row b p gs h =
    let q : (b * size + p) / size ≡ b = omega arith in
    let r : (b * size + p) % size ≡ p = omega arith in ap₂ (λ b p. push b p gs) q r

-- the places of one block, before rows whose blocks are later
run : (b low p : ℕ) (ps rest : List ℕ) (gs : List Block) → blocks rest ≡ gs → Apart b gs → Rising low size (p ∷ ps)
    → blocks (map (λ q. b * size + q) (p ∷ ps) ++ rest) ≡ record { number = b; places = p ∷ ps } ∷ gs
unfolding blocks
run b low p [] rest gs e a r = push_row b p (blocks rest) r.1 ∙ ap (push b p) e ∙ push_apart b p gs a
run b low p (q ∷ qs) rest gs e a r =
    push_row b p (blocks (map (λ q. b * size + q) (q ∷ qs) ++ rest)) r.1
    ∙ ap (push b p) (run b (suc p) q qs rest gs e a r.2)
    ∙ ap (λ t. join t b p (record { number = b; places = q ∷ qs }) gs) (eq-eqb b b refl)

pub blocks_run : (count b : ℕ) (ps rest : List ℕ) → 0 < length ps → Rising 0 size ps → Rising (suc b * size) count rest
    → blocks (map (λ p. b * size + p) ps ++ rest) ≡ record { number = b; places = ps } ∷ blocks rest
blocks_run count b [] rest h r s = absurd (omega arith)
blocks_run count b (p ∷ ps) rest h r s = run b 0 p ps rest (blocks rest) refl (apart count b (blocks rest) (well_from count (suc b) rest s)) r

pub blocks_rows : (count low : ℕ) (gs : List Block) → Well count low gs → blocks (rows_of gs) ≡ gs
unfolding blocks rows_of flat_map
blocks_rows count low [] w = refl
blocks_rows count low (g ∷ gs) w = go g.places refl (blocks_rows count (suc g.number) gs w.4)
  where
    go : (ps : List ℕ) → g.places ≡ ps → blocks (rows_of gs) ≡ gs → blocks (rows_in g ++ rows_of gs) ≡ g ∷ gs
    go [] e i = absurd (omega (arith, w.2, ap length e))
    go (p ∷ ps) e i =
        ap (λ l. blocks (map (λ p. g.number * size + p) l ++ rows_of gs)) e
        ∙ run g.number 0 p ps (rows_of gs) gs i (apart count g.number gs w.4) (subst (Rising 0 size) e (rising_widen 0 (rows_at count g.number) size g.places (omega arith) w.3))
        ∙ ap (λ l. record { number = g.number; places = l } ∷ gs) (sym e)

-- ---- the rows of well-formed blocks rise

pub rows_in_rise : (b low end : ℕ) (ps : List ℕ) → Rising low end ps → Rising (b * size + low) (b * size + end) (map (λ p. b * size + p) ps)
rows_in_rise b low end [] r = tt
rows_in_rise b low end (p ∷ ps) r =
    let e : b * size + suc p ≡ suc (b * size + p) = omega arith in (omega arith, omega arith, rw e at (rows_in_rise b (suc p) end ps r.2))

pub well_rows : (count low : ℕ) (gs : List Block) → Well count low gs → Rising (low * size) count (rows_of gs)
unfolding rows_of flat_map
well_rows count low [] w = tt
well_rows count low (g ∷ gs) w =
    let b = g.number in
    let mid = b * size + rows_at count b in
    let l = w.0 in
    let n = w.1 in
    rising_append (low * size) mid count (rows_in g) (rows_of gs) (omega arith) (omega arith)
    (rising_lower (low * size) (b * size + 0) mid (rows_in g) (omega arith) (rows_in_rise b 0 (rows_at count b) g.places w.3))
    (rising_lower mid (suc b * size) count (rows_of gs) (omega arith) (well_rows count (suc b) gs w.4))

pub well_length : (count low : ℕ) (gs : List Block) → Well count low gs → length gs ≤ count_of_blocks count - low
well_length count low [] w = zero-le
well_length count low (g ∷ gs) w = let i = well_length count (suc g.number) gs w.4 in omega arith
