-- The rows and the data of well-formed blocks, cut at block b.
use Prim.Native.Nat.{ℕ, suc, ◌+◌, ◌*◌, ◌≤◌, ◌<◌}
use mathlib.Core.Path.{◌≡◌, refl, sym, ap, ◌∙◌}
use mathlib.Core.Bool.{cond}
use mathlib.Core.List.{List, [], ◌∷◌, ◌++◌, map, flat_map, append_assoc}
use native.Mathlib.Omega.{arith}
use lib.ListN.{length, length-append}
use lib.Dec.{ltb, eqb}
use borrow.Author.Tests.{ltb-true, ltb-false, eqb-true, eqb-false, le-ltb, lt-ltb, ne_eqb}
use Rattle.spec.specs.Layout.{size, Block, rows_in, rows_of, data_of, all_data}
use Rattle.spec.specs.Reading.{rows_at, size_of_data, bytes_before}
use Rattle.spec.proofs.Tests.{by_test}
use Rattle.spec.proofs.Rising.{Rising, rising_lower, rising_widen, rising_append}
use Rattle.spec.proofs.Content.{length_data}
use Rattle.spec.proofs.Blocks.{Well, rows_in_rise, well_rows}

-- the places of block b, which has none if it is empty
unfoldable pub places_of : ℕ → List Block → List ℕ
places_of b [] = []
places_of b (g ∷ gs) = cond (eqb g.number b) g.places (places_of b gs)

abbrev pub rows_from : ℕ → List ℕ → List ℕ
rows_from b ps = map (λ p. b * size + p) ps

-- ---- the cut

-- blocks after block b add nothing before it
pub bytes_none : (count low b : ℕ) (gs : List Block) → b ≤ low → Well count low gs → bytes_before b gs ≡ 0
unfolding bytes_before
bytes_none count low b [] h w = refl
bytes_none count low b (g ∷ gs) h w =
    let l = w.0 in rw (le-ltb g.number b (omega arith), bytes_none count (suc g.number) b gs (omega arith) w.4) (omega arith)

places_none : (count low b : ℕ) (gs : List Block) → b < low → Well count low gs → places_of b gs ≡ []
unfolding places_of
places_none count low b [] h w = refl
places_none count low b (g ∷ gs) h w =
    let l = w.0 in rw (ne_eqb g.number b (λ q. omega arith)) (places_none count (suc g.number) b gs (omega arith) w.4)

pub bytes_later : (b : ℕ) (g : Block) (gs : List Block) → g.number < b → bytes_before b (g ∷ gs) ≡ size_of_data (length g.places) + bytes_before b gs
unfolding bytes_before
bytes_later b g gs l = rw (lt-ltb g.number b l) (omega arith)

data_none : data_of [] ≡ []
unfolding data_of flat_map
data_none = refl

-- rows and data before block b, those of its places ps, and those after it
pub record Cut (count low b : ℕ) (ps : List ℕ) (gs : List Block) : Type 0 where
  pub before : List ℕ
  pub after : List ℕ
  pub rows : rows_of gs ≡ before ++ (rows_from b ps ++ after)
  pub earlier : Rising (low * size) (b * size) before
  pub later : Rising ((b + 1) * size) count after
  pub places : Rising 0 size ps
  pub data_before : List ℕ
  pub data_after : List ℕ
  pub bytes : all_data gs ≡ data_before ++ (data_of ps ++ data_after)
  pub many : length data_before ≡ bytes_before b gs
  pub next_bytes : bytes_before (b + 1) gs ≡ bytes_before b gs + size_of_data (length ps)

module _ (count low b : ℕ) (g : Block) (gs : List Block) (w : Well count low (g ∷ gs)) where
  full : Rising 0 size g.places
  full = rising_widen 0 (rows_at count g.number) size g.places (omega arith) w.3

  cut_later : (ps : List ℕ) → g.number < b → Cut count (suc g.number) b ps gs → Cut count low b ps (g ∷ gs)
  unfolding rows_of all_data flat_map
  cut_later ps l c =
      let D = data_of g.places in
      let k = w.0 in
      record {
        before = rows_in g ++ c.before;
        after = c.after;
        rows = ap (λ t. rows_in g ++ t) c.rows ∙ sym (append_assoc (rows_in g) c.before (rows_from b ps ++ c.after));
        earlier = rising_append (low * size) (suc g.number * size) (b * size) (rows_in g) c.before (omega arith) (omega arith)
            (rising_lower (low * size) (g.number * size + 0) (suc g.number * size) (rows_in g) (omega arith)
            (rising_widen (g.number * size + 0) (g.number * size + size) (suc g.number * size) (rows_in g) (omega arith) (rows_in_rise g.number 0 size g.places full)))
            c.earlier;
        later = c.later;
        places = c.places;
        data_before = D ++ c.data_before;
        data_after = c.data_after;
        bytes = ap (λ t. D ++ t) c.bytes ∙ sym (append_assoc D c.data_before (data_of ps ++ c.data_after));
        many = length-append D c.data_before ∙ omega (arith, length_data g.places, c.many, bytes_later b g gs l);
        next_bytes = omega (arith, c.next_bytes, bytes_later b g gs l, bytes_later (b + 1) g gs (omega arith));
      }

  cut_here : g.number ≡ b → Cut count low b g.places (g ∷ gs)
  unfolding rows_of all_data flat_map
  cut_here e =
      let n : bytes_before b (g ∷ gs) ≡ 0 = bytes_none count g.number b (g ∷ gs) (omega arith) (omega arith, w.1, w.2, w.3, w.4) in
      record {
        before = [];
        after = rows_of gs;
        rows = ap (λ n. rows_from n g.places ++ rows_of gs) e;
        earlier = tt;
        later = rising_lower ((b + 1) * size) (suc g.number * size) count (rows_of gs) (omega arith) (well_rows count (suc g.number) gs w.4);
        places = full;
        data_before = [];
        data_after = all_data gs;
        bytes = refl;
        many = sym n;
        next_bytes = omega (arith, n, bytes_later (b + 1) g gs (omega arith), bytes_none count (suc g.number) (b + 1) gs (omega arith) w.4);
      }

-- an empty block before them all
cut_empty : (count low' low b : ℕ) (gs : List Block) → b < low → Well count low gs → Cut count low' b [] gs
cut_empty count low' low b gs l w =
    let n = bytes_none count low b gs (omega arith) w in
    record {
      before = [];
      after = rows_of gs;
      rows = refl;
      earlier = tt;
      later = rising_lower ((b + 1) * size) (low * size) count (rows_of gs) (omega arith) (well_rows count low gs w);
      places = tt;
      data_before = [];
      data_after = all_data gs;
      bytes = ap (λ d. d ++ all_data gs) (sym data_none);
      many = sym n;
      next_bytes = omega (arith, n, bytes_none count low (b + 1) gs (omega arith) w);
    }

pub cut : (count low b : ℕ) (gs : List Block) → Well count low gs → Cut count low b (places_of b gs) gs
unfolding places_of
cut count low b [] w = cut_empty count low (suc b) b [] (omega arith) tt
cut count low b (g ∷ gs) w =
    by_test (ltb g.number b)
    (λ e. let l = ltb-true g.number b e in
    rw (ne_eqb g.number b (λ q. omega arith)) (cut_later count low b g gs w (places_of b gs) l (cut count (suc g.number) b gs w.4)))
    (λ e. by_test (eqb g.number b) (λ f. rw f (cut_here count low b g gs w (eqb-true g.number b f)))
    (λ f. let l : b < g.number = lib.Arith.lt_of_le-ne (ltb-false g.number b e) (λ q. eqb-false g.number b f (sym q)) in
    rw (f, places_none count (suc g.number) b gs (omega arith) w.4) (cut_empty count low g.number b (g ∷ gs) l (omega arith, w.1, w.2, w.3, w.4))))
