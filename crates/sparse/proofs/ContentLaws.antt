-- The turns of the loops over a block's contents: one place more is checked, one place more is written.
use Prim.Native.Nat.{ℕ, suc, ◌+◌, ◌*◌, ◌/◌, ◌%◌, ◌≤◌, ◌<◌}
use mathlib.Core.Path.{◌≡◌, refl, sym, ap, ◌∙◌}
use mathlib.Core.Bool.{Bool, true, ◌&&◌, and_assoc}
use mathlib.Core.List.{List, [], ◌∷◌, map, flat_map, append-nil}
use native.Mathlib.Numerals.{add-one}
use native.Mathlib.Omega.{arith}
use lib.ListN.{length, get_or, drop, length-append, length-map, drop_of_length-le}
use lib.Seq.{drop-cons, sets, sets-eq, length-sets}
use lib.Dec.{ltb}
use borrow.Author.Tests.{le-leb, lt-leb, lt-ltb, eq-eqb, ltb-true}
use Rattle.spec.specs.Set.{rising}
use Rattle.spec.specs.Layout.{size, bytes_of, sparse_data}
use Rattle.spec.specs.Reading.{is_content}
use Rattle.spec.specs.Reading as reading
use Rattle.spec.proofs.Tests.{by_test}
use Rattle.spec.proofs.Bytes.{length_bytes}
use Rattle.search.specs.Search.{places_said}
use Rattle.search.proofs.PlaceLaws.{length_places}

-- ---- checking

-- each below the next and the last below the end: that is all
rising_one : (x end : ℕ) → rising x end (x ∷ []) ≡ ltb x end
unfolding rising
rising_one x end = rw (le-leb x x (omega arith)) (by_test (ltb x end) (λ q. rw q) (λ q. rw q))

rising_two : (x y end : ℕ) (zs : List ℕ) → rising x end (x ∷ y ∷ zs) ≡ ltb x y && rising y end (y ∷ zs)
unfolding rising
rising_two x y end zs =
    rw (le-leb x x (omega arith), le-leb y y (omega arith)) (by_test (ltb x y)
    (λ q. by_test (ltb y end) (λ r. rw (q, r, lt-ltb x end (omega (arith, ltb-true x y q, ltb-true y end r))))
    (λ r. rw (q, r) (by_test (ltb x end) (λ e. rw e) (λ e. rw e))))
    (λ q. rw q (by_test (ltb x end) (λ e. rw e) (λ e. rw e))))

-- the flag so far, and the places from i on, say what all places say
pub record Checking (bs : List ℕ) (end : ℕ) (ok : Bool) (i : ℕ) : Type 0 where
  pub within : i < length bs / 2
  pub same : ok && rising (get_or (places_said bs) i 0) end (drop i (places_said bs)) ≡ rising 0 end (places_said bs)

pub checking_none : (bs : List ℕ) (end : ℕ) → 0 < length bs / 2 → Checking bs end true 0
unfolding rising
checking_none bs end h = record { within = h; same = go (places_said bs) }
  where
    go : (ps : List ℕ) → rising (get_or ps 0 0) end ps ≡ rising 0 end ps
    go [] = refl
    go (x ∷ xs) = rw (le-leb x x (omega arith), le-leb 0 x (omega arith))

module _ {bs : List ℕ} {end i : ℕ} {ok : Bool} (s : Checking bs end ok i) where
  pub checking_more : (p q : ℕ) → i + 1 < length bs / 2 → p ≡ get_or (places_said bs) i 0 → q ≡ get_or (places_said bs) (i + 1) 0 → Checking bs end (ok && ltb p q) (i + 1)
  checking_more p q h e f =
      let one : drop i (places_said bs) ≡ p ∷ drop (i + 1) (places_said bs) = rw (add-one i, e) (drop-cons (places_said bs) i 0 (omega (arith, length_places bs))) in
      let two : drop (i + 1) (places_said bs) ≡ q ∷ drop (suc (i + 1)) (places_said bs) = rw f (drop-cons (places_said bs) (i + 1) 0 (omega (arith, length_places bs))) in
      record {
        within = h;
        same =
            rw (← f) (and_assoc ok (ltb p q) (rising q end (drop (i + 1) (places_said bs)))
            ∙ ap (λ b. ok && b) (rw two (sym (rising_two p q end (drop (suc (i + 1)) (places_said bs)))) ∙ ap (rising p end) (sym one))
            ∙ rw (← e) at s.same);
      }

  pub checking_all : (p last : ℕ) → last ≤ i → length bs / 2 ≤ last + 1 → p ≡ get_or (places_said bs) last 0 → ok && ltb p end ≡ rising 0 end (places_said bs)
  checking_all p last l h f =
      let same' : last ≡ i = omega (arith, s.within) in
      let e : p ≡ get_or (places_said bs) i 0 = rw same' at f in
      let rest : drop (suc i) (places_said bs) ≡ [] = drop_of_length-le (places_said bs) {i = suc i} (omega (arith, length_places bs)) in
      let one : drop i (places_said bs) ≡ p ∷ [] = rw (← rest, e) (drop-cons (places_said bs) i 0 (omega (arith, s.within, length_places bs))) in
      ap (λ b. ok && b) (sym (rising_one p end) ∙ ap (rising p end) (sym one)) ∙ rw (← e) at s.same

-- where there is no place, there is nothing to check
pub checked_none : (bs : List ℕ) (end : ℕ) → length bs / 2 ≡ 0 → true ≡ rising 0 end (places_said bs)
unfolding rising
checked_none bs end h = go (places_said bs) (length_places bs ∙ h)
  where
    go : (ps : List ℕ) → length ps ≡ 0 → true ≡ rising 0 end ps
    go [] e = refl
    go (x ∷ xs) e = absurd (omega arith)

-- of at most 5,119 rows, that is all there is to be right
pub content : (rows end : ℕ) (bs : List ℕ) → length bs ≡ 2 * rows → rows ≤ 5119 → rising 0 end (places_said bs) ≡ is_content rows end bs
unfolding is_content reading.places_in places_said
content rows end bs l h =
    let half : length bs / 2 ≡ rows = omega arith in
    let many : length (places_said bs) ≡ rows = length_places bs ∙ half in
    rw (lt-leb 5120 rows (omega arith), ← half, eq-eqb (length (places_said bs)) (length bs / 2) (length_places bs)) (by_test (rising 0 end (places_said bs)) (λ q. rw q) (λ q. rw q))

-- ---- writing

abbrev place : ℕ → ℕ
place r = r % size

length_sparse : (ps : List ℕ) → length (sparse_data ps) ≡ 2 * length ps
unfolding flat_map
length_sparse [] = refl
length_sparse (p ∷ ps) = simp (length-append, length_bytes, length_sparse ps) (omega arith)

-- the places from i on, written where they go, make the data
pub record Writing (rows out : List ℕ) (i : ℕ) : Type 0 where
  pub within : i ≤ length rows
  pub long : length out ≡ 2 * length rows
  pub left : sets out (2 * i) (sparse_data (map place (drop i rows))) ≡ sparse_data (map place rows)

pub writing_none : (rows out : List ℕ) → length out ≡ 2 * length rows → Writing rows out 0
writing_none rows out l =
    let all = sparse_data (map place rows) in
    let n : length all ≡ length out = length_sparse (map place rows) ∙ rw (length-map rows place, l) in
    let none' : drop (0 + length all) out ≡ [] = drop_of_length-le out {i = 0 + length all} (omega arith) in
    record { within = omega arith; long = l; left = sets-eq all out 0 (omega arith) ∙ rw none' (append-nil all) }

pub writing_more : (rows out out' : List ℕ) (i : ℕ) → i < length rows → Writing rows out i
    → out' ≡ sets out (2 * i) (bytes_of 2 (place (get_or rows i 0))) → Writing rows out' (i + 1)
unfolding bytes_of flat_map
writing_more rows out out' i h w e =
    let one : drop i rows ≡ get_or rows i 0 ∷ drop (i + 1) rows = rw (add-one i) (drop-cons rows i 0 h) in
    let next : 2 * (i + 1) ≡ suc (suc (2 * i)) = omega arith in
    record { within = omega arith; long = ap length e ∙ simp length-sets w.long; left = rw (e, next) (rw one at w.left) }

pub writing_all : {rows out : List ℕ} {i : ℕ} → Writing rows out i → length rows ≤ i → out ≡ sparse_data (map place rows)
unfolding flat_map
writing_all {rows} {out} {i} w h = ap (λ l. sets out (2 * i) (sparse_data (map place l))) (sym (drop_of_length-le rows h)) ∙ w.left
