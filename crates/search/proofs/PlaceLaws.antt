-- The places that bytes say: how many, the one at an index, and those of a part.
use Prim.Native.Nat.{ℕ, zero, suc, ◌+◌, ◌-◌, ◌*◌, ◌/◌, ◌≤◌, ◌<◌}
use mathlib.Core.Path.{◌≡◌, refl, sym, ap, ◌∙◌}
use mathlib.Core.List.{List}
use native.Mathlib.Omega.{arith}
use lib.ListN.{length, get_or, take, drop, length-take, length-drop}
use lib.Seq.{ext_get_or, drop-drop, take-take}
use Rattle.std.proofs.lemmas.List.{drop-take}
use Rattle.spec.specs.Reading.{number_in, part, sparse_places}
use Rattle.spec.proofs.Bytes.{length_part, get_or_part}
use Rattle.search.specs.Search.{places_said}

-- ---- of any bytes

length_sparse : (n at : ℕ) (bs : List ℕ) → length (sparse_places n at bs) ≡ n
unfolding sparse_places
length_sparse zero at bs = refl
length_sparse (suc n) at bs = ap suc (length_sparse n (at + 2) bs)

sparse_at : (n at i : ℕ) (bs : List ℕ) → i < n → get_or (sparse_places n at bs) i 0 ≡ number_in (part (at + 2 * i) (at + 2 * i + 2) bs)
unfolding sparse_places
sparse_at zero at i bs h = absurd (omega arith)
sparse_at (suc n) at zero bs h = let e : at + 2 * 0 ≡ at = omega arith in rw e
sparse_at (suc n) at (suc i) bs h =
    let e : at + 2 + 2 * i ≡ at + 2 * suc i = omega arith in
    sparse_at n (at + 2) i bs (omega arith) ∙ rw e

-- as many as there are pairs of bytes
pub length_places : (bs : List ℕ) → length (places_said bs) ≡ length bs / 2
unfolding places_said
length_places bs = length_sparse (length bs / 2) 0 bs

-- place i is in the two bytes from 2 i on
pub place_at : (bs : List ℕ) (i : ℕ) → i < length bs / 2 → get_or (places_said bs) i 0 ≡ number_in (part (2 * i) (2 * i + 2) bs)
unfolding places_said
place_at bs i h = let e : 0 + 2 * i ≡ 2 * i = omega arith in sparse_at (length bs / 2) 0 i bs h ∙ rw e

-- ---- of the part from place a up to place e

-- two bytes of the part are two bytes of the whole
part_cut : (bs : List ℕ) (n m k : ℕ) → k + 2 ≤ n → part k (k + 2) (take n (drop m bs)) ≡ part (m + k) (m + k + 2) bs
unfolding part
part_cut bs n m k h =
    let split : k + (n - k) ≡ n = omega arith in
    let rest : drop k (take n (drop m bs)) ≡ take (n - k) (drop k (drop m bs)) = rw split at (drop-take k (n - k) (drop m bs)) in
    let e : k + 2 - k ≡ m + k + 2 - (m + k) = omega arith in
    rw (rest, drop-drop k m bs, take-take (k + 2 - k) (n - k) (drop (m + k) bs) (omega arith), e)

-- the bytes of the places from a up to e
abbrev pub cut : List ℕ → ℕ → ℕ → List ℕ
cut bs a e = take (2 * e - 2 * a) (drop (2 * a) bs)

module _ (bs : List ℕ) (a e : ℕ) (ends : a ≤ e) (inside : e ≤ length bs / 2) where
  pub length_cut : length (cut bs a e) / 2 ≡ e - a
  length_cut = omega (arith, length-take (2 * e - 2 * a) (drop (2 * a) bs), length-drop (2 * a) bs)

  place_cut : (i : ℕ) → i < e - a → get_or (places_said (cut bs a e)) i 0 ≡ get_or (places_said bs) (a + i) 0
  place_cut i h =
      let k : 2 * a + 2 * i ≡ 2 * (a + i) = omega arith in
      place_at (cut bs a e) i (omega (arith, length_cut)) ∙ ap number_in (part_cut bs (2 * e - 2 * a) (2 * a) (2 * i) (omega arith) ∙ rw k)
      ∙ sym (place_at bs (a + i) (omega arith))

  -- their places are those of the whole from a up to e
  pub places_cut : places_said (cut bs a e) ≡ part a e (places_said bs)
  places_cut =
      let n : length (places_said (cut bs a e)) ≡ e - a = length_places (cut bs a e) ∙ length_cut in
      ext_get_or 0 (places_said (cut bs a e)) (part a e (places_said bs)) (n ∙ sym (length_part a e (places_said bs) ends (omega (arith, length_places bs))))
      (λ i h. let l : i < e - a = omega arith in place_cut i l ∙ sym (get_or_part a e (places_said bs) i l))
