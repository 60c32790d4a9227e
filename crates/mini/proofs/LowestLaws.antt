-- The lowest places of a word: clearing the lowest bit, the trailing zeros, the bits from a place on, and none past an end.
use Prim.Native.Nat.{ℕ, zero, suc, ◌+◌, ◌-◌, ◌*◌, ◌/◌, ◌%◌, ◌^◌, ◌≤◌, ◌<◌}
use mathlib.Core.Path.{◌≡◌, refl, sym, ap, ap₂, ◌∙◌}
use mathlib.Core.Bool.{true}
use mathlib.Core.List.{[], ◌∷◌}
use mathlib.Core.Option.{some, none}
use native.Mathlib.Nat.{mod-eq_of_lt, div-one, div-eq_of_lt, zero-div, div-mul-le_self, lt_of_le_of_lt, lt_of_lt_of_le, mul-one, add-zero, pow-suc}
use native.Mathlib.Omega.{arith}
use lib.ListN.{length, get_or, drop, length-drop}
use lib.Seq.{drop-cons, drop-drop, get_or-drop}
use lib.Dec.{ltb, eqb}
use lib.Bits.{bit_and, and_step, and_self}
use lib.Count.{count_trailing_zeros}
use lib.Pow.{pow_mono}
use borrow.Author.Tests.{eq-eqb, ne_eqb, eqb-true, eqb-false, lt-leb, le-leb, ltb-true, ltb-false}
use Rattle.spec.specs.Set.{next, below}
use Rattle.spec.specs.Reading.{bits}
use Rattle.spec.proofs.Tests.{by_test}
use Rattle.spec.proofs.Questions.{next_low}
use Rattle.spec.proofs.Words.{bits_rising}
use Rattle.mini.proofs.BitLaws.{by_parity, bits_odd, bits_even, no_bits, half_pow}

-- a word without bits has no places, so one with places is not 0
pub bits_zero : (f p : ℕ) → bits f p 0 ≡ []
bits_zero zero p = no_bits p 0
bits_zero (suc f) p = bits_even f p 0 refl ∙ bits_zero f (suc p)

some_bits : (f p w : ℕ) → 0 < length (bits f p w) → 0 < w
some_bits f p zero h = absurd (omega (arith, ap length (bits_zero f p)))
some_bits f p (suc w) h = omega arith

bits_some : (f p w : ℕ) → w < 2 ^ f → 0 < w → 0 < length (bits f p w)
bits_some zero p w h l = absurd (omega arith)
bits_some (suc f) p w h l =
    by_parity w (λ e. rw (bits_even f p w e) (bits_some f (suc p) (w / 2) (omega (arith, pow-suc 2 f)) (omega arith)))
    (λ e. rw (bits_odd f p w e) (omega arith))

-- ---- clearing the lowest bit, `w & (w - 1)`: the first place goes

pub cleared_lowest : (f p w : ℕ) → 0 < w → bits f p (bit_and w (w - 1)) ≡ drop 1 (bits f p w)
cleared_lowest zero p w h = simp no_bits
cleared_lowest (suc f) p w h =
    by_parity w
    (λ e.
    let half : (w - 1) / 2 ≡ w / 2 - 1 = omega arith in
    let odd : (w - 1) % 2 ≡ 1 = omega arith in
    let is : bit_and w (w - 1) ≡ bit_and (w / 2) (w / 2 - 1) * 2 = rw (and_step w (w - 1), half, e, odd) (omega arith) in
    rw (is, bits_even f p (bit_and (w / 2) (w / 2 - 1) * 2) (omega arith), bits_even f p w e)
    (ap (bits f (suc p)) (twice (bit_and (w / 2) (w / 2 - 1))) ∙ cleared_lowest f (suc p) (w / 2) (omega arith)))
    (λ e.
    let half : (w - 1) / 2 ≡ w / 2 = omega arith in
    let even : (w - 1) % 2 ≡ 0 = omega arith in
    let is : bit_and w (w - 1) ≡ w / 2 * 2 = rw (and_step w (w - 1), half, e, even, and_self (w / 2)) (omega arith) in
    rw (is, bits_even f p (w / 2 * 2) (omega arith), bits_odd f p w e) (ap (bits f (suc p)) (twice (w / 2))))
  where
    twice : (n : ℕ) → n * 2 / 2 ≡ n
    twice n = omega arith

-- ---- the trailing zeros: the first place, or 64

-- they end at a lowest bit that is set
zeros_odd : (f w : ℕ) → w % 2 ≡ 1 → count_trailing_zeros (suc f) w ≡ 0
unfolding count_trailing_zeros
zeros_odd f w e = rw e

zeros_even : (f w : ℕ) → w % 2 ≡ 0 → count_trailing_zeros (suc f) w ≡ suc (count_trailing_zeros f (w / 2))
unfolding count_trailing_zeros
zeros_even f w e = rw e

-- of a word with places they are the first
first_place : (f p w : ℕ) → 0 < length (bits f p w) → p + count_trailing_zeros f w ≡ get_or (bits f p w) 0 0
first_place zero p w h = absurd (omega (arith, ap length (no_bits p w)))
first_place (suc f) p w h =
    by_parity w
    (λ e. rw (zeros_even f w e, bits_even f p w e) (omega (arith, first_place f (suc p) (w / 2) (rw (bits_even f p w e) at h))))
    (λ e. rw (zeros_odd f w e, bits_odd f p w e) (add-zero p))

-- so the places of a word that is not 0 are the first, and those that are left when its lowest bit is cleared
pub lowest_first : (f p w : ℕ) → w < 2 ^ f → 0 < w → bits f p w ≡ (p + count_trailing_zeros f w) ∷ bits f p (bit_and w (w - 1))
lowest_first f p w h l =
    let some : 0 < length (bits f p w) = bits_some f p w h l in
    let first = first_place f p w some in
    drop-cons (bits f p w) 0 0 some ∙ ap₂ (λ x xs. x ∷ xs) (sym first) (sym (cleared_lowest f p w l))

-- ---- the word v that is left of w when its i lowest bits are cleared

module _ (w v i : ℕ) (e : bits 64 0 v ≡ drop i (bits 64 0 w)) (h : i < length (bits 64 0 w)) where
  -- a place is left, if w has more than i
  left : 0 < length (bits 64 0 v)
  left = rw e (simp length-drop (omega arith))

  pub some_left : 0 < v
  some_left = some_bits 64 0 v left

  -- clearing its lowest bit leaves w without i + 1 of them
  pub cleared_more : bits 64 0 (bit_and v (v - 1)) ≡ drop (i + 1) (bits 64 0 w)
  cleared_more = cleared_lowest 64 0 v some_left ∙ ap (drop 1) e ∙ drop-drop 1 i (bits 64 0 w)

  -- its first place is place i of w's
  pub first_left : count_trailing_zeros 64 v ≡ get_or (bits 64 0 w) i 0
  first_left =
      let z : 0 + count_trailing_zeros 64 v ≡ count_trailing_zeros 64 v = omega arith in
      (rw z at (first_place 64 0 v left)) ∙ ap (λ l. get_or l 0 0) e ∙ get_or-drop i (bits 64 0 w) 0 0 ∙ ap (λ n. get_or (bits 64 0 w) n 0) (add-zero i)

-- ---- the bits from place n on, `(w >> n) << n`

-- the first place at or after n is the first of them
next_bits : (f p n w : ℕ) → n ≤ f → next (p + n) (bits f p w) ≡ next p (bits f p (w / 2 ^ n * 2 ^ n))
unfolding next
next_bits f p zero w h = rw (add-zero p, div-one w, mul-one w)
next_bits zero p (suc n) w h = absurd (omega arith)
next_bits (suc f) p (suc n) w h =
    let v = w / 2 / 2 ^ n * 2 ^ n in
    let s : p + suc n ≡ suc p + n = omega arith in
    let cut : w / 2 ^ suc n * 2 ^ suc n ≡ v * 2 =
    ap (λ q. q * 2 ^ suc n) (sym (half_pow w n)) ∙ omega (arith, ap (λ q. w / 2 / 2 ^ n * q) (pow-suc 2 n)) in
    let half : v * 2 / 2 ≡ v = omega arith in
    let i = next_bits f (suc p) n (w / 2) (omega arith) in
    let low = next_low (suc p) (suc p + f) (bits f (suc p) v) (bits_rising f (suc p) v) (suc p) p (omega arith) (omega arith) in
    rw (s, cut, bits_even f p (v * 2) (omega arith), half)
    (by_parity w (λ e. rw (bits_even f p w e) (i ∙ low)) (λ e. rw (bits_odd f p w e, lt-leb (suc p + n) p (omega arith)) (i ∙ low)))

-- so it is the first place of what the shifts leave
module _ (n w : ℕ) (h : n < 64) (l : w < 2 ^ 64) where
  next_left : next n (bits 64 0 w) ≡ next 0 (bits 64 0 ((w / 2 ^ n * 2 ^ n) % 2 ^ 64))
  next_left =
      let z : 0 + n ≡ n = omega arith in
      rw (mod-eq_of_lt (lt_of_le_of_lt (div-mul-le_self w (2 ^ n)) l)) (rw z at (next_bits 64 0 n w (omega arith)))

  -- none, if that is 0
  pub next_none : (w / 2 ^ n * 2 ^ n) % 2 ^ 64 ≡ 0 → none ≡ next n (bits 64 0 w)
  unfolding next
  next_none e = sym (next_left ∙ rw (e, bits_zero 64 0) refl)

  -- else its trailing zeros
  pub next_some : 0 < (w / 2 ^ n * 2 ^ n) % 2 ^ 64 → some (count_trailing_zeros 64 ((w / 2 ^ n * 2 ^ n) % 2 ^ 64)) ≡ next n (bits 64 0 w)
  unfolding next
  next_some e =
      let v = (w / 2 ^ n * 2 ^ n) % 2 ^ 64 in
      let z : 0 + count_trailing_zeros 64 v ≡ count_trailing_zeros 64 v = omega arith in
      sym (next_left ∙ rw (lowest_first 64 0 v (omega arith) e, z, le-leb 0 (count_trailing_zeros 64 v) (omega arith)) refl)

-- ---- none at or past an end

-- nothing is left when the bits before it are shifted out
pub below_bits : (f p end w : ℕ) → w < 2 ^ f → below end (bits f p w) ≡ eqb (w / 2 ^ (end - p)) 0
unfolding below
below_bits zero p end w h =
    let z : w ≡ 0 = omega arith in
    rw (no_bits p w, z, zero-div (2 ^ (end - p)))
below_bits (suc f) p end w h =
    let i = below_bits f (suc p) end (w / 2) (omega (arith, pow-suc 2 f)) in
    by_test (ltb p end)
    (λ l.
    let k : end - p ≡ suc (end - suc p) = omega (arith, ltb-true p end l) in
    rw (k, sym (half_pow w (end - suc p))) (by_parity w (λ e. rw (bits_even f p w e) i) (λ e. rw (bits_odd f p w e, l) i)))
    (λ l.
    let past = ltb-false p end l in
    let k : end - p ≡ 0 = omega arith in
    let j : end - suc p ≡ 0 = omega arith in
    let i' : below end (bits f (suc p) (w / 2)) ≡ eqb (w / 2) 0 = rw (j, div-one (w / 2)) at i in
    rw (k, div-one w)
    (by_parity w (λ e. rw (bits_even f p w e) (i' ∙ none w e)) (λ e. rw (bits_odd f p w e, l) (sym (ne_eqb w 0 (λ z. omega arith))))))
  where
    none : (w : ℕ) → w % 2 ≡ 0 → eqb (w / 2) 0 ≡ eqb w 0
    none w e =
        by_test (eqb (w / 2) 0) (λ q. let z = eqb-true (w / 2) 0 q in q ∙ sym (eq-eqb w 0 (omega arith)))
        (λ q. q ∙ sym (ne_eqb w 0 (λ z. eqb-false (w / 2) 0 q (omega arith))))

-- an end past the word, and one before it
pub below_far : (p end w : ℕ) → w < 2 ^ 64 → p + 64 ≤ end → true ≡ below end (bits 64 p w)
below_far p end w h l =
    sym (below_bits 64 p end w h ∙ eq-eqb (w / 2 ^ (end - p)) 0 (div-eq_of_lt (lt_of_lt_of_le h (pow_mono {i = 64} {j = end - p} (omega arith)))))

pub below_near : (p end w : ℕ) → w < 2 ^ 64 → end ≤ p → eqb w 0 ≡ below end (bits 64 p w)
below_near p end w h l = let k : end - p ≡ 0 = omega arith in sym (rw (k, div-one w) at (below_bits 64 p end w h))
