-- The places of a word: what one bit, a mask and the count of ones are to them.
use Prim.Native.Nat.{ℕ, zero, suc, ◌+◌, ◌-◌, ◌*◌, ◌/◌, ◌%◌, ◌^◌, ◌≤◌, ◌<◌}
use mathlib.Core.Path.{◌≡◌, refl, sym, ap, ap₂, ◌∙◌}
use mathlib.Core.Bool.{not, cond}
use mathlib.Core.List.{[], ◌∷◌}
use native.Mathlib.Nat.{mod-lt, mod-one, mod-eq_of_lt, div-one, zero-mul, one-mul, add-zero, pow-suc}
use native.Mathlib.Numerals.{add-one, one-add}
use native.Mathlib.Omega.{arith}
use lib.ListN.{length}
use lib.Dec.{eqb}
use lib.Bits.{bit_and, bit_or, and_mask, and_high, or_add_and}
use lib.Count.{ones, ones_step}
use lib.Pow.{pow_pos, shr-shr, field, mod-mod-pow}
use borrow.Author.Tests.{eq-eqb, ne_eqb, eqb-true, eqb-false, lt-ltb}
use Rattle.std.proofs.lemmas.Nat.{one_shl}
use Rattle.spec.specs.Set.{contains, rank}
use Rattle.spec.specs.Reading.{bits}
use Rattle.spec.proofs.Tests.{by_test}
use Rattle.spec.proofs.Questions.{contains_before, rank_low, rank_all}
use Rattle.spec.proofs.Words.{bits_rising}

-- ---- the lowest bit, and the others

-- by cases of the lowest bit
pub by_parity : {A : Type 0} (w : ℕ) → (w % 2 ≡ 0 → A) → (w % 2 ≡ 1 → A) → A
by_parity w even odd =
    by_test (eqb (w % 2) 1) (λ e. odd (eqb-true (w % 2) 1 e))
    (λ e. even (other (w % 2) (mod-lt w (omega arith)) (eqb-false (w % 2) 1 e)))
  where
    other : (r : ℕ) → r < 2 → (r ≡ 1 → ⊥) → r ≡ 0
    other zero h n = refl
    other (suc zero) h n = absurd (n refl)
    other (suc (suc r)) h n = absurd (omega arith)

-- it is the first place, if it is set
pub bits_odd : (f p w : ℕ) → w % 2 ≡ 1 → bits (suc f) p w ≡ p ∷ bits f (suc p) (w / 2)
unfolding bits
bits_odd f p w e = rw (eq-eqb (w % 2) 1 e)

pub bits_even : (f p w : ℕ) → w % 2 ≡ 0 → bits (suc f) p w ≡ bits f (suc p) (w / 2)
unfolding bits
bits_even f p w e = rw (ne_eqb (w % 2) 1 (λ q. omega arith))

-- no bits have no places
pub no_bits : (p w : ℕ) → bits 0 p w ≡ []
unfolding bits
no_bits p w = refl

-- bit n + 1 of a word is bit n of its half; std's shr-shr would first have to be brought to w / 2
pub half_pow : (w n : ℕ) → w / 2 / 2 ^ n ≡ w / 2 ^ suc n
half_pow w n = rw (← (one-add n)) (shr-shr w 1 n)

-- ---- contains: bit n

-- of f bits, where the word's own first place is p
pub contains_bits : (f p n w : ℕ) → n < f → contains (p + n) (bits f p w) ≡ eqb (w / 2 ^ n % 2) 1
unfolding contains
contains_bits zero p n w h = absurd (omega arith)
contains_bits (suc f) p zero w h =
    rw (add-zero p, div-one w)
    (by_parity w (λ e. rw (bits_even f p w e, e) (contains_before (suc p) (suc p + f) (bits f (suc p) (w / 2)) (bits_rising f (suc p) (w / 2)) p (omega arith)))
    (λ e. rw (bits_odd f p w e, e, eq-eqb p p refl)))
contains_bits (suc f) p (suc n) w h =
    let i : contains (suc p + n) (bits f (suc p) (w / 2)) ≡ eqb (w / 2 ^ suc n % 2) 1 =
    contains_bits f (suc p) n (w / 2) (omega arith) ∙ ap (λ q. eqb (q % 2) 1) (half_pow w n) in
    let s : p + suc n ≡ suc p + n = omega arith in
    rw s (by_parity w (λ e. rw (bits_even f p w e) i) (λ e. rw (bits_odd f p w e, ne_eqb p (suc p + n) (λ q. omega arith)) i))

-- of a word
pub contains_bit : (n w : ℕ) → n < 64 → contains n (bits 64 0 w) ≡ eqb (w / 2 ^ n % 2) 1
contains_bit n w h = let z : 0 + n ≡ n = omega arith in rw z at (contains_bits 64 0 n w h)

-- ---- rank: the ones of the bits below

-- the lowest bit, and the others, of the n + 1 lowest
low_half : (w n : ℕ) → ones (w % 2 ^ suc n) ≡ w % 2 + ones (w / 2 % 2 ^ n)
low_half w n = rw (← (add-one n)) (ones_step (w % 2 ^ (n + 1)) ∙ ap₂ (λ a b. a + ones b) (mod-mod-pow w n 1) (field w n 1))

-- of f bits, where the word's own first place is p
pub rank_bits : (f p n w : ℕ) → n ≤ f → rank (p + n) (bits f p w) ≡ ones (w % 2 ^ n)
unfolding rank ones
rank_bits f p zero w h = rw (add-zero p, mod-one w) (rank_low p (p + f) (bits f p w) (bits_rising f p w) p (omega arith))
rank_bits zero p (suc n) w h = absurd (omega arith)
rank_bits (suc f) p (suc n) w h =
    let i = rank_bits f (suc p) n (w / 2) (omega arith) in
    let s : p + suc n ≡ suc p + n = omega arith in
    rw (s, low_half w n)
    (by_parity w (λ e. rw (bits_even f p w e, e) (omega arith)) (λ e. rw (bits_odd f p w e, lt-ltb p (suc p + n) (omega arith), e) (omega arith)))

-- the count of ones of a word is the number of its places
pub length_bits : (f p w : ℕ) → w < 2 ^ f → length (bits f p w) ≡ ones w
length_bits f p w h =
    sym (rank_all p (p + f) (bits f p w) (bits_rising f p w) (p + f) (omega arith)) ∙ rank_bits f p f w (omega arith) ∙ ap ones (mod-eq_of_lt h)

-- ---- one bit

-- a word and it
and_bit : (w n : ℕ) → bit_and w (2 ^ n) ≡ w / 2 ^ n % 2 * 2 ^ n
and_bit w n = let e : 2 ^ (1 + n) - 2 ^ n ≡ 2 ^ n = rw one-add (omega (arith, pow-suc 2 n)) in rw e at (and_high w 1 n)

-- `w & (1 << n) != 0` asks for place n
pub test_bit : (w n : ℕ) → n < 64 → not (eqb (bit_and w ((1 * 2 ^ n) % 2 ^ 64)) 0) ≡ contains n (bits 64 0 w)
test_bit w n h =
    rw (one_shl n 64 h, and_bit w n, contains_bit n w h)
    (by_parity (w / 2 ^ n) (λ e. rw (e, zero-mul)) (λ e. rw (e, one-mul) (ap not (ne_eqb (2 ^ n) 0 (λ z. omega (arith, pow_pos n))))))

-- `w | (1 << n)` adds it
pub or_bit : (w n : ℕ) → n < 64 → bit_or w ((1 * 2 ^ n) % 2 ^ 64) ≡ cond (contains n (bits 64 0 w)) w (w + 2 ^ n)
or_bit w n h =
    let sum : bit_or w (2 ^ n) + w / 2 ^ n % 2 * 2 ^ n ≡ w + 2 ^ n = rw and_bit at (or_add_and w (2 ^ n)) in
    rw (one_shl n 64 h, contains_bit n w h)
    (by_parity (w / 2 ^ n) (λ e. rw e (omega (arith, rw (e, zero-mul) at sum))) (λ e. rw e (omega (arith, rw (e, one-mul) at sum))))

-- the ones of `w & ((1 << n) - 1)` are the places below n
pub ones_mask : (w n : ℕ) → n < 64 → ones (bit_and w ((1 * 2 ^ n) % 2 ^ 64 - 1)) ≡ rank n (bits 64 0 w)
ones_mask w n h =
    let z : 0 + n ≡ n = omega arith in
    rw (one_shl n 64 h, and_mask w n) (sym (rw z at (rank_bits 64 0 n w (omega arith))))
