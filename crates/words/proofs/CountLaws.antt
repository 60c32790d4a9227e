-- Reading a row count from the front, a byte at a time.
use Prim.Native.Nat.{ℕ, zero, suc, ◌+◌, ◌-◌, ◌*◌, ◌%◌, ◌^◌, ◌≤◌, ◌<◌, min}
use mathlib.Core.Path.{◌≡◌, refl, sym, ap, ◌∙◌}
use mathlib.Core.Bool.{cond, false, ◌&&◌, and-false}
use mathlib.Core.List.{List, [], ◌∷◌}
use mathlib.Core.Option.{Option, none, some}
use native.Mathlib.Nat.{mul-le-mul_right, pow-suc, add-mul, mul_assoc}
use native.Mathlib.Numerals.{add-one}
use native.Mathlib.Omega.{arith}
use lib.ListN.{length, get_or, drop, length-drop}
use lib.Seq.{drop-cons}
use lib.Dec.{leb, ltb, eqb}
use Rattle.std.specs.Prelude.{Ok, Err}
use borrow.Author.Tests.{le-leb, lt-leb, lt-ltb, eq-eqb, ne_eqb, ltb-true}
use Rattle.spec.proofs.Tests.{by_test}
use Rattle.spec.specs.Reading.{Head, onto, ungroups}
use Rattle.words.specs.Count.{count_in}
use Rattle.words.specs.declared.count.CountFault.TheVariants.{Padded, Unended}

-- what stands behind i bytes, which make `count`, where the next byte counts w-fold
abbrev behind : ℕ → ℕ → ℕ → Option Head → Option Head
behind count w i none = none
behind count w i (some h) = some (record { count = count + h.count * w; start = i + h.start })

-- i bytes are read, and those that are left say the rest
pub record SoFar (s : List ℕ) (count w i : ℕ) : Type 0 where
  pub few : i ≤ 5
  pub weight : w ≡ 128 ^ i
  pub small : count < w
  pub whole : behind count w i (ungroups (5 - i) (drop i s)) ≡ ungroups 5 s

-- where no byte is left to read, none ends the row count
none_left : (f : ℕ) (bs : List ℕ) → min f (length bs) ≡ 0 → ungroups f bs ≡ none
unfolding ungroups
none_left zero bs h = refl
none_left (suc f) [] h = refl
none_left (suc f) (b ∷ bs) h = absurd (omega arith)

-- a byte below 128 is one more in front
one_more : (count w i b : ℕ) (o : Option Head) → behind count w i (onto b o) ≡ behind (count + b * w) (w * 128) (i + 1) o
one_more count w i b none = refl
one_more count w i b (some h) = λ j. some (record { count = sum j; start = long j })
  where
    sum : count + (b + 128 * h.count) * w ≡ count + b * w + h.count * (w * 128)
    sum = omega (arith, add-mul b (128 * h.count) w, mul_assoc 128 h.count w, mul_assoc h.count w 128)

    long : i + suc h.start ≡ i + 1 + h.start
    long = omega arith

module _ {s : List ℕ} {count w i : ℕ} (r : SoFar s count w i) where
  -- five bytes are read, or no more are there, and the row count has not ended
  pub ended : i ≡ min 5 (length s) → Err Unended ≡ count_in (ungroups 5 s) s
  ended e = ap (λ o. count_in o s) (rw (none_left (5 - i) (drop i s) (omega (arith, e, length-drop i s))) at r.whole)

  module _ {j b : ℕ} (t : (i < 5) × (i < length s) × (j ≡ i) × (b ≡ get_or s i 0)) where
    -- the next byte, and those behind it
    next : ungroups (5 - i) (drop i s)
        ≡ cond (leb 128 b) (some (record { count = b - 128; start = 1 })) (onto b (ungroups (5 - (i + 1)) (drop (i + 1) s)))
    unfolding ungroups
    next = let e : 5 - i ≡ suc (5 - (i + 1)) = omega (arith, t.0) in rw (e, add-one i, t.3, drop-cons s i 0 t.1)

    -- it is not the last
    pub more : b < 128 → SoFar s (count + b % 128 * w) (w * 128) (i + 1)
    more m =
        let low : b % 128 ≡ b = omega arith in
        let e = one_more count w i b (ungroups (5 - (i + 1)) (drop (i + 1) s)) in
        rw low (record {
          few = omega (arith, t.0);
          weight = rw (add-one i, pow-suc, r.weight);
          small = omega (arith, r.small, mul-le-mul_right {m = b} {n = 127} w (omega arith));
          whole = sym e ∙ rw (next, lt-leb 128 b m) at r.whole;
        })

    module _ (y : b < 256) (m : 128 ≤ b) where
      -- it is the last
      last : some (record { count = count + b % 128 * w; start = i + 1 }) ≡ ungroups 5 s
      last =
          let low : b % 128 ≡ b - 128 = omega arith in
          rw low (rw (next, le-leb 128 b m) at r.whole)

      back : i + 1 - 1 ≡ i
      back = omega arith

      -- of several, and 128: padded
      pub last_padded : 1 < j + 1 → b ≡ 128 → Err Padded ≡ count_in (ungroups 5 s) s
      last_padded p e = rw (← last, lt-ltb 1 (i + 1) (omega (arith, t.2)), back, ← t.3, eq-eqb b 128 e)

      -- another, or the only one
      pub last_good : (1 < j + 1 → b ≡ 128 → ⊥) → Ok (record { count = count + b % 128 * w; start = j + 1 }) ≡ count_in (ungroups 5 s) s
      last_good n = rw (← last, back, ← t.3, no, t.2)
        where
          no : ltb 1 (i + 1) && eqb b 128 ≡ false
          no =
              by_test (ltb 1 (i + 1))
              (λ q. ap (λ z. ltb 1 (i + 1) && z) (ne_eqb b 128 (n (omega (arith, ltb-true 1 (i + 1) q, t.2)))) ∙ and-false (ltb 1 (i + 1)))
              (λ q. ap (λ z. z && eqb b 128) q)
