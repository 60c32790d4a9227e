-- Strictly increasing lists: what the test `rising` says, as facts, and the laws of these.
use Prim.Native.Nat.{ℕ, zero, suc, ◌+◌, ◌-◌, ◌≤◌, ◌<◌, zero-le}
use mathlib.Core.Path.{◌≡◌, refl}
use mathlib.Core.Bool.{true, ◌&&◌}
use mathlib.Core.List.{List, [], ◌∷◌, ◌++◌}
use native.Mathlib.Omega.{arith}
use lib.ListN.{length, get_or, take, drop}
use lib.Dec.{leb, ltb}
use borrow.Author.Tests.{leb-true, ltb-true, le-leb, lt-ltb}
use Rattle.std.proofs.lemmas.Bool.{and_parts}
use Rattle.spec.specs.Set.{rising, select}

-- the members are at or above `low`, strictly increasing, and below `end`
abbrev pub Rising : ℕ → ℕ → List ℕ → Type 0
Rising low end [] = Unit {0}
Rising low end (x ∷ xs) = (low ≤ x) × (x < end) × Rising (suc x) end xs

-- ---- test and facts say the same

pub rising_facts : (low end : ℕ) (xs : List ℕ) → rising low end xs ≡ true → Rising low end xs
unfolding rising
rising_facts low end [] e = tt
rising_facts low end (x ∷ xs) e =
    let p = and_parts (leb low x && ltb x end) (rising (suc x) end xs) e in
    let q = and_parts (leb low x) (ltb x end) p.0 in
    (leb-true low x q.0, ltb-true x end q.1, rising_facts (suc x) end xs p.1)

pub rising_true : (low end : ℕ) (xs : List ℕ) → Rising low end xs → rising low end xs ≡ true
unfolding rising
rising_true low end [] r = refl
rising_true low end (x ∷ xs) r = rw (le-leb low x r.0, lt-ltb x end r.1) (rising_true (suc x) end xs r.2)

-- ---- bounds

-- there are no more members than numbers between the bounds
pub rising_length : (low end : ℕ) (xs : List ℕ) → Rising low end xs → length xs ≤ end - low
rising_length low end [] r = zero-le
rising_length low end (x ∷ xs) r = let i = rising_length (suc x) end xs r.2 in omega arith

-- the bounds may be given away
pub rising_lower : (k low end : ℕ) (xs : List ℕ) → k ≤ low → Rising low end xs → Rising k end xs
rising_lower k low end [] h r = tt
rising_lower k low end (x ∷ xs) h r = (omega arith, r.1, r.2)

pub rising_widen : (low end end' : ℕ) (xs : List ℕ) → end ≤ end' → Rising low end xs → Rising low end' xs
rising_widen low end end' [] h r = tt
rising_widen low end end' (x ∷ xs) h r = (r.0, omega arith, rising_widen (suc x) end end' xs h r.2)

-- a list that ends where another begins, and that other
pub rising_append : (low mid end : ℕ) (xs ys : List ℕ) → low ≤ mid → mid ≤ end → Rising low mid xs → Rising mid end ys → Rising low end (xs ++ ys)
rising_append low mid end [] ys h l r s = rising_lower low mid end ys h s
rising_append low mid end (x ∷ xs) ys h l r s = (r.0, omega arith, rising_append (suc x) mid end xs ys r.1 l r.2 s)

-- ---- a front and a rest

pub rising_take : (n low end : ℕ) (xs : List ℕ) → Rising low end xs → Rising low end (take n xs)
rising_take zero low end xs r = tt
rising_take (suc n) low end [] r = tt
rising_take (suc n) low end (x ∷ xs) r = (r.0, r.1, rising_take n (suc x) end xs r.2)

pub rising_drop : (n low end : ℕ) (xs : List ℕ) → Rising low end xs → Rising low end (drop n xs)
rising_drop zero low end xs r = r
rising_drop (suc n) low end [] r = tt
rising_drop (suc n) low end (x ∷ xs) r = rising_lower low (suc x) end (drop n xs) (omega (arith, r.0)) (rising_drop n (suc x) end xs r.2)

-- ---- members by their place

pub rising_between : (k low end : ℕ) (xs : List ℕ) → k < length xs → Rising low end xs → (low ≤ select k xs) × (select k xs < end)
rising_between k low end [] h r = absurd (omega arith)
rising_between zero low end (x ∷ xs) h r = (r.0, r.1)
rising_between (suc k) low end (x ∷ xs) h r = let i = rising_between k (suc x) end xs (omega arith) r.2 in (omega arith, i.1)

-- the members are distinct and sorted, so the one k places on is at least k more
pub rising_from : (k low end : ℕ) (xs : List ℕ) → k < length xs → Rising low end xs → low + k ≤ select k xs
rising_from k low end [] h r = absurd (omega arith)
rising_from zero low end (x ∷ xs) h r = omega arith
rising_from (suc k) low end (x ∷ xs) h r = let i = rising_from k (suc x) end xs (omega arith) r.2 in omega arith

pub rising_steps : (i j low end : ℕ) (xs : List ℕ) → i ≤ j → j < length xs → Rising low end xs → get_or xs i 0 + (j - i) ≤ get_or xs j 0
rising_steps i j low end [] h l r = absurd (omega arith)
rising_steps zero j low end (x ∷ xs) h l r = omega (arith, rising_from j x end (x ∷ xs) l (omega arith, r.1, r.2))
rising_steps (suc i) zero low end (x ∷ xs) h l r = absurd (omega arith)
rising_steps (suc i) (suc j) low end (x ∷ xs) h l r =
    let p = rising_steps i j (suc x) end xs (omega arith) (omega arith) r.2 in omega arith

pub rising_apart : (i j low end : ℕ) (xs : List ℕ) → i < j → j < length xs → Rising low end xs → get_or xs i 0 < get_or xs j 0
rising_apart i j low end xs h l r = omega (arith, rising_steps i j low end xs (omega arith) l r)
