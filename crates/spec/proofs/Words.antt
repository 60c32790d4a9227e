-- A dense word and its places: each is read back from the other.
use Prim.Native.Nat.{ℕ, zero, suc, ◌+◌, ◌-◌, ◌*◌, ◌/◌, ◌%◌, ◌^◌, ◌≤◌, ◌<◌}
use mathlib.Core.Path.{◌≡◌, refl, sym, ap, ap₂, ◌∙◌, subst}
use mathlib.Core.Bool.{Bool, true, false}
use mathlib.Core.List.{List, [], ◌∷◌, ◌++◌}
use native.Mathlib.Nat.{pow-suc, zero-add, add-zero, suc-add}
use native.Mathlib.Omega.{arith}
use lib.Seq.{append_snoc}
use lib.Dec.{ltb, eqb}
use borrow.Author.Tests.{ltb-true, ltb-false, eqb-true, eqb-false, ne_eqb, eq-eqb}
use Rattle.spec.specs.Set.{bit, keep, contains}
use Rattle.spec.specs.Layout.{word_from, word}
use Rattle.spec.specs.Reading.{bits}
use Rattle.spec.proofs.Tests.{by_test}
use Rattle.spec.proofs.Rising.{Rising, rising_lower, rising_widen, rising_append}
use Rattle.spec.proofs.Questions.{contains_append, contains_here, contains_before, contains_past}

-- ---- from places to a word and back

bit_le : (b : Bool) → bit b ≤ 1
bit_le true = omega arith
bit_le false = omega arith

pub word_lt : (f a : ℕ) (ps : List ℕ) → word_from f a ps < 2 ^ f
unfolding word_from
word_lt zero a ps = omega arith
word_lt (suc f) a ps = let i = word_lt f (suc a) ps in let b = bit_le (contains a ps) in let p = pow-suc 2 f in omega arith

-- of the f numbers from a on, those in ps
unfoldable pub members : ℕ → ℕ → List ℕ → List ℕ
members zero a ps = []
members (suc f) a ps = keep (contains a ps) a (members f (suc a) ps)

pub bits_word : (f a : ℕ) (ps : List ℕ) → bits f a (word_from f a ps) ≡ members f a ps
unfolding bits word_from members
bits_word zero a ps = refl
bits_word (suc f) a ps =
    rw (odd (contains a ps) (word_from f (suc a) ps), half (contains a ps) (word_from f (suc a) ps)) (ap (keep (contains a ps) a) (bits_word f (suc a) ps))
  where
    odd : (b : Bool) (w : ℕ) → eqb ((bit b + 2 * w) % 2) 1 ≡ b
    odd true w = eq-eqb ((1 + 2 * w) % 2) 1 (omega arith)
    odd false w = ne_eqb ((0 + 2 * w) % 2) 1 (λ q. omega arith)

    half : (b : Bool) (w : ℕ) → (bit b + 2 * w) / 2 ≡ w
    half true w = omega arith
    half false w = omega arith

members_nil : (f a : ℕ) → members f a [] ≡ []
unfolding members contains
members_nil zero a = refl
members_nil (suc f) a = members_nil f (suc a)

members_skip : (f a p : ℕ) (ps : List ℕ) → p < a → members f a (p ∷ ps) ≡ members f a ps
unfolding members contains
members_skip zero a p ps h = refl
members_skip (suc f) a p ps h = rw (ne_eqb p a (λ q. omega arith), members_skip f (suc a) p ps (omega arith))

-- all of a list whose places lie there
pub members_all : (f a end : ℕ) (ps : List ℕ) → Rising a end ps → end ≤ a + f → members f a ps ≡ ps
unfolding members contains
members_all zero a end [] r h = refl
members_all zero a end (p ∷ ps) r h = absurd (omega arith)
members_all (suc f) a end [] r h = members_nil f (suc a)
members_all (suc f) a end (p ∷ ps) r h =
    by_test (eqb p a)
    (λ e. let q : p ≡ a = eqb-true p a e in
    rw (e, members_skip f (suc a) p ps (omega arith)) (ap₂ (λ x l. x ∷ l) (sym q) (members_all f (suc a) end ps (subst (λ x. Rising (suc x) end ps) q r.2) (omega arith))))
    (λ e. let l : a < p = lib.Arith.lt_of_le-ne r.0 (λ q. eqb-false p a e (sym q)) in
    rw (e, contains_before (suc p) end ps r.2 a (omega arith)) (members_all f (suc a) end (p ∷ ps) (l, r.1, r.2) (omega arith)))

-- f of them, and the g behind
pub members_append : (f g a : ℕ) (ps : List ℕ) → members (f + g) a ps ≡ members f a ps ++ members g (a + f) ps
unfolding members
members_append zero g a ps = rw (zero-add, add-zero)
members_append (suc f) g a ps =
    let e : suc a + f ≡ a + suc f = omega arith in
    rw (suc-add f g, members_append f g (suc a) ps, e) (kept (contains a ps) (members f (suc a) ps))
  where
    kept : (b : Bool) (l : List ℕ) → keep b a (l ++ members g (a + suc f) ps) ≡ keep b a l ++ members g (a + suc f) ps
    kept true l = refl
    kept false l = refl

-- ---- from a word to places and back

-- the places of f bits from p on
pub bits_rising : (f p w : ℕ) → Rising p (p + f) (bits f p w)
unfolding bits
bits_rising zero p w = tt
bits_rising (suc f) p w =
    let e : suc p + f ≡ p + suc f = omega arith in
    go (eqb (w % 2) 1) (bits f (suc p) (w / 2)) (rw e at (bits_rising f (suc p) (w / 2)))
  where
    go : (b : Bool) (l : List ℕ) → Rising (suc p) (p + suc f) l → Rising p (p + suc f) (keep b p l)
    go true l r = (omega arith, omega arith, r)
    go false l r = rising_lower p (suc p) (p + suc f) l (omega arith) r

-- the word of places of which those from a to a + f are the places of w
pub word_bits : (f a end w : ℕ) (pre rest : List ℕ) → w < 2 ^ f → Rising 0 a pre → Rising (a + f) end rest
    → word_from f a (pre ++ (bits f a w ++ rest)) ≡ w
unfolding word_from bits
word_bits zero a end w pre rest h r s = omega arith
word_bits (suc f) a end w pre rest h r s =
    let B = bits f (suc a) (w / 2) in
    let n : suc a + f ≡ a + suc f = omega arith in
    let h' : w / 2 < 2 ^ f = let p = pow-suc 2 f in omega arith in
    let s' : Rising (suc a + f) end rest = rw n s in
    by_test (eqb (w % 2) 1)
    (λ e.
    let i : word_from f (suc a) (pre ++ (a ∷ (B ++ rest))) ≡ w / 2 =
    rw (sym (append_snoc pre a (B ++ rest))) (word_bits f (suc a) end (w / 2) (pre ++ (a ∷ [])) rest h' (rising_append 0 a (suc a) pre (a ∷ []) (omega arith) (omega arith) r (omega arith, omega arith, tt)) s') in
    rw (e, contains_here a pre (B ++ rest), i) (omega (arith, eqb-true (w % 2) 1 e)))
    (λ e.
    let i : word_from f (suc a) (pre ++ (B ++ rest)) ≡ w / 2 = word_bits f (suc a) end (w / 2) pre rest h' (rising_widen 0 a (suc a) pre (omega arith) r) s' in
    let l = lib.Arith.lt_of_le-ne {i = w % 2} {k = 1} (omega arith) (eqb-false (w % 2) 1 e) in
    rw (
      e,
      contains_append a pre (B ++ rest),
      contains_append a B rest,
      contains_past 0 a pre r a (omega arith),
      contains_before (suc a) (suc a + f) B (bits_rising f (suc a) (w / 2)) a (omega arith),
      contains_before (a + suc f) end rest s a (omega arith),
      i,
    ) (omega arith))

-- ---- the same word, as the sum of the powers of two of its places

word_before : (f a p : ℕ) (ps : List ℕ) → p < a → word_from f a (p ∷ ps) ≡ word_from f a ps
unfolding word_from contains
word_before zero a p ps h = refl
word_before (suc f) a p ps h = rw (ne_eqb p a (λ q. omega arith), word_before f (suc a) p ps (omega arith))

word_after : (f a p : ℕ) (ps : List ℕ) → a + f ≤ p → word_from f a (p ∷ ps) ≡ word_from f a ps
unfolding word_from contains
word_after zero a p ps h = refl
word_after (suc f) a p ps h = rw (ne_eqb p a (λ q. omega arith), word_after f (suc a) p ps (omega arith))

word_at : (f a p : ℕ) (ps : List ℕ) → a ≤ p → p < a + f → contains p ps ≡ false → word_from f a (p ∷ ps) ≡ 2 ^ (p - a) + word_from f a ps
unfolding word_from contains
word_at zero a p ps h l c = absurd (omega arith)
word_at (suc f) a p ps h l c =
    by_test (eqb p a)
    (λ e.
    let q : p ≡ a = eqb-true p a e in
    let z : p - a ≡ 0 = omega arith in
    rw (e, word_before f (suc a) p ps (omega arith), z, ap (λ d. contains d ps) (sym q) ∙ c) (omega arith))
    (λ e.
    let k : a < p = lib.Arith.lt_of_le-ne h (λ q. eqb-false p a e (sym q)) in
    let n : p - a ≡ suc (p - suc a) = omega arith in
    rw (e, word_at f (suc a) p ps k (omega arith) c, n) (omega (arith, pow-suc 2 (p - suc a))))

pub word_here : (m p low end : ℕ) (ps : List ℕ) → p / 64 ≡ m → Rising low end (p ∷ ps) → word m (p ∷ ps) ≡ 2 ^ (p % 64) + word m ps
word_here m p low end ps e r =
    let n : p - 64 * m ≡ p % 64 = omega arith in
    word_at 64 (64 * m) p ps (omega arith) (omega arith) (contains_before (suc p) end ps r.2 p (omega arith)) ∙ ap (λ n. 2 ^ n + word m ps) n

pub word_elsewhere : (m p : ℕ) (ps : List ℕ) → (p / 64 ≡ m → ⊥) → word m (p ∷ ps) ≡ word m ps
word_elsewhere m p ps n =
    by_test (ltb p (64 * m)) (λ e. word_before 64 (64 * m) p ps (ltb-true p (64 * m) e))
    (λ e. let h = ltb-false p (64 * m) e in
    word_after 64 (64 * m) p ps (let k : m < p / 64 = lib.Arith.lt_of_le-ne (omega arith) (λ q. n (sym q)) in omega arith))
