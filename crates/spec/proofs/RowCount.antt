-- The row count: read back as written, and what is read and not padded was written.
use Prim.Native.Nat.{ℕ, zero, suc, ◌+◌, ◌-◌, ◌*◌, ◌/◌, ◌%◌, ◌^◌, ◌≤◌, ◌<◌}
use mathlib.Core.Path.{◌≡◌, refl, sym, ap, ap₂, ◌∙◌, subst}
use mathlib.Core.Bool.{Bool, true, false, ◌&&◌, cond}
use mathlib.Core.List.{List, [], ◌∷◌, ◌++◌}
use mathlib.Core.Option.{Option, none, some}
use native.Mathlib.Nat.{pow-suc, div-lt_iff_lt-mul, zero-lt-suc}
use native.Mathlib.Omega.{arith}
use lib.ListN.{length, get_or, drop}
use lib.Dec.{leb, ltb, eqb}
use borrow.Author.Tests.{ltb-true, ltb-false, leb-true, leb-false, le-ltb, lt-ltb, le-leb, lt-leb, ne_eqb}
use Rattle.std.proofs.lemmas.Bool.{cond-true, cond-false}
use Rattle.spec.specs.Layout.{groups}
use Rattle.spec.specs.Reading.{AreBytes, Head, onto, ungroups, padded}

-- ---- lengths

pub groups_length : (f n : ℕ) → (1 ≤ length (groups f n)) × (length (groups f n) ≤ suc f)
unfolding groups
groups_length zero n = (omega arith, omega arith)
groups_length (suc f) n = go (ltb n 128) (groups_length f (n / 128))
  where
    go : (b : Bool) → (1 ≤ length (groups f (n / 128))) × (length (groups f (n / 128)) ≤ suc f)
        → (1 ≤ length (cond b ((n + 128) ∷ []) (n % 128 ∷ groups f (n / 128)))) × (length (cond b ((n + 128) ∷ []) (n % 128 ∷ groups f (n / 128))) ≤ suc (suc f))
    go true i = (omega arith, omega arith)
    go false i = (omega arith, omega arith)

pub groups_small : (f n : ℕ) → n < 128 → groups f n ≡ (n + 128) ∷ []
unfolding groups
groups_small zero n h = let e : n % 128 ≡ n = omega arith in ap (λ k. (k + 128) ∷ []) e
groups_small (suc f) n h = cond-true (ltb n 128) _ _ (lt-ltb n 128 h)

pub groups_large : (f n : ℕ) → 128 ≤ n → groups (suc f) n ≡ n % 128 ∷ groups f (n / 128)
unfolding groups
groups_large f n h = cond-false (ltb n 128) _ _ (le-ltb n 128 h)

-- small and large numbers apart
small_large : {G : Type 0} (n : ℕ) → (n < 128 → G) → (128 ≤ n → G) → G
small_large {G} n f g = go (ltb n 128) refl
  where
    go : (b : Bool) → ltb n 128 ≡ b → G
    go true e = f (ltb-true n 128 e)
    go false e = g (ltb-false n 128 e)

-- ---- read back as written

abbrev pub head_of : ℕ → Head
head_of n = record { count = n; start = length (groups 4 n) }

-- one group is read
read_last : (f b : ℕ) (bs : List ℕ) → 128 ≤ b → ungroups (suc f) (b ∷ bs) ≡ some (record { count = b - 128; start = 1 })
unfolding ungroups
read_last f b bs h = cond-true (leb 128 b) _ _ (le-leb 128 b h)

read_more : (f b : ℕ) (bs : List ℕ) → b < 128 → ungroups (suc f) (b ∷ bs) ≡ onto b (ungroups f bs)
unfolding ungroups
read_more f b bs h = cond-false (leb 128 b) _ _ (lt-leb 128 b h)

read_small : (f n : ℕ) (rest : List ℕ) → n < 128 → ungroups (suc f) (groups f n ++ rest) ≡ some (record { count = n; start = length (groups f n) })
read_small f n rest l =
    let e : n + 128 - 128 ≡ n = omega arith in
    rw groups_small (read_last f (n + 128) rest (omega arith) ∙ ap (λ k. some (record { count = k; start = 1 })) e)

fewer : (n f : ℕ) → n < 128 ^ suc (suc f) → n / 128 < 128 ^ suc f
fewer n f h = (div-lt_iff_lt-mul (zero-lt-suc 127)).1 (rw (pow-suc 128 (suc f)) at h)

pub read_back : (f n : ℕ) (rest : List ℕ) → n < 128 ^ suc f
    → ungroups (suc f) (groups f n ++ rest) ≡ some (record { count = n; start = length (groups f n) })
read_back zero n rest h = read_small 0 n rest h
read_back (suc f) n rest h = small_large n (read_small (suc f) n rest) (λ l.
    let e : n % 128 + 128 * (n / 128) ≡ n = omega arith in
    rw (groups_large f n l) (read_more (suc f) (n % 128) (groups f (n / 128) ++ rest) (omega arith)
    ∙ ap (onto (n % 128)) (read_back f (n / 128) rest (fewer n f h))
    ∙ ap (λ k. some (record { count = k; start = suc (length (groups f (n / 128))) })) e))

-- the last of k bytes, behind one more
behind : (x : ℕ) (l : List ℕ) (k : ℕ) → 1 ≤ k → get_or (x ∷ l) (suc k - 1) 0 ≡ get_or l (k - 1) 0
behind x l k h = let e : suc k - 1 ≡ suc (k - 1) = omega arith in ap (λ i. get_or (x ∷ l) i 0) e

-- the last byte of a number above zero is not 80, so the shortest form is not padded
last_small : (f n : ℕ) (rest : List ℕ) → 0 < n → n < 128 → get_or (groups f n ++ rest) (length (groups f n) - 1) 0 ≡ 128 → ⊥
last_small f n rest p l e =
    let z : n + 128 ≡ 128 = sym (ap (λ g. get_or (g ++ rest) (length g - 1) 0) (groups_small f n l)) ∙ e in omega arith

last_group : (f n : ℕ) (rest : List ℕ) → 0 < n → get_or (groups f n ++ rest) (length (groups f n) - 1) 0 ≡ 128 → n < 128 ^ suc f → ⊥
last_group zero n rest p e h = last_small 0 n rest p h e
last_group (suc f) n rest p e h = small_large n (λ l. last_small (suc f) n rest p l e) (λ l.
    last_group f (n / 128) rest (omega arith)
    (sym (behind (n % 128) (groups f (n / 128) ++ rest) (length (groups f (n / 128))) (groups_length f (n / 128)).0)
    ∙ sym (ap (λ g. get_or (g ++ rest) (length g - 1) 0) (groups_large f n l)) ∙ e) (fewer n f h))

pub shortest_unpadded : (n : ℕ) (rest : List ℕ) → n < 128 ^ 5 → padded (head_of n) (groups 4 n ++ rest) ≡ false
shortest_unpadded n rest h = small_large n
    (λ l. ap (λ g. ltb 1 (length g) && eqb (get_or (g ++ rest) (length g - 1) 0) 128) (groups_small 4 n l))
    (λ l. ap (λ t. ltb 1 (length (groups 4 n)) && t) (ne_eqb _ 128 (λ e. last_group 4 n rest (omega arith) e h)) ∙ and_no (ltb 1 (length (groups 4 n))))
  where
    and_no : (b : Bool) → b && false ≡ false
    and_no true = refl
    and_no false = refl

-- ---- what is read and not padded was written

-- a row count read from at most f + 1 bytes; where its last byte is 80 only if it is alone, it is the shortest form
pub record Headed (f : ℕ) (bs : List ℕ) (h : Head) : Type 0 where
  pub from : 1 ≤ h.start
  pub upto : h.start ≤ length bs
  pub ends : h.count ≡ 0 → get_or bs (h.start - 1) 0 ≡ 128
  pub shortest : (get_or bs (h.start - 1) 0 ≡ 128 → h.start ≡ 1)
      → (bs ≡ groups f h.count ++ drop h.start bs) × (h.start ≡ length (groups f h.count))

one_byte : (f b : ℕ) (bs : List ℕ) → 128 ≤ b → b < 256 → Headed f (b ∷ bs) (record { count = b - 128; start = 1 })
one_byte f b bs l y =
    let e : groups f (b - 128) ≡ b ∷ [] = groups_small f (b - 128) (omega arith) ∙ ap (λ k. k ∷ []) back in
    record {
      from = omega arith;
      upto = omega arith;
      ends = λ z. omega arith;
      shortest = λ p. (ap (λ l. l ++ bs) (sym e), ap length (sym e));
    }
  where
    back : b - 128 + 128 ≡ b
    back = omega arith

more_byte : (f b : ℕ) (bs : List ℕ) (h : Head) → b < 128 → Headed f bs h
    → Headed (suc f) (b ∷ bs) (record { count = b + 128 * h.count; start = suc h.start })
more_byte f b bs h l d =
    let s = behind b bs h.start d.from in
    record {
      from = omega arith;
      upto = omega (arith, d.upto);
      ends = λ z. s ∙ d.ends (omega arith);
      shortest = λ p.
          let q = d.shortest (λ z. absurd (alone (p (s ∙ z)))) in
          let e : groups (suc f) (b + 128 * h.count) ≡ b ∷ groups f h.count =
          groups_large f (b + 128 * h.count) (large h.count refl (λ z. p (s ∙ d.ends z))) ∙ ap₂ (λ x n. x ∷ groups f n) low high in
          (ap (λ t. b ∷ t) q.0 ∙ ap (λ t. t ++ drop h.start bs) (sym e), ap suc q.1 ∙ ap length (sym e));
    }
  where
    alone : suc h.start ≡ 1 → ⊥
    alone e = omega (arith, d.from)

    large : (k : ℕ) → h.count ≡ k → (h.count ≡ 0 → suc h.start ≡ 1) → 128 ≤ b + 128 * h.count
    large zero z p = absurd (alone (p z))
    large (suc k) z p = omega arith

    low : (b + 128 * h.count) % 128 ≡ b
    low = omega arith

    high : (b + 128 * h.count) / 128 ≡ h.count
    high = omega arith

pub headed : (f : ℕ) (bs : List ℕ) (h : Head) → AreBytes bs → ungroups (suc f) bs ≡ some h → Headed f bs h
unfolding ungroups
headed f [] h y e = absurd (let z : ◌≡◌ {A = ℕ} 0 1 = cc in omega arith)
headed zero (b ∷ bs) h y e = go (leb 128 b) refl e
  where
    go : (t : Bool) → leb 128 b ≡ t → cond t (some (record { count = b - 128; start = 1 })) none ≡ some h → Headed 0 (b ∷ bs) h
    go true p e = subst (Headed 0 (b ∷ bs)) (cc) (one_byte 0 b bs (leb-true 128 b p) (y 0))
    go false p e = absurd (let z : ◌≡◌ {A = ℕ} 0 1 = cc in omega arith)
headed (suc f) (b ∷ bs) h y e = go (leb 128 b) refl (ungroups (suc f) bs) (λ h' p. headed f bs h' (λ i. y (suc i)) p) e
  where
    go : (t : Bool) → leb 128 b ≡ t → (o : Option Head) → ((h' : Head) → o ≡ some h' → Headed f bs h')
        → cond t (some (record { count = b - 128; start = 1 })) (onto b o) ≡ some h → Headed (suc f) (b ∷ bs) h
    go true p o ih e = subst (Headed (suc f) (b ∷ bs)) (cc) (one_byte (suc f) b bs (leb-true 128 b p) (y 0))
    go false p none ih e = absurd (let z : ◌≡◌ {A = ℕ} 0 1 = cc in omega arith)
    go false p (some h') ih e = subst (Headed (suc f) (b ∷ bs)) (cc) (more_byte f b bs h' (leb-false 128 b p) (ih h' refl))
