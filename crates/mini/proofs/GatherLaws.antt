-- The rows of one mini-block, gathered into its word.
use Prim.Native.Nat.{ℕ, zero, suc, ◌+◌, ◌-◌, ◌*◌, ◌/◌, ◌%◌, ◌^◌, ◌≤◌, ◌<◌}
use mathlib.Core.Path.{◌≡◌, refl, sym, ap, ◌∙◌, subst}
use mathlib.Core.Bool.{false, cond}
use mathlib.Core.List.{List, [], ◌∷◌}
use native.Mathlib.Nat.{zero-add, div-eq_of_lt, lt_of_lt_of_le, pow-suc}
use native.Mathlib.Numerals.{add-one}
use native.Mathlib.Omega.{arith}
use lib.ListN.{length, get_or, take, drop, length-map, length-take, length-drop, get_or-map}
use lib.Seq.{length-take-le, drop-cons, drop-nil, get_or-take, get_or-drop}
use lib.Dec.{ltb, eqb}
use lib.Pow.{pow_pos, pow_mono}
use borrow.Author.Tests.{ltb-true, ltb-false}
use Rattle.spec.specs.Set.{contains, rank, select}
use Rattle.spec.specs.Layout.{size, word_from, word}
use Rattle.spec.specs.Reading.{bits}
use Rattle.spec.proofs.Tests.{by_test}
use Rattle.spec.proofs.Rising.{Rising, rising_apart, rising_drop}
use Rattle.spec.proofs.Questions.{rank_le, rank_mono, rank_low, rank_select, rank_after, rank_above}
use Rattle.spec.proofs.Words.{word_here, word_elsewhere}
use Rattle.mini.specs.Mini.{places, Gathers}
use Rattle.mini.proofs.BitLaws.{contains_bit}

-- ---- the word of mini-block m, without the places of others

-- no places
word_nil : (f a : ℕ) → word_from f a [] ≡ 0
unfolding word_from contains
word_nil zero a = refl
word_nil (suc f) a = rw (word_nil f (suc a))

-- the places before its own may go
word_from_place : (m low end : ℕ) (ps : List ℕ) → Rising low end ps → word m (drop (rank (64 * m) ps) ps) ≡ word m ps
unfolding rank
word_from_place m low end [] r = refl
word_from_place m low end (p ∷ ps) r =
    by_test (ltb p (64 * m))
    (λ e.
    let one : 1 + rank (64 * m) ps ≡ suc (rank (64 * m) ps) = omega arith in
    let l = ltb-true p (64 * m) e in
    rw (e, one) (word_from_place m (suc p) end ps r.2 ∙ sym (word_elsewhere m p ps (λ q. omega arith))))
    (λ e.
    let z : rank (64 * m) ps ≡ 0 = rank_low (suc p) end ps r.2 (64 * m) (omega (arith, ltb-false p (64 * m) e)) in
    rw (e, z))

-- the places past its own make no bit
word_past : (m low end i : ℕ) (ps : List ℕ) → Rising low end ps → rank (64 * (m + 1)) ps ≤ i → word m (drop i ps) ≡ 0
unfolding rank
word_past m low end i [] r h = rw (drop-nil i) (word_nil 64 (64 * m))
word_past m low end zero (p ∷ ps) r h =
    by_test (ltb p (64 * (m + 1))) (λ e. absurd (omega (arith, rw e at h)))
    (λ e.
    let l = ltb-false p (64 * (m + 1)) e in
    word_elsewhere m p ps (λ q. omega arith) ∙ word_past m (suc p) end 0 ps r.2 (omega (arith, rank_low (suc p) end ps r.2 (64 * (m + 1)) (omega arith))))
word_past m low end (suc i) (p ∷ ps) r h =
    by_test (ltb p (64 * (m + 1))) (λ e. word_past m (suc p) end i ps r.2 (omega (arith, rw e at h)))
    (λ e. word_past m (suc p) end i ps r.2
    (omega (arith, rank_low (suc p) end ps r.2 (64 * (m + 1)) (omega (arith, ltb-false p (64 * (m + 1)) e)))))

-- ---- rows

-- the rows with places before one
pub rank_within : (d : ℕ) (rows : List ℕ) → rank d (places rows) ≤ length rows
rank_within d rows = omega (arith, rank_le d (places rows), length-map rows (λ r. r % size))

-- those from an index on
pub rest_length : (from : ℕ) (rows : List ℕ) → from ≤ length rows → from + length (take (length rows - from) (drop from rows)) ≡ length rows
rest_length from rows h = omega (arith, length-take-le (length rows - from) (drop from rows) (omega (arith, length-drop from rows)))

-- the place of row i of them
pub rest_place : (from i : ℕ) (rows : List ℕ) → i < length (take (length rows - from) (drop from rows))
    → (from + i < length (places rows)) × (get_or (take (length rows - from) (drop from rows)) i 0 % size ≡ select (from + i) (places rows))
rest_place from i rows h =
    let n : i < length rows - from = omega (arith, length-take (length rows - from) (drop from rows)) in
    let e = get_or-take (length rows - from) (drop from rows) i 0 n ∙ get_or-drop from rows i 0 in
    (omega (arith, length-map rows (λ r. r % size)), ap (λ r. r % size) e ∙ sym (get_or-map (λ r. r % size) rows (from + i) 0))

-- ---- gathering: w has the places of mini-block m before index i, and so no bit at or above the place at i

pub record Gathering (ps : List ℕ) (m w i : ℕ) : Type 0 where
  pub from : rank (64 * m) ps ≤ i
  pub upto : i ≤ rank (64 * (m + 1)) ps
  pub sum : w + word m (drop i ps) ≡ word m ps
  pub small : i < length ps → w < 2 ^ (select i ps - 64 * m)

pub none_gathered : (m : ℕ) (ps : List ℕ) → Rising 0 size ps → Gathering ps m 0 (rank (64 * m) ps)
none_gathered m ps r =
    record {
      from = omega arith;
      upto = rank_mono (64 * m) (64 * (m + 1)) ps (omega arith);
      sum = zero-add (word m (drop (rank (64 * m) ps) ps)) ∙ word_from_place m 0 size ps r;
      small = λ l. pow_pos (select (rank (64 * m) ps) ps - 64 * m);
    }

module _ {ps : List ℕ} {m w i : ℕ} (r : Rising 0 size ps) (g : Gathering ps m w i) where
  -- no row is left, or the next is one of a later mini-block
  pub all_gathered : (i < length ps → 64 * (m + 1) ≤ select i ps) → Gathers ps m (record { word = w; next = i })
  all_gathered past =
      let enough : rank (64 * (m + 1)) ps ≤ i =
      by_test (ltb i (length ps))
      (λ e.
      let l = ltb-true i (length ps) e in
      omega (arith, rank_mono (64 * (m + 1)) (select i ps) ps (past l), rank_select 0 size ps r i l))
      (λ e. omega (arith, rank_le (64 * (m + 1)) ps, ltb-false i (length ps) e)) in
      record { made = omega (arith, g.sum, word_past m 0 size i ps r enough); up_to = omega (arith, g.upto) }

  -- a place that is not one of mini-block m is one of a later
  pub later_mini : i < length ps → (p : ℕ) → p ≡ select i ps → (p / 64 ≡ m → ⊥) → 64 * (m + 1) ≤ select i ps
  later_mini h p q n =
      let l = rank_above 0 size ps r (64 * m) i g.from h in
      omega (arith, lib.Arith.lt_of_le-ne {i = m} {k = p / 64} (omega arith) (λ z. n (sym z)))

  -- the next is one of mini-block m: it is above those before it, so its bit is not set yet
  pub one_gathered : i < length ps → (p : ℕ) → p ≡ select i ps → p / 64 ≡ m
      → Gathering ps m (cond (contains (p % 64) (bits 64 0 w)) w (w + 2 ^ (p % 64))) (i + 1)
  one_gathered h p q e =
      let n : select i ps - 64 * m ≡ p % 64 = omega arith in
      let less : w < 2 ^ (p % 64) = rw n at (g.small h) in
      let new : contains (p % 64) (bits 64 0 w) ≡ false =
      contains_bit (p % 64) w (omega arith) ∙ ap (λ q. eqb (q % 2) 1) (div-eq_of_lt less) in
      let split : drop i ps ≡ p ∷ drop (i + 1) ps = rw (add-one i) (drop-cons ps i 0 h) ∙ ap (λ x. x ∷ drop (i + 1) ps) (sym q) in
      let from-here : Rising 0 size (p ∷ drop (i + 1) ps) = subst (λ l. Rising 0 size l) split (rising_drop i 0 size ps r) in
      rw new
      (record {
        from = omega (arith, g.from);
        upto = omega (arith, rank_after 0 size ps r i h, rank_mono (suc (select i ps)) (64 * (m + 1)) ps (omega arith));
        sum = omega (arith, g.sum, ap (word m) split ∙ word_here m p 0 size (drop (i + 1) ps) e from-here);
        small = λ l. lt_of_lt_of_le {m = 2 ^ suc (p % 64)} (omega (arith, pow-suc 2 (p % 64)))
            (pow_mono {i = suc (p % 64)} {j = select (i + 1) ps - 64 * m} (omega (arith, rising_apart i (i + 1) 0 size ps (omega arith) l r)));
      })
