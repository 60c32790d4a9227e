-- The places of a block and the words of its mini-blocks: each question of a place is one of its word.
use Rattle.std.proofs.Common.{◌≡◌, ℕ, zero, suc, ◌+◌, ◌-◌, ◌*◌, ◌/◌, ◌%◌, ◌^◌, ◌<◌, ◌≤◌, Bool, true, false, eqb, ltb, List, length, sym, refl, ap, ◌∙◌, add-zero, div-one, arith, ltb-false, ltb-true, lt-ltb}
use mathlib.Core.Option.{some, none}
use lib.Count.{ones}
use Rattle.spec.specs.Set.{bit, contains, rank, select, next}
use Rattle.spec.specs.Layout.{size, word_from, word}
use Rattle.spec.specs.Reading.{bits}
use Rattle.spec.proofs.Tests.{by_test}
use Rattle.spec.proofs.Rising.{Rising, rising_between}
use Rattle.spec.proofs.Questions.{contains_member, member_contains, rank_is, rank_le, rank_low, rank_all, rank_select, rank_after, rank_below, rank_above, rank_lt, select_rank, next_select}
use Rattle.spec.proofs.Words.{word_lt, bits_rising}
use Rattle.mini.proofs.BitLaws.{half_pow, contains_bit, length_bits}

-- ---- strictly increasing lists

-- one number on, the rank is one more exactly if that number is a member
rank_suc : (d low end : ℕ) (xs : List ℕ) → Rising low end xs → rank (suc d) xs ≡ rank d xs + bit (contains d xs)
rank_suc d low end xs r =
    by_test (contains d xs)
    (λ e.
    let m = contains_member d xs e in
    rw (e, ← m.2, rank_after low end xs r m.0 m.1, rank_select low end xs r m.0 m.1) (omega arith))
    (λ e.
    rw e
    (rank_is (rank d xs) (suc d) xs (rank_le d xs) (λ k l. omega (arith, rank_below low end xs r d k l))
    (λ k l h. lib.Arith.lt_of_le-ne (rank_above low end xs r d k l h)
    (λ q. mathlib.Core.Bool.true≢false (sym (member_contains k xs h) ∙ ap (λ x. contains x xs) (sym q) ∙ e)))
    ∙ sym (add-zero (rank d xs))))

-- next asks for no more than the rank
next_same : (t u low end : ℕ) (xs : List ℕ) → Rising low end xs → rank t xs ≡ rank u xs → next t xs ≡ next u xs
next_same t u low end xs r e = simp (next_select low end xs r, e)

-- ---- bit n of the word of f places from a on

word_bit : (f a n : ℕ) (ps : List ℕ) → n < f → word_from f a ps / 2 ^ n % 2 ≡ bit (contains (a + n) ps)
unfolding word_from
word_bit zero a n ps h = absurd (omega arith)
word_bit (suc f) a zero ps h = rw (add-zero a, div-one) (low (contains a ps) (word_from f (suc a) ps))
  where
    low : (b : Bool) (w : ℕ) → (bit b + 2 * w) % 2 ≡ bit b
    low true w = omega arith
    low false w = omega arith
word_bit (suc f) a (suc n) ps h =
    let s : a + suc n ≡ suc a + n = omega arith in
    rw (s, ← (half_pow (bit (contains a ps) + 2 * word_from f (suc a) ps) n), half (contains a ps) (word_from f (suc a) ps)) (word_bit f (suc a) n ps (omega arith))
  where
    half : (b : Bool) (w : ℕ) → (bit b + 2 * w) / 2 ≡ w
    half true w = omega arith
    half false w = omega arith

-- ---- mini-block m of the places ps

module _ (ps : List ℕ) (r : Rising 0 size ps) (m : ℕ) where
  -- its places, counted from its own first
  abbrev B : List ℕ
  B = bits 64 0 (word m ps)

  rises : Rising 0 64 B
  rises = bits_rising 64 0 (word m ps)

  -- place n of it
  pub contains_place : (n : ℕ) → n < 64 → contains (64 * m + n) ps ≡ contains n (bits 64 0 (word m ps))
  contains_place n h =
      sym (contains_bit n (word m ps) h ∙ ap (λ b. eqb b 1) (word_bit 64 (64 * m) n ps h) ∙ one (contains (64 * m + n) ps))
    where
      one : (b : Bool) → eqb (bit b) 1 ≡ b
      one true = refl
      one false = refl

  -- the places below place n of it: those of earlier mini-blocks, and its own
  pub rank_place : (n : ℕ) → n ≤ 64 → rank (64 * m + n) ps ≡ rank (64 * m) ps + rank n (bits 64 0 (word m ps))
  rank_place zero h = rw (add-zero (64 * m), rank_low 0 64 B rises 0 (omega arith)) (omega arith)
  rank_place (suc n) h =
      let s : 64 * m + suc n ≡ suc (64 * m + n) = omega arith in
      rw s
      (omega (arith, rank_suc (64 * m + n) 0 size ps r, rank_suc n 0 64 B rises, rank_place n (omega arith), ap bit (contains_place n (omega arith))))

  -- all its places, which are the ones of its word
  pub rank_next : rank (64 * (m + 1)) ps ≡ rank (64 * m) ps + length (bits 64 0 (word m ps))
  rank_next =
      let s : 64 * (m + 1) ≡ 64 * m + 64 = omega arith in
      rw s (rank_place 64 (omega arith) ∙ ap (λ n. rank (64 * m) ps + n) (rank_all 0 64 B rises 64 (omega arith)))

  pub rank_ones : rank (64 * (m + 1)) ps ≡ rank (64 * m) ps + ones (word m ps)
  rank_ones = rank_next ∙ ap (λ n. rank (64 * m) ps + n) (length_bits 64 0 (word m ps) (word_lt 64 (64 * m) ps))

  -- the place with k below it, if it is one of them
  pub select_place : (k : ℕ) → rank (64 * m) ps ≤ k → k < rank (64 * (m + 1)) ps
      → 64 * m + select (k - rank (64 * m) ps) (bits 64 0 (word m ps)) ≡ select k ps
  select_place k l h =
      let j = k - rank (64 * m) ps in
      let inside : j < length B = omega (arith, rank_next) in
      let q = select j B in
      let small : q < 64 = (rising_between j 0 64 B inside rises).1 in
      let there : contains (64 * m + q) ps ≡ true = contains_place q small ∙ member_contains j B inside in
      let below : rank (64 * m + q) ps ≡ k = omega (arith, rank_place q (omega arith), rank_select 0 64 B rises j inside) in
      sym (select_rank 0 size ps r (64 * m + q) there) ∙ ap (λ n. select n ps) below

  -- the first place at or after one of them
  pub next_found : (n a : ℕ) → n ≤ 64 → next n (bits 64 0 (word m ps)) ≡ some a → next (64 * m + n) ps ≡ some (64 * m + a)
  next_found n a h e =
      by_test (ltb (rank n B) (length B))
      (λ q.
      let inside = ltb-true (rank n B) (length B) q in
      let is : a ≡ select (rank n B) B = cc (next_select 0 64 B rises n) in
      let small : a < 64 = rw is (rising_between (rank n B) 0 64 B inside rises).1 in
      let there : contains (64 * m + a) ps ≡ true = contains_place a small ∙ ap (λ x. contains x B) is ∙ member_contains (rank n B) B inside in
      let below : rank a B ≡ rank n B = ap (λ x. rank x B) is ∙ rank_select 0 64 B rises (rank n B) inside in
      next_same (64 * m + n) (64 * m + a) 0 size ps r (omega (arith, rank_place n h, rank_place a (omega arith)))
      ∙ next_select 0 size ps r (64 * m + a)
      ∙ rw (lt-ltb _ _ (rank_lt 0 size ps r (64 * m + a) there), select_rank 0 size ps r (64 * m + a) there))
      (λ q. let z : ◌≡◌ {A = ℕ} 0 1 = cc (next_select 0 64 B rises n) in absurd (omega arith))

  -- if there is none, the first of the mini-blocks behind
  pub next_none : (n : ℕ) → n ≤ 64 → next n (bits 64 0 (word m ps)) ≡ none → next (64 * m + n) ps ≡ next (64 * (m + 1)) ps
  next_none n h e =
      by_test (ltb (rank n B) (length B)) (λ q. let z : ◌≡◌ {A = ℕ} 0 1 = cc (next_select 0 64 B rises n) in absurd (omega arith))
      (λ q.
      next_same (64 * m + n) (64 * (m + 1)) 0 size ps r
      (omega (arith, rank_place n h, rank_next, rank_le n B, ltb-false (rank n B) (length B) q)))
