-- A dense block's contents, checked from the front: what is left to check, after m mini-blocks that are right, is what the whole check says.
use Rattle.std.proofs.Common.{◌≡◌, ℕ, suc, ◌+◌, ◌-◌, ◌*◌, ◌^◌, ◌<◌, ◌≤◌, Bool, true, false, ◌&&◌, eqb, ltb, List, [], ◌∷◌, ◌++◌, length, sym, refl, ap, ◌∙◌, ap₂, append_assoc, append-nil, add-one, arith, length-append, eq-eqb, ne_eqb, le-leb}
use lib.Count.{ones}
use Rattle.spec.specs.Set.{rising, rank, below}
use Rattle.spec.specs.Reading.{bits, word_at, count_at, dense_places, places_in, counts_ok, is_content}
use Rattle.spec.proofs.Rising.{Rising, rising_length, rising_append}
use Rattle.spec.proofs.Questions.{rank_append, rank_low, rank_all}
use Rattle.spec.proofs.Words.{bits_rising}
use Rattle.spec.proofs.Content.{dense_rising}
use Rattle.mini.specs.Mini.{MiniAt}
use Rattle.mini.specs.declared.DenseMiniBlock.{DenseMiniBlock}
use Rattle.mini.proofs.BitLaws.{length_bits}

-- ---- all below an end

below_append : (n : ℕ) (xs ys : List ℕ) → below n (xs ++ ys) ≡ below n xs && below n ys
unfolding below
below_append n [] ys = refl
below_append n (x ∷ xs) ys = rw (below_append n xs ys) (group (ltb x n) (below n xs) (below n ys))
  where
    group : (a b c : Bool) → a && (b && c) ≡ a && b && c
    group true b c = refl
    group false b c = refl

-- of places that increase, that they end before an end says no more
rising_below : (low hi end : ℕ) (xs : List ℕ) → Rising low hi xs → rising low end xs ≡ below end xs
unfolding rising below
rising_below low hi end [] r = refl
rising_below low hi end (x ∷ xs) r = rw (le-leb low x r.0, rising_below (suc x) hi end xs r.2)

-- ---- one mini-block, and none

places_step : (f m : ℕ) (bs : List ℕ) → dense_places (suc f) m bs ≡ bits 64 (64 * m) (word_at m bs) ++ dense_places f (suc m) bs
unfolding dense_places
places_step f m bs = refl

places_none : (m : ℕ) (bs : List ℕ) → dense_places 0 m bs ≡ []
unfolding dense_places
places_none m bs = refl

counts_step : (f m : ℕ) (ps bs : List ℕ) → counts_ok (suc f) m ps bs ≡ eqb (count_at m bs) (rank (64 * m) ps) && counts_ok f (suc m) ps bs
unfolding counts_ok
counts_step f m ps bs = refl

counts_none : (m : ℕ) (ps bs : List ℕ) → counts_ok 0 m ps bs ≡ true
unfolding counts_ok
counts_none m ps bs = refl

-- ---- after m mini-blocks

-- f mini-blocks from the m-th on are right, and the block has n places
abbrev pub rest : ℕ → ℕ → ℕ → ℕ → List ℕ → Bool
rest f m n end bs = below end (dense_places f m bs) && counts_ok f m (dense_places 1024 0 bs) bs && eqb (length (dense_places 1024 0 bs)) n

-- `front` has the places of the mini-blocks that were right
pub record Checked (bs : List ℕ) (n end seen m : ℕ) : Type 0 where
  pub few : m ≤ 1024
  pub front : List ℕ
  pub whole : front ++ dense_places (1024 - m) m bs ≡ dense_places 1024 0 bs
  pub rises : Rising 0 (64 * m) front
  pub many : length front ≡ seen
  pub left : rest (1024 - m) m n end bs ≡ is_content n end bs

pub none_checked : (bs : List ℕ) (n end : ℕ) → 5120 ≤ n → Checked bs n end 0 0
unfolding is_content places_in
none_checked bs n end h =
    let P = dense_places 1024 0 bs in
    record {
      few = omega arith;
      front = [];
      whole = refl;
      rises = tt;
      many = refl;
      left = rw (le-leb 5120 n h, rising_below 0 65536 end P (dense_rising 1024 0 bs)) (group (below end P) (counts_ok 1024 0 P bs) (eqb (length P) n));
    }
  where
    group : (a b c : Bool) → a && b && c ≡ a && c && b
    group true true true = refl
    group true true false = refl
    group true false true = refl
    group true false false = refl
    group false b c = refl

module _ {bs : List ℕ} {n end seen m : ℕ} (k : Checked bs n end seen m) where
  -- so the sums fit
  pub seen_le : seen ≤ 64 * m
  seen_le = omega (arith, rising_length 0 (64 * m) k.front k.rises, k.many)

  -- all are right
  pub all_checked : 1024 ≤ m → eqb seen n ≡ is_content n end bs
  unfolding below
  all_checked h =
      let z : 1024 - m ≡ 0 = omega arith in
      let all : k.front ++ [] ≡ dense_places 1024 0 bs = rw (z, places_none m bs) at k.whole in
      let long : length (dense_places 1024 0 bs) ≡ seen = ap length (sym all ∙ append-nil k.front) ∙ k.many in
      sym (ap (λ s. eqb s n) long) ∙ sym (rw (z, places_none m bs, counts_none m (dense_places 1024 0 bs) bs)) ∙ k.left

  module _ {x : DenseMiniBlock} (h : m < 1024) (a : MiniAt bs m x) where
    -- its places as they are stored, and those behind it
    abbrev B : List ℕ
    B = bits 64 (64 * m) (word_at m bs)

    abbrev R : List ℕ
    R = dense_places (1024 - (m + 1)) (suc m) bs

    -- one of those that are left
    more : 1024 - m ≡ suc (1024 - (m + 1))
    more = omega arith

    -- the running count that it must have
    seen_is : rank (64 * m) (dense_places 1024 0 bs) ≡ seen
    seen_is =
        let behind = dense_places (1024 - m) m bs in
        ap (rank (64 * m)) (sym k.whole) ∙ rank_append (64 * m) k.front behind
        ∙ omega (
          arith,
          rank_all 0 (64 * m) k.front k.rises (64 * m) (omega arith),
          rank_low (64 * m) (64 * (m + (1024 - m))) behind (dense_rising (1024 - m) m bs) (64 * m) (omega arith),
          k.many,
        )

    -- the running count is right, no place is past the end, and so on for the mini-blocks behind
    opened : eqb x.rank seen && below end (bits 64 (64 * m) x.bitvec) && rest (1024 - (m + 1)) (m + 1) n end bs ≡ is_content n end bs
    opened =
        let f = 1024 - (m + 1) in
        let P = dense_places 1024 0 bs in
        let C = eqb (count_at m bs) (rank (64 * m) P) in
        let E = eqb (length P) n in
        let step : rest (suc f) m n end bs ≡ below end B && below end R && (C && counts_ok f (suc m) P bs) && E =
        rw (places_step f m bs, counts_step f m P bs, below_append end B R) in
        ap₂ (λ c b. c && b && rest f (m + 1) n end bs) (ap₂ eqb a.count (sym seen_is)) (ap (λ w. below end (bits 64 (64 * m) w)) a.word)
        ∙ ap (λ q. C && below end B && rest f q n end bs) (add-one m)
        ∙ sym (group (below end B) (below end R) C (counts_ok f (suc m) P bs) E) ∙ sym step ∙ ap (λ f. rest f m n end bs) (sym more) ∙ k.left
      where
        group : (b r c d e : Bool) → b && r && (c && d) && e ≡ c && b && (r && d && e)
        group true true true d e = refl
        group true true false d e = refl
        group true false true d e = refl
        group true false false d e = refl
        group false r true d e = refl
        group false r false d e = refl

    -- it is not, or a place is past the end, or it is right
    pub wrong_count : (x.rank ≡ seen → ⊥) → false ≡ is_content n end bs
    wrong_count e = rw (ne_eqb x.rank seen e) at opened

    pub wrong_word : x.rank ≡ seen → below end (bits 64 (64 * m) x.bitvec) ≡ false → false ≡ is_content n end bs
    wrong_word e b = rw (eq-eqb x.rank seen e, b) at opened

    pub one_checked : x.bitvec < 2 ^ 64 → x.rank ≡ seen → below end (bits 64 (64 * m) x.bitvec) ≡ true → Checked bs n end (seen + ones x.bitvec) (m + 1)
    one_checked w e b =
        let next : 64 * (m + 1) ≡ 64 * m + 64 = omega arith in
        record {
          few = omega arith;
          front = k.front ++ B;
          whole = append_assoc k.front B (dense_places (1024 - (m + 1)) (m + 1) bs)
              ∙ ap (λ l. k.front ++ l)
              (ap (λ q. B ++ dense_places (1024 - (m + 1)) q bs) (add-one m) ∙ sym (places_step (1024 - (m + 1)) m bs) ∙ ap (λ f. dense_places f m bs) (sym more))
              ∙ k.whole;
          rises = rw next (rising_append 0 (64 * m) (64 * m + 64) k.front B (omega arith) (omega arith) k.rises (bits_rising 64 (64 * m) (word_at m bs)));
          many = length-append k.front B
              ∙ ap₂ (λ c d. c + d) k.many (ap (λ w. length (bits 64 (64 * m) w)) (sym a.word) ∙ length_bits 64 (64 * m) x.bitvec w);
          left = rw (eq-eqb x.rank seen e, b) at opened;
        }
