-- The turns of a page of a block: what is filled, with the places left of a word and those of the mini-blocks behind it, are the block's
-- rows from an index on.
use Rattle.std.proofs.Common.{◌≡◌, add-zero, ℕ, zero, suc, ◌+◌, ◌-◌, ◌*◌, ◌%◌, ◌^◌, ◌<◌, ◌≤◌, List, [], ◌∷◌, ◌++◌, map, length, take, drop, set, sym, refl, ap, ◌∙◌, ap₂, ⊎_elim, lt_of_le_of_lt, eq-zero-or-pos, zero-add, arith, length-append, length-drop, length-set, length-take, take_all}
use lib.ListN.{length-map}
use lib.Seq.{drop-append-le, drop-append-add}
use lib.Bits.{bit_and, and_le_l}
use lib.Count.{count_trailing_zeros}
use Rattle.std.proofs.lemmas.List.{drop-map}
use Rattle.spec.specs.Set.{rank}
use Rattle.spec.specs.Layout.{size, word_from, word}
use Rattle.spec.specs.Reading.{bits, word_at}
use Rattle.spec.proofs.Rising.{Rising}
use Rattle.spec.proofs.Questions.{rank_append, rank_low, rank_all}
use Rattle.spec.proofs.Words.{members, bits_word, members_append, members_all, bits_rising}
use Rattle.words.specs.Part.{Of, Paged}
use Rattle.words.proofs.RowLaws.{rows_from}
use Rattle.words.proofs.FrontLaws.{front_more, front_end}
use Rattle.mini.specs.declared.DenseMiniBlock.{DenseMiniBlock}
use Rattle.mini.specs.Mini.{MiniAt}
use Rattle.mini.proofs.LowestLaws.{bits_zero, lowest_first}
use Rattle.std.specs.Prelude.{Some, None}
use Rattle.dense.specs.Mini.{LastMini, Empty, FirstFull}
use Rattle.dense.proofs.DenseLaws.{rises, stored_word, stored_count}

-- ---- the places of a block, by mini-blocks

-- those of f mini-blocks from the m-th on
abbrev minis : ℕ → ℕ → List ℕ → List ℕ
minis f m ps = members (64 * f) (64 * m) ps

-- a mini-block, and the f behind it
minis_first : (f m : ℕ) (ps : List ℕ) → minis (f + 1) m ps ≡ bits 64 (64 * m) (word m ps) ++ minis f (m + 1) ps
minis_first f m ps =
    let n : 64 * (f + 1) ≡ 64 + 64 * f = omega arith in
    let a : 64 * m + 64 ≡ 64 * (m + 1) = omega arith in
    ap (λ n. members n (64 * m) ps) n ∙ members_append 64 (64 * f) (64 * m) ps
    ∙ ap₂ (λ x k. x ++ members (64 * f) k ps) (sym (bits_word 64 (64 * m) ps)) a

minis_rise : (f m : ℕ) (ps : List ℕ) → Rising (64 * m) (64 * m + 64 * f) (minis f m ps)
minis_rise f m ps = rw (← (bits_word (64 * f) (64 * m) ps)) (bits_rising (64 * f) (64 * m) (word_from (64 * f) (64 * m) ps))

-- those of the first m mini-blocks, as many as the running count says, and the others
minis_cut : (m : ℕ) (ps : List ℕ) → Rising 0 size ps → m ≤ 1024
    → (ps ≡ minis m 0 ps ++ minis (1024 - m) m ps) × (length (minis m 0 ps) ≡ rank (64 * m) ps)
minis_cut m ps r h =
    let n : 65536 ≡ 64 * m + 64 * (1024 - m) = omega arith in
    let cut : ps ≡ minis m 0 ps ++ minis (1024 - m) m ps =
    sym (members_all 65536 0 size ps r (omega arith)) ∙ ap (λ n. members n 0 ps) n ∙ members_append (64 * m) (64 * (1024 - m)) 0 ps
    ∙ ap (λ a. minis m 0 ps ++ members (64 * (1024 - m)) a ps) (zero-add (64 * m)) in (
      cut,
      sym (ap (rank (64 * m)) cut ∙ rank_append (64 * m) (minis m 0 ps) (minis (1024 - m) m ps)
          ∙ omega (
            arith,
            rank_all 0 (64 * 0 + 64 * m) (minis m 0 ps) (minis_rise m 0 ps) (64 * m) (omega arith),
            rank_low (64 * m) (64 * m + 64 * (1024 - m)) (minis (1024 - m) m ps) (minis_rise (1024 - m) m ps) (64 * m) (omega arith),
          )),
    )

-- ---- what is left: places of a word of mini-block m, and those of the mini-blocks behind it

abbrev left : ℕ → ℕ → List ℕ → List ℕ
left m w ps = bits 64 (64 * m) w ++ minis (1023 - m) (m + 1) ps

-- the last mini-block whose running count is at or below k, without as many of its places as are still below k
left_first : (m k n w : ℕ) (ps : List ℕ) → Rising 0 size ps → m < 1024 → k ≡ rank (64 * m) ps + n → k < rank (64 * (m + 1)) ps
    → bits 64 (64 * m) w ≡ drop n (bits 64 (64 * m) (word m ps)) → drop k ps ≡ left m w ps
left_first m k n w ps r h e l q =
    let c = minis_cut m ps r (omega arith) in
    let A = minis m 0 ps in
    let B = bits 64 (64 * m) (word m ps) in
    let R = minis (1023 - m) (m + 1) ps in
    let f : 1024 - m ≡ 1023 - m + 1 = omega arith in
    let g : 1024 - (m + 1) ≡ 1023 - m = omega arith in
    let d = minis_cut (m + 1) ps r (omega arith) in
    let rest : minis (1024 - m) m ps ≡ B ++ R = ap (λ f. minis f m ps) f ∙ minis_first (1023 - m) m ps in
    let all : ps ≡ A ++ (B ++ R) = c.0 ∙ ap (λ l. A ++ l) rest in
    let few : n ≤ length B =
    omega (
      arith,
      c.1,
      d.1,
      ap length all,
      length-append A (B ++ R),
      length-append B R,
      ap length d.0,
      length-append (minis (m + 1) 0 ps) (minis (1024 - (m + 1)) (m + 1) ps),
      ap (λ f. length (minis f (m + 1) ps)) g,
    ) in
    ap₂ drop (e ∙ ap (λ a. a + n) (sym c.1)) all ∙ drop-append-add A (B ++ R) n ∙ drop-append-le n B R few ∙ ap (λ l. l ++ R) (sym q)

-- a word that has no place left
left_next : (m w : ℕ) (ps : List ℕ) → m < 1023 → w ≡ 0 → left m w ps ≡ left (m + 1) (word (m + 1) ps) ps
left_next m w ps h e =
    let f : 1023 - m ≡ 1023 - (m + 1) + 1 = omega arith in
    ap (λ l. l ++ minis (1023 - m) (m + 1) ps) (ap (bits 64 (64 * m)) e ∙ bits_zero 64 (64 * m))
    ∙ ap (λ f. minis f (m + 1) ps) f ∙ minis_first (1023 - (m + 1)) (m + 1) ps

left_none : (m w : ℕ) (ps : List ℕ) → m ≡ 1023 → w ≡ 0 → left m w ps ≡ []
unfolding members
left_none m w ps h e =
    let f : 64 * (1023 - m) ≡ 0 = omega arith in
    ap₂ (λ l n. l ++ members n (64 * (m + 1)) ps) (ap (bits 64 (64 * m)) e ∙ bits_zero 64 (64 * m)) f

left_some : (m w : ℕ) (ps : List ℕ) → w < 2 ^ 64 → 0 < w → left m w ps ≡ (64 * m + count_trailing_zeros 64 w) ∷ left m (bit_and w (w - 1)) ps
left_some m w ps h l = ap (λ b. b ++ minis (1023 - m) (m + 1) ps) (lowest_first 64 (64 * m) w h l)

-- ---- the page

-- j rows are filled, and what is left of the block begins in the word w of mini-block m
pub record Listing (bs : List ℕ) (base from : ℕ) (out₀ out : List ℕ) (m w j : ℕ) : Type 0 where
  pub within : m < 1024
  pub word : w < 2 ^ 64
  pub long : length out ≡ length out₀
  pub filled : Of bs (λ ps. from < length ps → take j out ++ rows_from base (left m w ps) ≡ drop from (rows_from base ps))

pub list_first : {bs : List ℕ} {base from m n w : ℕ} {x : DenseMiniBlock} (out : List ℕ) → length bs ≡ 10240 → LastMini bs from m → MiniAt bs m x
    → (n + x.rank) % 2 ^ 32 ≡ from → n < 2 ^ 32 → ((p : ℕ) → bits 64 p w ≡ drop n (bits 64 p x.bitvec))
    → w < 2 ^ 64 → Listing bs base from out out m w 0
list_first {bs} {base} {from} {m} {n} {w} {x} out long last a e h q u =
    record {
      within = last.0;
      word = u;
      long = refl;
      filled = λ ps d l.
          let r = rises bs ps long d in
          let count = stored_count bs ps long d m last.0 in
          let is : from ≡ rank (64 * m) ps + n = omega (arith, count, a.count, (last.1 ps d).0) in
          let cleared : bits 64 (64 * m) w ≡ drop n (bits 64 (64 * m) (word m ps)) =
          q (64 * m) ∙ ap (λ w. drop n (bits 64 (64 * m) w)) (a.word ∙ stored_word bs ps long d m last.0) in
          ap (map (λ p. base + p)) (sym (left_first m from n w ps r last.0 is ((last.1 ps d).1 l) cleared)) ∙ sym (drop-map (λ p. base + p) from ps);
    }

module _ {bs : List ℕ} {base from : ℕ} {out₀ out : List ℕ} {m w j : ℕ} (long : length bs ≡ 10240) (l : Listing bs base from out₀ out m w j) where
  pub list_next : {v : ℕ} → w ≡ 0 → m < 1023 → v ≡ word_at (m + 1) bs → v < 2 ^ 64 → Listing bs base from out₀ out (m + 1) v j
  list_next {v} e h q u =
      record {
        within = omega arith;
        word = u;
        long = l.long;
        filled = λ ps d k.
            let is : left m w ps ≡ left (m + 1) v ps =
            left_next m w ps h e ∙ ap (λ w. left (m + 1) w ps) (sym (q ∙ stored_word bs ps long d (m + 1) (omega arith))) in
            ap (λ r. take j out ++ rows_from base r) (sym is) ∙ l.filled ps d k;
      }

  pub list_more : {x : ℕ} → 0 < w → j < length out₀ → x ≡ base + 64 * m + count_trailing_zeros 64 w
      → Listing bs base from out₀ (set out j x) m (bit_and w (w - 1)) (j + 1)
  list_more {x} p k e =
      let row : x ≡ base + (64 * m + count_trailing_zeros 64 w) = omega arith in
      record {
        within = l.within;
        word = lt_of_le_of_lt (and_le_l w (w - 1)) l.word;
        long = length-set out j x ∙ l.long;
        filled = λ ps d k'.
            front_more out (drop from (rows_from base ps)) j x (rows_from base (left m (bit_and w (w - 1)) ps)) (omega (arith, l.long))
            (rw row (ap (λ r. take j out ++ rows_from base r) (sym (left_some m w ps l.word p)) ∙ l.filled ps d k'));
      }

  -- with a list that is no longer than what the block has, no mini-block is missing
  pub list_short : w ≡ 0 → m ≡ 1023 → j < length out₀ → Paged bs base from out₀ out
  list_short e h k =
      record {
        long = l.long;
        exact = λ ps d room.
            let f = l.filled ps d (omega arith) in
            absurd (omega (
              arith,
              ap length f,
              length-append (take j out) (rows_from base (left m w ps)),
              length-take j out,
              l.long,
              ap (λ r. length (rows_from base r)) (left_none m w ps h e),
              length-drop from (rows_from base ps),
              length-map ps (λ p. base + p),
            ));
      }

  pub list_end : length out₀ ≤ j → Paged bs base from out₀ out
  list_end h =
      record {
        long = l.long;
        exact = λ ps d room.
            let rows = drop from (rows_from base ps) in
            ⊎_elim (λ z. sym (take_all 0 out (omega (arith, l.long))) ∙ ap (λ n. take n rows) (sym z))
            (λ some.
            front_end out rows j (rows_from base (left m w ps)) (omega (arith, l.long)) (l.filled ps d (omega arith))
            ∙ ap (λ n. take n rows) l.long) (eq-zero-or-pos (length out₀));
      }

-- ---- mini-blocks without rows

module _ {bs : List ℕ} {base from : ℕ} {out₀ out : List ℕ} {m w j : ℕ} (long : length bs ≡ 10240) (l : Listing bs base from out₀ out m w j)
    (none : w ≡ 0) where
  -- d of them
  list_empty : (d : ℕ) → m + d < 1024 → Empty bs (m + 1) (m + d + 1) → Listing bs base from out₀ out (m + d) 0 j
  list_empty zero h e = rw (add-zero m) (rw none at l)
  list_empty (suc d) h e =
      let next : m + d + 1 ≡ m + suc d = omega arith in
      rw (← next)
      (list_next long (list_empty d (omega arith) (λ i f t. e i f (omega arith))) refl (omega arith) (sym (e (m + d + 1) (omega arith) (omega arith)))
      (omega arith))

  -- up to one that has rows
  pub list_full : {n v : ℕ} → FirstFull bs (m + 1) (Some (n, v)) → Listing bs base from out₀ out n v j
  list_full {n} {v} h =
      let d = n - 1 - m in
      let next : m + d + 1 ≡ n = omega (arith, h.0) in
      rw (← next)
      (list_next long (list_empty d (omega (arith, h.0, h.1)) (λ i f t. h.2 i f (omega arith))) refl (omega (arith, h.0, h.1))
      (rw next h.3) h.5)

  -- and to the last one
  pub list_none : FirstFull bs (m + 1) None → j < length out₀ → Paged bs base from out₀ out
  list_none h k =
      let d = 1023 - m in
      list_short long (list_empty d (omega (arith, l.within)) (λ i f t. h i f (omega (arith, l.within)))) refl (omega (arith, l.within)) k
