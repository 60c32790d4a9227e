-- A dense block's part of the file: what its mini-blocks store are the words and the running counts of the places that it holds.
use Rattle.std.proofs.Common.{◌≡◌, ℕ, zero, suc, ◌+◌, ◌-◌, ◌*◌, ◌/◌, ◌%◌, ◌<◌, leb, List, [], ◌++◌, length, sym, refl, ap, ◌∙◌, ap₂, append_assoc, append-nil, add-zero, suc-add, zero-add, arith, length-append, leb-false, leb-true}
use native.Mathlib.Nat.{div-add-mod}
use Rattle.spec.specs.Set.{contains, rank}
use Rattle.spec.specs.Layout.{bytes_of, size, word, mini_block, mini_blocks}
use Rattle.spec.specs.Reading.{number_in, bits, word_at, count_at}
use Rattle.spec.proofs.Tests.{by_test}
use Rattle.spec.proofs.Bytes.{length_bytes, number_bytes, part_at, longer}
use Rattle.spec.proofs.Rising.{Rising, rising_facts}
use Rattle.spec.proofs.Questions.{rank_le_sub}
use Rattle.spec.proofs.Words.{word_lt}
use Rattle.spec.proofs.Content.{length_mini, length_data, data_dense, data_sparse}
use Rattle.words.specs.Part.{Holds, Of}
use Rattle.mini.specs.Mini.{MiniAt}
use Rattle.mini.specs.declared.DenseMiniBlock.{DenseMiniBlock}
use Rattle.dense.proofs.PlaceLaws.{contains_place, rank_place}

-- ---- mini-blocks one after another

-- one more in front
minis_first : (f m : ℕ) (ps : List ℕ) → mini_blocks (suc f) m ps ≡ mini_block m ps ++ mini_blocks f (suc m) ps
unfolding mini_blocks
minis_first f m ps = refl

pub minis_none : (m : ℕ) (ps : List ℕ) → mini_blocks 0 m ps ≡ []
unfolding mini_blocks
minis_none m ps = refl

-- ten bytes each
pub length_minis : (f m : ℕ) (ps : List ℕ) → length (mini_blocks f m ps) ≡ 10 * f
length_minis zero m ps = rw (minis_none m ps)
length_minis (suc f) m ps = rw (minis_first f m ps) (simp (length-append, length_mini, length_minis f (suc m) ps) (omega arith))

-- f of them, and the g behind
pub minis_append : (f g m : ℕ) (ps : List ℕ) → mini_blocks (f + g) m ps ≡ mini_blocks f m ps ++ mini_blocks g (m + f) ps
minis_append zero g m ps = rw (zero-add g, add-zero m, minis_none m ps)
minis_append (suc f) g m ps =
    let s : suc m + f ≡ m + suc f = omega arith in
    rw (suc-add f g, minis_first (f + g) m ps, minis_first f m ps, minis_append f g (suc m) ps, s) (sym (append_assoc (mini_block m ps) _ _))

-- its word and its running count
pub mini_is : (m : ℕ) (ps : List ℕ) → mini_block m ps ≡ bytes_of 8 (word m ps) ++ bytes_of 2 (rank (64 * m) ps)
unfolding mini_block
mini_is m ps = refl

-- one more behind
pub minis_last : (m : ℕ) (ps : List ℕ) → mini_blocks (m + 1) 0 ps ≡ mini_blocks m 0 ps ++ mini_block m ps
minis_last m ps =
    minis_append m 1 0 ps
    ∙ ap (λ l. mini_blocks m 0 ps ++ l)
    (ap (λ k. mini_blocks 1 k ps) (zero-add m) ∙ minis_first 0 m ps ∙ ap (λ l. mini_block m ps ++ l) (minis_none (suc m) ps) ∙ append-nil (mini_block m ps))

-- ---- the mini-blocks that a part stores

module _ (bs ps : List ℕ) (long : length bs ≡ 10240) (h : Holds bs ps) where
  pub rises : Rising 0 size ps
  rises = rising_facts 0 size ps h.rises

  -- so many bytes are a dense block's
  stored : bs ≡ mini_blocks 1024 0 ps
  stored =
      h.bytes
      ∙ by_test (leb 5120 (length ps)) (λ e. (data_dense ps (leb-true 5120 (length ps) e)).0)
      (λ e.
      let few = leb-false 5120 (length ps) e in
      absurd (omega (arith, ap length h.bytes, length_data ps, (data_sparse ps (omega arith)).1)))

  module _ (m : ℕ) (l : m < 1024) where
    -- its two numbers
    W : List ℕ
    W = bytes_of 8 (word m ps)

    C : List ℕ
    C = bytes_of 2 (rank (64 * m) ps)

    -- the mini-blocks behind
    R : List ℕ
    R = mini_blocks (1023 - m) (suc m) ps

    split : bs ≡ mini_blocks m 0 ps ++ (W ++ (C ++ R))
    unfolding W C R
    split =
        let n : 1024 ≡ m + suc (1023 - m) = omega arith in
        stored ∙ ap (λ n. mini_blocks n 0 ps) n ∙ minis_append m (suc (1023 - m)) 0 ps
        ∙ ap (λ l. mini_blocks m 0 ps ++ l)
        (ap (λ k. mini_blocks (suc (1023 - m)) k ps) (zero-add m) ∙ minis_first (1023 - m) m ps
        ∙ ap (λ x. x ++ R) (mini_is m ps) ∙ append_assoc W C R)

    -- what is read of them
    pub stored_word : word_at m bs ≡ word m ps
    unfolding W C
    stored_word =
        ap (word_at m) split
        ∙ ap number_in (part_at (mini_blocks m 0 ps) W (C ++ R) (10 * m) (10 * m + 8) (length_minis m 0 ps) (omega (arith, length_bytes 8 (word m ps))))
        ∙ number_bytes 8 (word m ps) (word_lt 64 (64 * m) ps)

    pub stored_count : count_at m bs ≡ rank (64 * m) ps
    unfolding W C
    stored_count =
        let front = longer (mini_blocks m 0 ps) W (10 * m) (10 * m + 8) (length_minis m 0 ps) (omega (arith, length_bytes 8 (word m ps))) in
        ap (count_at m) (split ∙ sym (append_assoc (mini_blocks m 0 ps) W (C ++ R)))
        ∙ ap number_in (part_at (mini_blocks m 0 ps ++ W) C R (10 * m + 8) (10 * m + 10) front (omega (arith, length_bytes 2 (rank (64 * m) ps))))
        ∙ number_bytes 2 (rank (64 * m) ps) (omega (arith, rank_le_sub 0 size ps rises (64 * m)))

-- ---- the questions of a place, of the word and the running count that its mini-block stores

module _ {bs : List ℕ} (long : length bs ≡ 10240) (p : ℕ) (l : p < 65536) where
  pub contains_stored : {w : ℕ} → w ≡ word_at (p / 64) bs → Of bs (λ ps. contains (p % 64) (bits 64 0 w) ≡ contains p ps)
  contains_stored {w} e ps h =
      ap (λ w. contains (p % 64) (bits 64 0 w)) (e ∙ stored_word bs ps long h (p / 64) (omega arith))
      ∙ sym (contains_place ps (rises bs ps long h) (p / 64) (p % 64) (omega arith)) ∙ ap (λ p. contains p ps) (div-add-mod p 64)

  pub rank_stored : {x : DenseMiniBlock} → MiniAt bs (p / 64) x → Of bs (λ ps. x.rank + rank (p % 64) (bits 64 0 x.bitvec) ≡ rank p ps)
  rank_stored {x} a ps h =
      ap₂ (λ c w. c + rank (p % 64) (bits 64 0 w))
      (a.count ∙ stored_count bs ps long h (p / 64) (omega arith)) (a.word ∙ stored_word bs ps long h (p / 64) (omega arith))
      ∙ sym (rank_place ps (rises bs ps long h) (p / 64) (p % 64) (omega arith)) ∙ ap (λ p. rank p ps) (div-add-mod p 64)
