-- The mini-block of the place with k places below it: it is the last whose running count is at or below k.
use Rattle.std.proofs.Common.{◌≡◌, ℕ, zero, suc, true, false, leb, [], get_or, leb-true, leb-false, ◌+◌, ◌-◌, ◌*◌, ◌/◌, ◌%◌, ◌^◌, ◌<◌, ◌≤◌, ltb, List, length, sym, ap, ◌∙◌, ap₂, arith, ltb-false, ltb-true}
use Rattle.std.specs.Simd.{first_chunks}
use Rattle.std.specs.List.Sorted.{IsNonDecreasingBy, IsPartitionPoint}
use Rattle.std.proofs.lemmas.List.Sorted.{IsNonDecreasingBy-from_default}
use lib.Count.{ones}
use Rattle.spec.specs.Set.{rank, select}
use Rattle.spec.specs.Layout.{size, word}
use Rattle.spec.specs.Reading.{number_in, part, bits, count_at}
use Rattle.spec.proofs.Tests.{by_test}
use Rattle.spec.proofs.Questions.{rank_low, rank_all, rank_mono, select_past}
use Rattle.spec.proofs.Rising.{rising_between}
use Rattle.spec.proofs.Words.{bits_rising}
use Rattle.words.specs.Part.{Holds, Of}
use Rattle.mini.proofs.BitLaws.{length_bits}
use Rattle.mini.proofs.MiniLaws.{mini_chunk, mini_at}
use Rattle.mini.specs.Mini.{MiniAt, mini_in}
use Rattle.dense.specs.Mini.{LastMini}
use Rattle.mini.specs.declared.DenseMiniBlock.{DenseMiniBlock}
use Rattle.dense.proofs.PlaceLaws.{rank_ones, select_place}
use Rattle.dense.proofs.DenseLaws.{rises, stored_word, stored_count}

-- the running count as it is read, two bytes behind the word
abbrev pub count_read : ℕ → List ℕ → ℕ
count_read m bs = number_in (part (10 * m + 8) (10 * m + 8 + 2) bs)

-- which is where it stands
count_is_read : (m : ℕ) (bs : List ℕ) → count_read m bs ≡ count_at m bs
count_is_read m bs = let e : 10 * m + 8 + 2 ≡ 10 * m + 10 = omega arith in rw e

-- ---- the search: running counts, as chunks of ten bytes have them, never fall

-- a chunk's running count
abbrev pub count_of : List ℕ → ℕ
count_of ten = count_read 0 ten

-- those at or below k are the first n
abbrev pub Below : List (List ℕ) → ℕ → ℕ → Type 0
Below tens k n = IsPartitionPoint (λ ten. leb (count_of ten) k ≡ true) (λ ten. leb (count_of ten) k ≡ false) tens n

module _ {bs : List ℕ} {tens : List (List ℕ)} (long : length bs ≡ 10240) (cut : tens ≡ first_chunks 10 (length bs / 10) bs)
    (many : length tens ≡ length bs / 10) where
  module _ {ps : List ℕ} (h : Holds bs ps) where
    chunk_count : (m : ℕ) → m < 1024 → count_of (get_or tens m []) ≡ rank (64 * m) ps
    chunk_count m l =
        let ten = get_or tens m [] in
        let is = ap (λ l. get_or l m []) cut ∙ mini_chunk bs m long l in
        count_is_read 0 ten ∙ (mini_at bs m (mini_in ten) (ap mini_in is)).count ∙ stored_count bs ps long h m l

    pub counts_rise : IsNonDecreasingBy count_of tens
    counts_rise =
        IsNonDecreasingBy-from_default count_of tens []
        (λ i j u l.
        omega (arith, many, chunk_count i (omega (arith, many)), chunk_count j (omega (arith, many)), rank_mono (64 * i) (64 * j) ps (omega arith)))

    -- the first is: no place is before it
    some_below : (k n : ℕ) → Below tens k n → 0 < n
    some_below k zero b =
        absurd (omega (
          arith,
          leb-false (count_of (get_or tens 0 [])) k (b.1 0 [] (omega arith) (omega (arith, many))),
          chunk_count 0 (omega arith),
          rank_low 0 size ps (rises bs ps long h) 0 (omega arith),
        ))
    some_below k (suc n) b = omega arith

    last_below : (k n : ℕ) → 0 < n → n ≤ 1024 → Below tens k n → rank (64 * (n - 1)) ps ≤ k
    last_below k n l u b =
        omega (arith, leb-true (count_of (get_or tens (n - 1) [])) k (b.0 (n - 1) [] (omega arith) (omega arith)), chunk_count (n - 1) (omega arith))

    first_above : (k n : ℕ) → n ≤ 1024 → Below tens k n → k < length ps → k < rank (64 * n) ps
    first_above k n u b l =
        by_test (ltb n 1024)
        (λ e.
        let i = ltb-true n 1024 e in
        omega (arith, leb-false (count_of (get_or tens n [])) k (b.1 n [] (omega arith) (omega (arith, many))), chunk_count n i))
        (λ e. omega (arith, ltb-false n 1024 e, rank_all 0 size ps (rises bs ps long h) (64 * n) (omega (arith, ltb-false n 1024 e))))

  -- the last of them
  pub last_mini : (k n : ℕ) → n ≤ 1024 → Of bs (λ ps. Below tens k n) → LastMini bs k (n - 1)
  last_mini k n u b = (
    omega arith,
    λ ps h.
        let some = some_below h k n (b ps h) in
        let same : n - 1 + 1 ≡ n = omega arith in
        (last_below h k n some u (b ps h), rw same (first_above h k n u (b ps h))),
  )

-- ---- what it stores leads to the place

-- a place of a word is below 64
pub select_lt : {w left : ℕ} → w < 2 ^ 64 → left < ones w → select left (bits 64 0 w) < 64
select_lt {w} {left} h few = (rising_between left 0 64 (bits 64 0 w) (omega (arith, few, length_bits 64 0 w h)) (bits_rising 64 0 w)).1

module _ {bs ps : List ℕ} {k m left : ℕ} {x : DenseMiniBlock} (long : length bs ≡ 10240) (last : LastMini bs k m) (a : MiniAt bs m x)
    (w : (left + x.rank) % 2 ^ 32 ≡ k) (small : left < 2 ^ 32) (h : Holds bs ps) where
  count : x.rank ≡ rank (64 * m) ps
  count = a.count ∙ stored_count bs ps long h m last.0

  the_word : x.bitvec ≡ word m ps
  the_word = a.word ∙ stored_word bs ps long h m last.0

  -- k is not below the running count, so that what is left of k has not wrapped
  left_is : k ≡ rank (64 * m) ps + left
  left_is = omega (arith, count, (last.1 ps h).0, w)

  bits_of : rank (64 * (m + 1)) ps ≡ rank (64 * m) ps + ones x.bitvec
  bits_of = omega (arith, rank_ones ps (rises bs ps long h) m, ap ones the_word)

  -- the place is one of the mini-block's bits, or there is none
  pub selected : left < ones x.bitvec → 64 * m + select left (bits 64 0 x.bitvec) ≡ select k ps
  selected l =
      let e : left ≡ k - rank (64 * m) ps = omega (arith, left_is) in
      ap₂ (λ j w. 64 * m + select j (bits 64 0 w)) e the_word
      ∙ select_place ps (rises bs ps long h) m k (last.1 ps h).0 (omega (arith, left_is, bits_of, l))

  pub selects_none : ones x.bitvec ≤ left → 0 ≡ select k ps
  selects_none l =
      let past : k < length ps → ⊥ = λ m. omega (arith, left_is, bits_of, l, (last.1 ps h).1 m) in
      sym (select_past k ps (by_test (ltb k (length ps)) (λ e. absurd (past (ltb-true k (length ps) e))) (ltb-false k (length ps))))
