-- Batch lookup over an opened file: what a block says of rows of its own, the set says.
use Rattle.std.proofs.Common.{◌≡◌, ℕ, suc, ◌+◌, ◌-◌, ◌*◌, ◌/◌, ◌%◌, ◌^◌, ◌<◌, false, List, [], ◌∷◌, ◌++◌, map, length, get_or, drop, sym, refl, ap, ◌∙◌, ap₂, arith}
use Rattle.spec.specs.declared.Record.{Record}
use Rattle.spec.specs.Set.{keep, contains, rank, hits, ranks}
use Rattle.spec.specs.Layout.{size, Block, rows_of}
use Rattle.spec.specs.Reading.{count_of_blocks, AreBytes, Head, rows_before, Given}
use Rattle.spec.specs.Answers.{broken}
use Rattle.spec.proofs.Tests.{by_test}
use Rattle.spec.proofs.Rising.{rising_length}
use Rattle.spec.proofs.Questions.{rank_le}
use Rattle.spec.proofs.Asking.{unbroken}
use Rattle.spec.proofs.Cut.{places_of}
use Rattle.spec.proofs.Splits.{rank_split, contains_split}
use Rattle.spec.proofs.Directory.{given_well, given_rise, word_rows}
use Rattle.words.specs.Part.{InBlock, Batched}
use Rattle.words.proofs.RowLaws.{rows_from, row_contains, row_rank}
use Rattle.directory.specs.Parts.{part_of}
use Rattle.directory.proofs.PartLaws.{part_holds}
use Rattle.batches.specs.Batches.{Hits}

-- ---- hits

-- two sets that say the same of each question
hits_same : (xs ys qs : List ℕ) → ((j : ℕ) → j < length qs → contains (get_or qs j 0) xs ≡ contains (get_or qs j 0) ys) → hits xs qs ≡ hits ys qs
unfolding hits
hits_same xs ys [] f = refl
hits_same xs ys (q ∷ qs) f = ap₂ (λ t l. keep t q l) (f 0 (omega arith)) (hits_same xs ys qs (λ j l. f (suc j) (omega arith)))

-- none of the questions is a member
pub hits_none : (xs qs : List ℕ) → ((j : ℕ) → j < length qs → contains (get_or qs j 0) xs ≡ false) → hits xs qs ≡ []
unfolding hits
hits_none xs [] f = refl
hits_none xs (q ∷ qs) f = ap₂ (λ t l. keep t q l) (f 0 (omega arith)) (hits_none xs qs (λ j l. f (suc j) (omega arith)))

-- what is said of every question is said of the hits
map_hits : (f g : ℕ → ℕ) (xs qs : List ℕ) → ((j : ℕ) → j < length qs → f (get_or qs j 0) ≡ g (get_or qs j 0)) → map f (hits xs qs) ≡ map g (hits xs qs)
unfolding hits
map_hits f g xs [] e = refl
map_hits f g xs (q ∷ qs) e =
    let i = map_hits f g xs qs (λ j l. e (suc j) (omega arith)) in
    by_test (contains q xs) (λ t. rw t (ap₂ (λ a l. a ∷ l) (e 0 (omega arith)) i)) (λ t. rw t i)

module _ (file directory : List ℕ) (rec : Record) (y : AreBytes file) (ok : broken file directory rec ≡ false) where
  -- a rank fits
  whole : (h : Head) (gs : List Block) → Given file directory rec h gs → (d n : ℕ) → n ≡ rank d (rows_of gs) → n % 2 ^ 32 ≡ n
  whole h gs g d n q =
      omega (
        arith,
        rank_le d (rows_of gs),
        rising_length 0 rec.row_count (rows_of gs) (given_rise file directory rec h gs y g),
        (unbroken file directory rec ok).count,
      )

  -- ---- rows of one block

  module _ (b : ℕ) (l : b < count_of_blocks rec.row_count) (p : List ℕ) (e : p ≡ part_of file directory rec.data_start b) (qs : List ℕ)
      (block : InBlock (65536 * b) qs) where
    module _ (h : Head) (gs : List Block) (g : Given file directory rec h gs) where
      abbrev R : List ℕ
      R = rows_from (65536 * b) (places_of b gs)

      -- a question's block and place
      number : (j : ℕ) → j < length qs → get_or qs j 0 / size ≡ b
      number j m = omega (arith, block j m)

      place : (j : ℕ) → j < length qs → get_or qs j 0 % size ≡ get_or qs j 0 - 65536 * b
      place j m = omega (arith, block j m)

      says : (j : ℕ) → j < length qs → contains (get_or qs j 0) (rows_from (65536 * b) (places_of b gs)) ≡ contains (get_or qs j 0) (rows_of gs)
      says j m =
          row_contains (65536 * b) (get_or qs j 0) (places_of b gs) (block j m).0
          ∙ sym (contains_split rec.row_count gs (given_well file directory rec h gs y g) (get_or qs j 0)
          ∙ ap₂ (λ p b. contains p (places_of b gs)) (place j m) (number j m))

      counts : (j : ℕ) → j < length qs
          → (get_or directory (2 * b) 0 + rank (get_or qs j 0) (rows_from (65536 * b) (places_of b gs))) % 2 ^ 32 ≡ rank (get_or qs j 0) (rows_of gs)
      counts j m =
          let q = get_or qs j 0 in
          let is : get_or directory (2 * b) 0 + rank q (rows_from (65536 * b) (places_of b gs)) ≡ rank q (rows_of gs) =
          ap₂ (λ a r. a + r) (word_rows file directory rec h gs y g b (omega arith)) (row_rank (65536 * b) q (places_of b gs) (block j m).0)
          ∙ sym (rank_split rec.row_count gs (given_well file directory rec h gs y g) q
          ∙ ap₂ (λ p b. rows_before b gs + rank p (places_of b gs)) (place j m) (number j m)) in
          whole h gs g q _ is ∙ is

    pub block_hits : {rows₀ ranks₀ rows ranks' : List ℕ} {n : ℕ} → Batched p qs (65536 * b) (get_or directory (2 * b) 0) rows₀ ranks₀ rows ranks' n
        → Hits file directory rec qs rows₀ ranks₀ rows ranks' n
    block_hits {rows₀} {ranks₀} {rows} {ranks'} {n} a =
        record {
          fewer = a.fewer;
          rows_stay = a.rows_stay;
          ranks_stay = a.ranks_stay;
          exact = λ h gs g.
              let xs = rows_of gs in
              let R = rows_from (65536 * b) (places_of b gs) in
              let x = a.exact (places_of b gs) (rw e (part_holds file directory rec y h gs g b l)) in
              let same : hits R qs ≡ hits xs qs = hits_same R xs qs (says h gs g) in
              let counted : ℕ → ℕ = λ q. (get_or directory (2 * b) 0 + rank q R) % 2 ^ 32 in (
                x.0 ∙ ap length same,
                x.1 ∙ ap (λ l. l ++ drop n rows₀) same,
                x.2 ∙ ap (λ l. l ++ drop n ranks₀) (map_hits counted (λ q. rank q xs) R qs (counts h gs g) ∙ ap (ranks xs) same),
              );
        }
