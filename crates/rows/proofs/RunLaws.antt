-- A run of rows of one block: its places, and the blocks before and behind it.
use Prim.Native.Nat.{ℕ, zero, suc, ◌+◌, ◌-◌, ◌*◌, ◌/◌, ◌%◌, ◌^◌, ◌≤◌, ◌<◌}
use mathlib.Core.Path.{◌≡◌, refl, sym, ap, ap₂, ◌∙◌}
use mathlib.Core.Bool.{true}
use mathlib.Core.List.{List, [], ◌∷◌, ◌++◌, map}
use native.Mathlib.Omega.{arith, by_contra}
use lib.ListN.{length, get_or, drop, length-map, take-append-drop}
use lib.Seq.{drop-drop}
use Rattle.spec.specs.Layout.{size, blocks}
use Rattle.spec.specs.Reading.{part}
use Rattle.spec.proofs.Rising.{Rising, rising_true, rising_lower, rising_steps, rising_take}
use Rattle.spec.proofs.Bytes.{length_part, get_or_part}
use Rattle.spec.proofs.Blocks.{blocks_run}
use Rattle.rows.specs.Runs.{ascends, Below, places, Run}
use Rattle.rows.proofs.RowLaws.{ascends_rising}

-- ---- the rest of a rising list

rising_drop : (n low low' end : ℕ) (xs : List ℕ) → Rising low end xs → ((j : ℕ) → n ≤ j → j < length xs → low' ≤ get_or xs j 0) → Rising low' end (drop n xs)
rising_drop zero low low' end [] r h = tt
rising_drop zero low low' end (x ∷ xs) r h = (h 0 (omega arith) (omega arith), r.1, r.2)
rising_drop (suc n) low low' end [] r h = tt
rising_drop (suc n) low low' end (x ∷ xs) r h = rising_drop n (suc x) low' end xs r.2 (λ j l m. h (suc j) (omega arith) (omega arith))

-- ---- rows of block k

run_rows : (k : ℕ) (xs : List ℕ) → ((j : ℕ) → j < length xs → get_or xs j 0 / size ≡ k) → map (λ p. k * size + p) (places xs) ≡ xs
run_rows k [] h = refl
run_rows k (x ∷ xs) h =
    let q = h 0 (omega arith) in
    let e : k * size + x % size ≡ x = omega arith in ap₂ (λ a l. a ∷ l) e (run_rows k xs (λ j l. h (suc j) (omega arith)))

run_places : (k low end : ℕ) (xs : List ℕ) → Rising low end xs → ((j : ℕ) → j < length xs → get_or xs j 0 / size ≡ k) → Rising (low - k * size) size (places xs)
run_places k low end [] r h = tt
run_places k low end (x ∷ xs) r h =
    let q = h 0 (omega arith) in
    let e : suc x - k * size ≡ suc (x % size) = omega arith in
    (omega (arith, r.0), omega arith, rw e at (run_places k (suc x) end xs r.2 (λ j l. h (suc j) (omega arith))))

-- ---- the run of rows from i to e, which ends where its block does

module _ (end i e : ℕ) (rows : List ℕ) (r : Rising 0 end rows) (h : i < length rows) (b : Below rows (get_or rows i 0 / size * size + size) e) where
  run_some : i < e
  run_some = by_contra (suc i) e (λ l. omega (arith, b.after i (omega arith) h))

  run_long : length (part i e rows) ≡ e - i
  run_long = let s = run_some in length_part i e rows (omega arith) b.within

  run_same : (j : ℕ) → j < length (part i e rows) → get_or (part i e rows) j 0 / size ≡ get_or rows i 0 / size
  run_same j l =
      let s = run_some in
      let n = run_long in
      let w = b.within in
      rw (get_or_part i e rows j (omega arith))
      (omega (arith, b.before (i + j) (omega arith), rising_steps i (i + j) 0 end rows (omega arith) (omega arith) r))

  run : Run rows i e
  unfolding part
  run =
      let k = get_or rows i 0 / size in
      let s = run_some in
      let low : (j : ℕ) → i ≤ j → j < length rows → 0 ≤ get_or rows j 0 = λ j l m. omega arith in
      let t : Rising 0 end (part i e rows) = rising_take (e - i) 0 end (drop i rows) (rising_drop i 0 0 end rows r low) in
      let back : i + (e - i) ≡ e = omega arith in
      let cut : part i e rows ++ drop e rows ≡ drop i rows =
      ap (λ l. part i e rows ++ l) (sym (drop-drop (e - i) i rows ∙ ap (λ n. drop n rows) back)) ∙ take-append-drop (e - i) (drop i rows) in
      let rise : Rising 0 size (places (part i e rows)) = rising_lower 0 (0 - k * size) size (places (part i e rows)) (omega arith) (run_places k 0 end (part i e rows) t run_same) in
      record {
        some = s;
        within = b.within;
        long = run_long;
        rises = rising_true 0 size (places (part i e rows)) rise;
        is = ap blocks (sym cut) ∙ ap (λ l. blocks (l ++ drop e rows)) (sym (run_rows k (part i e rows) run_same))
            ∙ blocks_run end k (places (part i e rows)) (drop e rows) (omega (arith, length-map (part i e rows) (λ r. r % size), run_long)) rise
            (rising_drop e 0 (suc k * size) end rows r (λ j l m. omega (arith, b.after j l m)));
      }

-- the same, of 32-bit rows that ascend, as the code finds it
pub run_found : (rows : List ℕ) (i e end : ℕ) → ascends 0 rows ≡ true → ((j : ℕ) → get_or rows j 0 < 2 ^ 32) → i < length rows → end ≡ get_or rows i 0 / size * size + size
    → Below rows end e → Run rows i e
run_found rows i e end a y h q b = run (2 ^ 32) i e rows (ascends_rising 0 (2 ^ 32) rows a (λ j l. y j)) h (rw q at b)
