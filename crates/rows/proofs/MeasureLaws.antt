-- What the blocks of rows take, run by run.
use Prim.Native.Nat.{ℕ, ◌+◌, ◌-◌, ◌*◌, ◌%◌, ◌≤◌}
use mathlib.Core.Path.{◌≡◌, ap, ◌∙◌}
use mathlib.Core.List.{List, [], flat_map}
use native.Mathlib.Omega.{arith}
use lib.ListN.{length, drop, length-append, length-map, drop_of_length-le}
use borrow.Author.Tests.{leb-true}
use Rattle.spec.specs.Layout.{size, dense, blocks, data_of, all_data}
use Rattle.spec.specs.Reading.{part, size_of_data}
use Rattle.spec.proofs.Tests.{by_test}
use Rattle.spec.proofs.Content.{length_data}
use Rattle.rows.specs.Runs.{Run, Shaped, places}

-- no more than two for each row, since dense data take no more than sparse ones would
pub size_twice : (n : ℕ) → size_of_data n ≤ 2 * n
size_twice n = by_test (dense n) (λ e. rw e (omega (arith, leb-true 5120 n e))) (λ e. rw e (omega arith))

-- ---- after the runs before i

pub record Measuring (rows : List ℕ) (bytes entries i : ℕ) : Type 0 where
  pub within : i ≤ length rows
  pub few : bytes ≤ 2 * i
  pub fewer : entries ≤ i
  pub bytes_left : bytes + length (all_data (blocks (drop i rows))) ≡ length (all_data (blocks rows))
  pub entries_left : entries + length (blocks (drop i rows)) ≡ length (blocks rows)

pub measuring_start : (rows : List ℕ) → Measuring rows 0 0 0
measuring_start rows = record { within = omega arith; few = omega arith; fewer = omega arith; bytes_left = omega arith; entries_left = omega arith }

pub measuring_more : {rows : List ℕ} {bytes entries i : ℕ} → Measuring rows bytes entries i → (e n : ℕ) → Run rows i e → n ≡ size_of_data (e - i)
    → Measuring rows (bytes + n) (entries + 1) e
unfolding all_data flat_map
measuring_more {rows} {bytes} {entries} {i} m e n r q =
    let ps = places (part i e rows) in
    let l : length ps ≡ e - i = length-map (part i e rows) (λ r. r % size) ∙ r.long in
    let d : length (all_data (blocks (drop i rows))) ≡ size_of_data (e - i) + length (all_data (blocks (drop e rows))) =
    ap (λ gs. length (all_data gs)) r.is ∙ length-append (data_of ps) (all_data (blocks (drop e rows)))
    ∙ ap (λ k. k + length (all_data (blocks (drop e rows)))) (length_data ps ∙ ap size_of_data l) in
    let b : length (blocks (drop i rows)) ≡ 1 + length (blocks (drop e rows)) = ap length r.is ∙ omega arith in
    let s = size_twice (e - i) in
    record {
      within = r.within;
      few = omega (arith, m.few, r.some);
      fewer = omega (arith, m.fewer, r.some);
      bytes_left = omega (arith, m.bytes_left);
      entries_left = omega (arith, m.entries_left);
    }

pub measuring_end : {rows : List ℕ} {bytes entries i : ℕ} → Measuring rows bytes entries i → length rows ≤ i → Shaped rows bytes entries
unfolding all_data flat_map blocks
measuring_end {rows} {bytes} {entries} {i} m h =
    let z : drop i rows ≡ [] = drop_of_length-le rows h in
    let d : length (all_data (blocks (drop i rows))) ≡ 0 = ap (λ l. length (all_data (blocks l))) z in
    let b : length (blocks (drop i rows)) ≡ 0 = ap (λ l. length (blocks l)) z in
    record { bytes' = omega (arith, m.bytes_left); entries' = omega (arith, m.entries_left) }
