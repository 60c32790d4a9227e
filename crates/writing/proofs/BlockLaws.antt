-- The data of one block's rows, and its entry, laid in the parts that are lent for them.
use Prim.Native.Nat.{ℕ, ◌+◌, ◌-◌, ◌%◌, ◌≤◌, ◌<◌}
use mathlib.Core.Path.{◌≡◌, sym, ap, ap₂, ◌∙◌}
use mathlib.Core.List.{List, ◌++◌}
use native.Mathlib.Omega.{arith}
use lib.ListN.{length, take, drop, length-append, length-map}
use lib.Seq.{sets}
use mathlib.Core.Bool.{true}
use Rattle.spec.specs.Set.{rising}
use Rattle.spec.specs.Layout.{size, sparse_data, dense_data, data_of, entry_bytes, entry_of}
use Rattle.spec.specs.Reading.{size_of_data}
use Rattle.spec.proofs.Bytes.{length_bytes}
use Rattle.spec.proofs.Rising.{rising_facts, rising_length}
use Rattle.spec.proofs.Content.{length_data, data_sparse, data_dense}
use Rattle.words.proofs.StoreLaws.{part_back}
use Rattle.rows.specs.Runs.{places}

pub data_few : (rows : List ℕ) → length rows < 5120 → sparse_data (places rows) ≡ data_of (places rows)
data_few rows h = sym (data_sparse (places rows) (omega (arith, length-map rows (λ r. r % size)))).0

pub data_many : (rows : List ℕ) → 5120 ≤ length rows → dense_data (places rows) ≡ data_of (places rows)
data_many rows h = sym (data_dense (places rows) (omega (arith, length-map rows (λ r. r % size)))).0

pub long_data : (rows : List ℕ) → length (data_of (places rows)) ≡ size_of_data (length rows)
long_data rows = length_data (places rows) ∙ ap size_of_data (length-map rows (λ r. r % size))

-- a block has no more rows than places
pub rows_fit : (rows : List ℕ) → rising 0 size (places rows) ≡ true → length rows ≤ size
rows_fit rows r = omega (arith, length-map rows (λ r. r % size), rising_length 0 size (places rows) (rising_facts 0 size (places rows) r))

-- its data, in the part that was lent for them
pub data_laid : (rows out new : List ℕ) (at n : ℕ) → new ≡ data_of (places rows) → n ≡ size_of_data (length rows) → at + n ≤ length out
    → take at out ++ (new ++ drop (at + n - at) (drop at out)) ≡ sets out at (data_of (places rows))
data_laid rows out new at n e q h =
    let k : length new ≡ at + n - at = ap length e ∙ long_data rows ∙ sym q ∙ omega arith in
    part_back new out at (at + n - at) k (omega arith) ∙ ap (sets out at) e

-- its entry, in the four bytes that were lent for it, after its data
pub entry_laid : (rows out laid new : List ℕ) (k to : ℕ) → out ≡ laid → to + 4 ≤ length laid → new ≡ entry_bytes (record { number = k; rows = length rows })
    → take to out ++ (new ++ drop (to + 4 - to) (drop to out)) ≡ sets laid to (entry_of (record { number = k; places = places rows }))
unfolding entry_of
entry_laid rows out laid new k to q h e =
    let four : length new ≡ 4 = ap length e ∙ simp (length-append, length_bytes) in
    part_back new out to (to + 4 - to) (omega (arith, four)) (omega (arith, ap length q))
    ∙ ap₂ (λ l v. sets l to v) q (e ∙ ap (λ n. entry_bytes (record { number = k; rows = n })) (sym (length-map rows (λ r. r % size))))
