-- A block's data: read back as written, and data found right were written.
use Prim.Native.Nat.{ℕ, zero, suc, ◌+◌, ◌-◌, ◌*◌, ◌^◌, ◌≤◌, ◌<◌}
use mathlib.Core.Path.{◌≡◌, refl, sym, ap, ap₂, ◌∙◌}
use mathlib.Core.Bool.{Bool, true, false, ◌&&◌, cond}
use mathlib.Core.List.{List, [], ◌∷◌, ◌++◌, flat_map, append_assoc, append-nil}
use native.Mathlib.Omega.{arith}
use lib.ListN.{length, length-append}
use lib.Dec.{eqb}
use borrow.Author.Tests.{le-leb, lt-leb, leb-false, eqb-true, eq-eqb}
use Rattle.std.proofs.lemmas.Bool.{and_parts}
use Rattle.spec.specs.Set.{rising, rank}
use Rattle.spec.specs.Layout.{bytes_of, size, sparse_data, word, mini_block, mini_blocks, dense, data_of, entry_of}
use Rattle.spec.specs.Reading.{AreBytes, number_in, part, size_of_data, sparse_places, bits, word_at, count_at, dense_places, places_in, counts_ok, is_content}
use Rattle.spec.proofs.Tests.{by_test}
use Rattle.spec.proofs.Bytes.{length_bytes, number_bytes, part_at, part_join, part_none, part_all, part_number, part_number_lt, regroup, next_part, longer}
use Rattle.spec.proofs.Rising.{Rising, rising_facts, rising_true, rising_widen, rising_append}
use Rattle.spec.proofs.Questions.{rank_le_sub, rank_rest}
use Rattle.spec.proofs.Words.{word_lt, members, bits_word, members_all, members_append, bits_rising, word_bits}

-- ---- sizes

pub length_mini : (m : ℕ) (ps : List ℕ) → length (mini_block m ps) ≡ 10
unfolding mini_block
length_mini m ps = simp (length-append, length_bytes)

length_minis : (f m : ℕ) (ps : List ℕ) → length (mini_blocks f m ps) ≡ 10 * f
unfolding mini_blocks
length_minis zero m ps = refl
length_minis (suc f) m ps = simp (length-append, length_mini, length_minis f (suc m) ps) (omega arith)

length_sparse : (ps : List ℕ) → length (sparse_data ps) ≡ 2 * length ps
unfolding flat_map
length_sparse [] = refl
length_sparse (p ∷ ps) = simp (length-append, length_bytes, length_sparse ps) (omega arith)

pub length_data : (ps : List ℕ) → length (data_of ps) ≡ size_of_data (length ps)
unfolding data_of
length_data ps = go (dense (length ps))
  where
    go : (b : Bool) → length (cond b (mini_blocks 1024 0 ps) (sparse_data ps)) ≡ cond b 10240 (2 * length ps)
    go true = length_minis 1024 0 ps
    go false = length_sparse ps

-- ---- the form: at most 5,119 rows are sparse, from 5,120 rows on they are dense

pub size_sparse : (n : ℕ) → n < 5120 → size_of_data n ≡ 2 * n
size_sparse n h = rw (lt-leb 5120 n h)

pub size_dense : (n : ℕ) → 5120 ≤ n → size_of_data n ≡ 10240
size_dense n h = rw (le-leb 5120 n h)

pub size_le : (n : ℕ) → size_of_data n ≤ 10240
size_le n = by_test (dense n) (λ e. rw e (omega arith)) (λ e. rw e (omega (arith, leb-false 5120 n e)))

pub data_sparse : (ps : List ℕ) → length ps ≤ 5119 → (data_of ps ≡ flat_map (bytes_of 2) ps) × (size_of_data (length ps) ≡ 2 * length ps)
unfolding data_of
data_sparse ps h = let e = lt-leb 5120 (length ps) (omega arith) in (rw e, rw e)

pub data_dense : (ps : List ℕ) → 5120 ≤ length ps → (data_of ps ≡ mini_blocks 1024 0 ps) × (size_of_data (length ps) ≡ 10240)
unfolding data_of
data_dense ps h = let e = le-leb 5120 (length ps) h in (rw e, rw e)

-- the last mini-block of a full block says 65,472 before it, and its entry 65535
pub full_block : (b : ℕ) (ps : List ℕ) → Rising 0 size ps → length ps ≡ 65536
    → (mini_block 1023 ps ≡ bytes_of 8 (word 1023 ps) ++ (0xC0 ∷ 0xFF ∷ [])) × (entry_of (record { number = b; places = ps }) ≡ bytes_of 2 b ++ (0xFF ∷ 0xFF ∷ []))
unfolding mini_block entry_of bytes_of
full_block b ps r l =
    let n : rank 65472 ps ≡ 65472 = omega (arith, rank_le_sub 0 size ps r 65472, rank_rest 0 size ps r 65472) in
    (ap (λ n. bytes_of 8 (word 1023 ps) ++ bytes_of 2 n) n, ap (λ n. bytes_of 2 b ++ bytes_of 2 (n - 1)) l)

-- ---- read back as written

sparse_back : (low at : ℕ) (pre ps rest : List ℕ) → length pre ≡ at → Rising low size ps → sparse_places (length ps) at (pre ++ (sparse_data ps ++ rest)) ≡ ps
unfolding sparse_places flat_map
sparse_back low at pre [] rest l r = refl
sparse_back low at pre (p ∷ ps) rest l r =
    let n = length_bytes 2 p in
    ap₂ (λ a l. a ∷ l)
    (ap number_in (next_part pre (bytes_of 2 p) (sparse_data ps) rest at (at + 2) l (omega arith)) ∙ number_bytes 2 p r.1)
    (ap (sparse_places (length ps) (at + 2)) (regroup pre (bytes_of 2 p) (sparse_data ps) rest)
    ∙ sparse_back (suc p) (at + 2) (pre ++ bytes_of 2 p) ps rest (longer pre (bytes_of 2 p) at (at + 2) l (omega arith)) r.2)

-- the word and the running count of mini-block m, at its place
module _ (m : ℕ) (ps pre y rest : List ℕ) (l : length pre ≡ 10 * m) where
  W : List ℕ
  W = bytes_of 8 (word m ps)

  C : List ℕ
  C = bytes_of 2 (rank (64 * m) ps)

  mini_word : word_at m (pre ++ ((mini_block m ps ++ y) ++ rest)) ≡ word m ps
  unfolding mini_block W C
  mini_word =
      let e : pre ++ ((mini_block m ps ++ y) ++ rest) ≡ pre ++ (W ++ (C ++ (y ++ rest))) = simp append_assoc in
      ap (word_at m) e ∙ ap number_in (part_at pre W (C ++ (y ++ rest)) (10 * m) (10 * m + 8) l (omega (arith, length_bytes 8 (word m ps))))
      ∙ number_bytes 8 (word m ps) (word_lt 64 (64 * m) ps)

  mini_count : rank (64 * m) ps < 256 ^ 2 → count_at m (pre ++ ((mini_block m ps ++ y) ++ rest)) ≡ rank (64 * m) ps
  unfolding mini_block W C
  mini_count s =
      let e : pre ++ ((mini_block m ps ++ y) ++ rest) ≡ (pre ++ W) ++ (C ++ (y ++ rest)) = simp append_assoc in
      ap (count_at m) e
      ∙ ap number_in (part_at (pre ++ W) C (y ++ rest) (10 * m + 8) (10 * m + 10) (longer pre W (10 * m) (10 * m + 8) l (omega (arith, length_bytes 8 (word m ps))))
      (omega (arith, length_bytes 2 (rank (64 * m) ps))))
      ∙ number_bytes 2 (rank (64 * m) ps) s

  -- what is behind it
  mini_longer : length (pre ++ mini_block m ps) ≡ 10 * suc m
  mini_longer = longer pre (mini_block m ps) (10 * m) (10 * suc m) l (omega (arith, length_mini m ps))

dense_back : (f m : ℕ) (ps pre rest : List ℕ) → length pre ≡ 10 * m → dense_places f m (pre ++ (mini_blocks f m ps ++ rest)) ≡ members (64 * f) (64 * m) ps
unfolding dense_places mini_blocks members
dense_back zero m ps pre rest l = refl
dense_back (suc f) m ps pre rest l =
    let M = mini_blocks f (suc m) ps in
    let n : 64 + 64 * f ≡ 64 * suc f = omega arith in
    let a : 64 * m + 64 ≡ 64 * suc m = omega arith in
    ap₂ (λ a b. a ++ b) (ap (bits 64 (64 * m)) (mini_word m ps pre M rest l) ∙ bits_word 64 (64 * m) ps)
    (ap (dense_places f (suc m)) (regroup pre (mini_block m ps) M rest) ∙ dense_back f (suc m) ps (pre ++ mini_block m ps) rest (mini_longer m ps pre M rest l))
    ∙ sym (ap (λ n. members n (64 * m) ps) (sym n) ∙ members_append 64 (64 * f) (64 * m) ps ∙ ap (λ a. members 64 (64 * m) ps ++ members (64 * f) a ps) a)

counts_back : (f m low end : ℕ) (ps pre rest : List ℕ) → m + f ≤ 1024 → Rising low end ps → length pre ≡ 10 * m → counts_ok f m ps (pre ++ (mini_blocks f m ps ++ rest)) ≡ true
unfolding counts_ok mini_blocks
counts_back zero m low end ps pre rest h r l = refl
counts_back (suc f) m low end ps pre rest h r l =
    let M = mini_blocks f (suc m) ps in
    let s : rank (64 * m) ps < 256 ^ 2 = omega (arith, rank_le_sub low end ps r (64 * m)) in
    ap₂ (λ a b. a && b) (eq-eqb _ _ (mini_count m ps pre M rest l s))
    (ap (counts_ok f (suc m) ps) (regroup pre (mini_block m ps) M rest) ∙ counts_back f (suc m) low end ps (pre ++ mini_block m ps) rest (omega arith) r (mini_longer m ps pre M rest l))

-- a whole block
pub places_back : (end : ℕ) (ps : List ℕ) → end ≤ size → Rising 0 end ps → places_in (length ps) (data_of ps) ≡ ps
unfolding places_in data_of
places_back end ps h r = go (dense (length ps))
  where
    go : (b : Bool) → cond b (dense_places 1024 0 (cond b (mini_blocks 1024 0 ps) (sparse_data ps))) (sparse_places (length ps) 0 (cond b (mini_blocks 1024 0 ps) (sparse_data ps))) ≡ ps
    go true = ap (dense_places 1024 0) (sym (append-nil (mini_blocks 1024 0 ps))) ∙ dense_back 1024 0 ps [] [] refl ∙ members_all 65536 0 end ps r h
    go false = ap (sparse_places (length ps) 0) (sym (append-nil (sparse_data ps))) ∙ sparse_back 0 0 [] ps [] refl (rising_widen 0 end size ps h r)

pub content_back : (end : ℕ) (ps : List ℕ) → end ≤ size → Rising 0 end ps → is_content (length ps) end (data_of ps) ≡ true
unfolding is_content data_of
content_back end ps h r =
    rw (places_back end ps h r, rising_true 0 end ps r, eq-eqb (length ps) (length ps) refl) (go (dense (length ps)))
  where
    go : (b : Bool) → cond b (counts_ok 1024 0 ps (cond b (mini_blocks 1024 0 ps) (sparse_data ps))) true ≡ true
    go true = ap (counts_ok 1024 0 ps) (sym (append-nil (mini_blocks 1024 0 ps))) ∙ counts_back 1024 0 0 end ps [] [] (omega arith) r refl
    go false = refl

-- ---- what is found right was written

sparse_written : (n at to : ℕ) (bs : List ℕ) → AreBytes bs → at + 2 * n ≡ to → to ≤ length bs → sparse_data (sparse_places n at bs) ≡ part at to bs
unfolding flat_map sparse_places
sparse_written zero at to bs y e l = sym (part_none at to bs (omega arith))
sparse_written (suc n) at to bs y e l =
    ap₂ (λ a b. a ++ b) (part_number 2 at (at + 2) bs y (omega arith) (omega arith)) (sparse_written n (at + 2) to bs y (omega arith) l)
    ∙ part_join at (at + 2) to bs (omega arith) (omega arith)

pub dense_rising : (f m : ℕ) (bs : List ℕ) → Rising (64 * m) (64 * (m + f)) (dense_places f m bs)
unfolding dense_places
dense_rising zero m bs = tt
dense_rising (suc f) m bs =
    let a : 64 * suc m ≡ 64 * m + 64 = omega arith in
    let b : 64 * (suc m + f) ≡ 64 * (m + suc f) = omega arith in
    rising_append (64 * m) (64 * m + 64) (64 * (m + suc f)) (bits 64 (64 * m) (word_at m bs)) (dense_places f (suc m) bs) (omega arith) (omega arith)
    (bits_rising 64 (64 * m) (word_at m bs)) (rw (a, b) at (dense_rising f (suc m) bs))

-- `pre` has the places of earlier mini-blocks
dense_written : (f m to : ℕ) (pre bs : List ℕ) → Rising 0 (64 * m) pre → AreBytes bs → 10 * (m + f) ≡ to → to ≤ length bs
    → counts_ok f m (pre ++ dense_places f m bs) bs ≡ true → mini_blocks f m (pre ++ dense_places f m bs) ≡ part (10 * m) to bs
unfolding mini_blocks mini_block dense_places counts_ok
dense_written zero m to pre bs r y e l k = sym (part_none (10 * m) to bs (omega arith))
dense_written (suc f) m to pre bs r y e l k =
    let B = bits 64 (64 * m) (word_at m bs) in
    let rest = dense_places f (suc m) bs in
    let same : pre ++ (B ++ rest) ≡ (pre ++ B) ++ rest = sym (append_assoc pre B rest) in
    let ok = and_parts (eqb (count_at m bs) (rank (64 * m) (pre ++ (B ++ rest)))) (counts_ok f (suc m) (pre ++ (B ++ rest)) bs) k in
    let a : 64 * suc m ≡ 64 * m + 64 = omega arith in
    let b : 10 * suc m ≡ 10 * m + 10 = omega arith in
    let w : word m (pre ++ (B ++ rest)) ≡ word_at m bs =
    word_bits 64 (64 * m) (64 * (suc m + f)) (word_at m bs) pre rest
    (part_number_lt 8 (10 * m) (10 * m + 8) bs y (omega arith) (omega arith)) r (rw a at (dense_rising f (suc m) bs)) in
    ap₂ (λ a b. a ++ b)
    (ap₂ (λ a b. bytes_of 8 a ++ bytes_of 2 b) w (sym (eqb-true _ _ ok.0))
    ∙ ap₂ (λ a b. a ++ b) (part_number 8 (10 * m) (10 * m + 8) bs y (omega arith) (omega arith)) (part_number 2 (10 * m + 8) (10 * m + 10) bs y (omega arith) (omega arith))
    ∙ part_join (10 * m) (10 * m + 8) (10 * m + 10) bs (omega arith) (omega arith))
    (ap (mini_blocks f (suc m)) same
    ∙ dense_written f (suc m) to (pre ++ B) bs (rw a (rising_append 0 (64 * m) (64 * m + 64) pre B (omega arith) (omega arith) r (bits_rising 64 (64 * m) (word_at m bs)))) y (omega arith) l (rw same at ok.1)
    ∙ ap (λ n. part n to bs) b)
    ∙ part_join (10 * m) (10 * m + 10) to bs (omega arith) (omega arith)

pub record Block-written (n end : ℕ) (bs : List ℕ) : Type 0 where
  pub many : length (places_in n bs) ≡ n
  pub bytes : data_of (places_in n bs) ≡ bs
  pub places : Rising 0 end (places_in n bs)

pub block_written : (n end : ℕ) (bs : List ℕ) → AreBytes bs → length bs ≡ size_of_data n → is_content n end bs ≡ true → Block-written n end bs
unfolding is_content places_in data_of
block_written n end bs y l k =
    let a = and_parts (rising 0 end (places_in n bs) && eqb (length (places_in n bs)) n) (cond (dense n) (counts_ok 1024 0 (places_in n bs) bs) true) k in
    let b = and_parts (rising 0 end (places_in n bs)) (eqb (length (places_in n bs)) n) a.0 in
    let c : length (places_in n bs) ≡ n = eqb-true (length (places_in n bs)) n b.1 in
    record { many = c; bytes = rw c (go (dense n) l a.1); places = rising_facts 0 end (places_in n bs) b.0 }
  where
    go : (t : Bool) → length bs ≡ cond t 10240 (2 * n)
        → cond t (counts_ok 1024 0 (cond t (dense_places 1024 0 bs) (sparse_places n 0 bs)) bs) true ≡ true
        → cond t (mini_blocks 1024 0 (cond t (dense_places 1024 0 bs) (sparse_places n 0 bs))) (sparse_data (cond t (dense_places 1024 0 bs) (sparse_places n 0 bs))) ≡ bs
    go true l k = dense_written 1024 0 (length bs) [] bs tt y (sym l) (omega arith) k ∙ part_all bs
    go false l k = sparse_written n 0 (length bs) bs y (omega arith) (omega arith) ∙ part_all bs
