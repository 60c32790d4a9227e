-- A mini-block and its ten bytes: each gives the other back. Ten bytes as a part of a block.
use Prim.Native.Nat.{ℕ, zero, suc, ◌+◌, ◌-◌, ◌*◌, ◌/◌, ◌^◌, ◌≤◌, ◌<◌}
use mathlib.Core.Path.{◌≡◌, refl, sym, ap, ap₂, ◌∙◌}
use mathlib.Core.List.{List, [], ◌++◌, append-nil}
use native.Mathlib.Nat.{mul-zero, mul-suc}
use native.Mathlib.Omega.{arith}
use lib.ListN.{length, get_or, take, drop}
use lib.Seq.{drop-drop, take-take}
use Rattle.std.proofs.lemmas.List.{drop-take, length-append}
use Rattle.std.specs.Simd.{first_chunks}
use Rattle.spec.specs.Layout.{bytes_of}
use Rattle.spec.specs.Reading.{AreBytes, number_in, part}
use Rattle.spec.proofs.Bytes.{length_bytes, number_bytes, part_at, part_all, part_join, part_number}
use Rattle.mini.specs.Mini.{mini_in, mini_bytes, MiniAt}
use Rattle.mini.specs.declared.DenseMiniBlock.{DenseMiniBlock}

-- ---- from_bytes and to_bytes are inverse

-- of a mini-block
pub mini_to_bytes : (x : DenseMiniBlock) → x.bitvec < 2 ^ 64 → x.rank < 2 ^ 16 → mini_in (mini_bytes x) ≡ x
mini_to_bytes x h l =
    let W = bytes_of 8 x.bitvec in
    let C = bytes_of 2 x.rank in
    let word : number_in (part 0 8 (W ++ C)) ≡ x.bitvec =
    ap number_in (part_at [] W C 0 8 refl (omega (arith, length_bytes 8 x.bitvec))) ∙ number_bytes 8 x.bitvec h in
    let all : W ++ C ≡ W ++ (C ++ []) = ap (λ l. W ++ l) (sym (append-nil C)) in
    let count : number_in (part 8 10 (W ++ C)) ≡ x.rank =
    ap (λ l. number_in (part 8 10 l)) all
    ∙ ap number_in (part_at W C [] 8 10 (length_bytes 8 x.bitvec) (omega (arith, length_bytes 2 x.rank))) ∙ number_bytes 2 x.rank l in
    λ i. record { bitvec = word i; rank = count i }

-- and of any ten bytes
pub bytes_mini : (bs : List ℕ) → AreBytes bs → length bs ≡ 10 → mini_bytes (mini_in bs) ≡ bs
bytes_mini bs y n =
    ap₂ (λ a b. a ++ b) (part_number 8 0 8 bs y refl (omega arith)) (part_number 2 8 10 bs y refl (omega arith))
    ∙ part_join 0 8 10 bs (omega arith) (omega arith) ∙ ap (λ n. part 0 n bs) (sym n) ∙ part_all bs

-- ten bytes they are
pub mini_ten : (x : DenseMiniBlock) → length (mini_bytes x) ≡ 10
mini_ten x = length-append (bytes_of 8 x.bitvec) (bytes_of 2 x.rank) ∙ omega (arith, length_bytes 8 x.bitvec, length_bytes 2 x.rank)

-- ---- a part of a part

-- what is taken of a longer front; std has it in two steps
take_within : (n a t : ℕ) (l : List ℕ) → a + n ≤ t → take n (drop a (take t l)) ≡ take n (drop a l)
take_within n a t l h =
    let e : t ≡ a + (t - a) = omega arith in
    ap (λ t. take n (drop a (take t l))) e ∙ ap (take n) (drop-take a (t - a) l) ∙ take-take n (t - a) (drop a l) (omega arith)

-- of a part that is long enough
part_part : (a b c d : ℕ) (bs : List ℕ) → a ≤ b → c + b ≤ d → part a b (part c d bs) ≡ part (c + a) (c + b) bs
unfolding part
part_part a b c d bs h l =
    let n : c + b - (c + a) ≡ b - a = omega arith in
    rw n (take_within (b - a) a (d - c) (drop c bs) (omega arith) ∙ ap (take (b - a)) (drop-drop a c bs))

-- chunk i of a list that is cut into chunks of n
chunk_at : (n k i : ℕ) (bs : List ℕ) → i < k → get_or (first_chunks n k bs) i [] ≡ take n (drop (n * i) bs)
chunk_at n zero i bs h = absurd (omega arith)
chunk_at n (suc k) zero bs h = rw mul-zero refl
chunk_at n (suc k) (suc i) bs h =
    let e : n * suc i ≡ n + n * i = omega (arith, mul-suc n i) in
    rw e (chunk_at n k i (drop n bs) (omega arith) ∙ ap (take n) (drop-drop (n * i) n bs))

-- of chunks of ten bytes
pub mini_chunk : (bs : List ℕ) (m : ℕ) → length bs ≡ 10240 → m < 1024
    → get_or (first_chunks 10 (length bs / 10) bs) m [] ≡ part (10 * m) (10 * m + 10) bs
unfolding part
mini_chunk bs m e h =
    let n : 10 * m + 10 - 10 * m ≡ 10 = omega arith in
    rw n (chunk_at 10 (length bs / 10) m bs (omega arith))

-- the ten bytes of mini-block m
pub mini_at : (bs : List ℕ) (m : ℕ) (x : DenseMiniBlock) → x ≡ mini_in (part (10 * m) (10 * m + 10) bs) → MiniAt bs m x
mini_at bs m x e =
    let a : 10 * m + 0 ≡ 10 * m = omega arith in
    record {
      word = ap (λ x. x.bitvec) e ∙ ap number_in (part_part 0 8 (10 * m) (10 * m + 10) bs (omega arith) (omega arith))
          ∙ ap (λ n. number_in (part n (10 * m + 8) bs)) a;
      count = ap (λ x. x.rank) e ∙ ap number_in (part_part 8 10 (10 * m) (10 * m + 10) bs (omega arith) (omega arith));
    }
