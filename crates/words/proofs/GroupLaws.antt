-- The shortest form of a row count: how long it is, and the turn of the loop that writes it.
use Prim.Native.Nat.{ℕ, zero, suc, ◌+◌, ◌/◌, ◌%◌, ◌^◌, ◌≤◌, ◌<◌}
use mathlib.Core.Path.{◌≡◌, refl, sym, ap, ◌∙◌}
use mathlib.Core.Bool.{cond}
use mathlib.Core.List.{List, [], ◌∷◌}
use native.Mathlib.Nat.{pow-suc, one-le-pow}
use native.Mathlib.Numerals.{add-one}
use native.Mathlib.Omega.{arith}
use lib.ListN.{length, set, length-set}
use lib.Seq.{sets}
use lib.Dec.{ltb}
use Rattle.spec.specs.Layout.{groups}
use Rattle.spec.proofs.RowCount.{groups_length, groups_small, groups_large}

-- a number from 128 ^ k on and below 128 ^ (k + 1) has k + 1 groups, and so has zero with k = 0
pub long : (f k n : ℕ) → k ≤ f → (0 < k → 128 ^ k ≤ n) → n < 128 ^ suc k → suc k ≡ length (groups f n)
long f zero n l p h = rw (groups_small f n h)
long zero (suc k) n l p h = absurd (omega arith)
long (suc f) (suc k) n l p h =
    let low : 128 ^ suc k ≤ n = p (omega arith) in
    let some : 1 ≤ 128 ^ k = one-le-pow k 128 (omega arith) in
    let q = pow-suc 128 k in
    let q' = pow-suc 128 (suc k) in
    rw (groups_large f n (omega arith)) (ap suc (long f k (n / 128) (omega arith) (λ _. omega arith) (omega arith)))

-- room for one group more changes nothing where there is enough
enough : (f n : ℕ) → n < 128 ^ suc f → groups f n ≡ groups (suc f) n
unfolding groups
enough zero n h = groups_small 0 n h ∙ sym (groups_small 1 n h)
enough (suc f) n h =
    let q = pow-suc 128 (suc f) in
    ap (λ g. cond (ltb n 128) ((n + 128) ∷ []) (n % 128 ∷ g)) (enough f (n / 128) (omega arith))

-- so five groups may be left at each turn
next : (n : ℕ) → 128 ≤ n → n < 128 ^ 5 → groups 4 n ≡ n % 128 ∷ groups 4 (n / 128)
next n l h = groups_large 3 n l ∙ ap (λ g. n % 128 ∷ g) (enough 3 (n / 128) (omega arith))

-- i groups of a row count are written, and those of `rest` are left: writing them gives what writing all of them gives
pub record Grouped (out₀ : List ℕ) (count : ℕ) (out : List ℕ) (rest i : ℕ) : Type 0 where
  pub small : rest < 128 ^ 5
  pub same : length out ≡ length out₀
  pub left : i + length (groups 4 rest) ≡ length (groups 4 count)
  pub whole : sets out i (groups 4 rest) ≡ sets out₀ 0 (groups 4 count)

-- none is written yet
pub none_grouped : (out : List ℕ) (count : ℕ) → count < 2 ^ 32 → Grouped out count out count 0
none_grouped out count h = record { small = omega arith; same = refl; left = omega arith; whole = refl }

module _ {out₀ out : List ℕ} {count rest i : ℕ} (g : Grouped out₀ count out rest i) where
  -- there is room for one more
  pub room : length (groups 4 count) ≤ length out₀ → i < length out
  room h = omega (arith, g.same, g.left, (groups_length 4 rest).0)

  -- one that is not the last is written
  pub one_grouped : 128 ≤ rest → Grouped out₀ count (set out i (rest % 128)) (rest / 128) (i + 1)
  one_grouped l =
      let e = next rest l g.small in
      record {
        small = omega (arith, g.small);
        same = length-set out i (rest % 128) ∙ g.same;
        left = omega (arith, ap length e, g.left);
        whole = rw (add-one i) (rw e at g.whole);
      }

  -- the last is written
  pub all_grouped : rest < 128 → (set out i (rest + 128) ≡ sets out₀ 0 (groups 4 count)) × (i + 1 ≡ length (groups 4 count))
  all_grouped l = let e = groups_small 4 rest l in (rw e at g.whole, rw e at g.left)
