-- A dense block, written mini-block by mini-block: those before the m-th are there, and the running count is their places.
use Rattle.std.proofs.Common.{◌≡◌, ℕ, ◌+◌, ◌*◌, ◌<◌, ◌≤◌, List, ◌++◌, length, take, drop, sym, ap, ◌∙◌, subst, ap₂, arith, length-append, length-take-le, take_all, take_at}
use lib.Count.{ones}
use lib.Seq.{sets, sets-eq, length-sets}
use Rattle.spec.specs.Set.{rank}
use Rattle.spec.specs.Layout.{size, mini_block, mini_blocks, dense_data, bytes_of}
use Rattle.spec.proofs.Rising.{Rising}
use Rattle.spec.proofs.Questions.{rank_low, rank_all, rank_le_sub}
use Rattle.spec.proofs.Content.{length_mini}
use Rattle.mini.specs.Mini.{mini_bytes, Gathers}
use Rattle.mini.specs.declared.Gathered.{Gathered}
use Rattle.dense.proofs.PlaceLaws.{rank_ones}
use Rattle.dense.proofs.DenseLaws.{minis_none, minis_last, mini_is}

-- the mini-blocks before the m-th are written, and the running count and the index of the next row are the number of their places
pub record Filling (ps out : List ℕ) (before i m : ℕ) : Type 0 where
  pub few : m ≤ 1023
  pub long : length out ≡ 10240
  pub count : before ≡ rank (64 * m) ps
  pub index : i ≡ rank (64 * m) ps
  pub front : take (10 * m) out ≡ mini_blocks m 0 ps

-- before the last mini-block
pub at_last : {ps out : List ℕ} {before i m : ℕ} → Filling ps out before i m → 1023 ≤ m → Filling ps out before i 1023
at_last {ps} {out} {before} {i} f h = subst (λ m. Filling ps out before i m) (omega (arith, f.few)) f

pub none_filled : (ps out : List ℕ) → Rising 0 size ps → length out ≡ 10240 → Filling ps out 0 0 0
none_filled ps out r l =
    let z = sym (rank_low 0 size ps r 0 (omega arith)) in
    record { few = omega arith; long = l; count = z; index = z; front = sym (minis_none 0 ps) }

-- the word of mini-block m is gathered
module _ {ps out : List ℕ} {before i m : ℕ} {g : Gathered} (r : Rising 0 size ps) (f : Filling ps out before i m) (w : Gathers ps m g) where
  -- the running count behind it
  count_next : before + ones g.word ≡ rank (64 * (m + 1)) ps
  count_next = omega (arith, rank_ones ps r m, f.count, ap ones w.made)

  -- so the sum fits 16 bits
  pub count_small : before + ones g.word ≤ 64 * (m + 1)
  count_small = omega (arith, count_next, rank_le_sub 0 size ps r (64 * (m + 1)))

  -- it is stored
  module _ {out' : List ℕ} (e : out' ≡ sets out (10 * m) (mini_bytes (record { bitvec = g.word; rank = before }))) where
    stores : out' ≡ sets out (10 * m) (mini_block m ps)
    stores = e ∙ ap (sets out (10 * m)) (ap₂ (λ w c. bytes_of 8 w ++ bytes_of 2 c) w.made f.count ∙ sym (mini_is m ps))

    pub long_next : length out' ≡ 10240
    long_next = ap length stores ∙ length-sets out (10 * m) (mini_block m ps) ∙ f.long

    front_next : take (10 * (m + 1)) out' ≡ mini_blocks (m + 1) 0 ps
    front_next =
        let n = length_mini m ps in
        let x = take (10 * m) out ++ mini_block m ps in
        let ten : length x ≡ 10 * (m + 1) =
        length-append (take (10 * m) out) (mini_block m ps) ∙ omega (arith, length-take-le (10 * m) out (omega (arith, f.long, f.few))) in
        ap (take (10 * (m + 1))) (stores ∙ sets-eq (mini_block m ps) out (10 * m) (omega (arith, f.long, f.few)))
        ∙ take_at x (drop (10 * m + length (mini_block m ps)) out) (10 * (m + 1)) ten
        ∙ ap (λ l. l ++ mini_block m ps) f.front ∙ sym (minis_last m ps)

    -- it was not the last, or it was
    pub one_filled : m < 1023 → Filling ps out' (before + ones g.word) g.next (m + 1)
    one_filled h = record { few = omega arith; long = long_next; count = count_next; index = w.up_to; front = front_next }

    pub all_filled : m ≡ 1023 → (out' ≡ dense_data ps) × (before + ones g.word ≡ length ps)
    all_filled h =
        let ten : 10 * (m + 1) ≡ 10240 = omega arith in
        let all : 64 * (m + 1) ≡ 65536 = omega arith in
        let n : m + 1 ≡ 1024 = omega arith in (
          sym (take_all 10240 out' (omega (arith, long_next))) ∙ ap (λ n. take n out') (sym ten) ∙ front_next ∙ ap (λ n. mini_blocks n 0 ps) n,
          count_next ∙ ap (λ d. rank d ps) all ∙ rank_all 0 size ps r 65536 (omega arith),
        )
