-- A block's part of the file, and what its questions say: of any bytes something safe, of a block's data exactly what its places say.
use Rattle.std.specs.Prelude.{ℕ, ◌+◌, ◌%◌, ◌^◌, ◌≤◌, ◌<◌, ◌≡◌, true, List, map, ◌++◌, length, drop, get_or}
use Rattle.std.proofs.Math.Option.{Option, none, some}
use Rattle.spec.specs.Set.{rising, rank, hits, page}
use Rattle.spec.specs.Layout.{size, data_of}
use Rattle.std.specs.Prelude.{Some, None}
use Rattle.std.specs.Prelude.{Option as Maybe}

-- the part is the data of the places ps
pub record Holds (part ps : List ℕ) : Type 0 where
  pub rises : rising 0 size ps ≡ true
  pub bytes : part ≡ data_of ps

-- what is said of the places that the part holds
abbrev pub Of : List ℕ → (List ℕ → Type 0) → Type 0
Of part exact = (ps : List ℕ) → Holds part ps → exact ps

-- what a question answers
abbrev pub placed : Maybe ℕ → Option ℕ
placed (Some v) = some v
placed None = none

-- a place is below 65,536
abbrev pub Inside : Maybe ℕ → Type 0
Inside (Some v) = v < size
Inside None = Unit {0}

-- questions that never fall
abbrev pub NeverFalls : List ℕ → Type 0
NeverFalls qs = (i j : ℕ) → i ≤ j → j < length qs → get_or qs i 0 ≤ get_or qs j 0

-- every question is a row of the block that begins at row base
abbrev pub InBlock : ℕ → List ℕ → Type 0
InBlock base qs = (i : ℕ) → i < length qs → (base ≤ get_or qs i 0) × (get_or qs i 0 < base + size)

-- a batch of one block's rows: no more hits than questions, and places past them stay; of the places that the part holds exactly the
-- hits, with ranks counted on from `first`, in 32 bits
pub record Batched (part qs : List ℕ) (base first : ℕ) (rows₀ ranks₀ rows ranks : List ℕ) (n : ℕ) : Type 0 where
  pub fewer : n ≤ length qs
  pub rows_stay : drop n rows ≡ drop n rows₀
  pub ranks_stay : drop n ranks ≡ drop n ranks₀
  pub exact : Of part (λ ps. let hs = hits (map (λ p. base + p) ps) qs in
      (n ≡ length hs) × (rows ≡ hs ++ drop n rows₀) × (ranks ≡ map (λ q. (first + rank q (map (λ p. base + p) ps)) % 2 ^ 32) hs ++ drop n ranks₀))

-- a list filled with rows of one block, those from index `from` on: of the places that the part holds, where it has so many
pub record Paged (part : List ℕ) (base from : ℕ) (out₀ out : List ℕ) : Type 0 where
  pub long : length out ≡ length out₀
  pub exact : Of part (λ ps. from + length out₀ ≤ length ps → out ≡ page from (length out₀) (map (λ p. base + p) ps))
