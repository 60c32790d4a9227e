-- A mini-block and its ten bytes, and the places of a block's rows, gathered into its word.
use Rattle.std.specs.Prelude.{ℕ, ◌+◌, ◌*◌, ◌%◌, ◌≡◌, List, ◌++◌, map}
use Rattle.spec.specs.Set.{rank}
use Rattle.spec.specs.Layout.{bytes_of, size, word}
use Rattle.spec.specs.Reading.{number_in, part, word_at, count_at}
use Rattle.mini.specs.declared.DenseMiniBlock.{DenseMiniBlock}
use Rattle.mini.specs.declared.Gathered.{Gathered}

-- ten bytes as a mini-block: the word in eight, the running count in two
abbrev pub mini_in : List ℕ → DenseMiniBlock
mini_in bs = record { bitvec = number_in (part 0 8 bs); rank = number_in (part 8 10 bs) }

-- the ten bytes of a mini-block
abbrev pub mini_bytes : DenseMiniBlock → List ℕ
mini_bytes x = bytes_of 8 x.bitvec ++ bytes_of 2 x.rank

-- mini-block m as the part stores it
pub record MiniAt (part : List ℕ) (m : ℕ) (x : DenseMiniBlock) : Type 0 where
  pub word : x.bitvec ≡ word_at m part
  pub count : x.rank ≡ count_at m part

-- the places of rows of one block
abbrev pub places : List ℕ → List ℕ
places rows = map (λ r. r % size) rows

-- the word of mini-block m, and how many places are before the next mini-block
pub record Gathers (ps : List ℕ) (m : ℕ) (g : Gathered) : Type 0 where
  pub made : g.word ≡ word m ps
  pub up_to : g.next ≡ rank (64 * (m + 1)) ps
