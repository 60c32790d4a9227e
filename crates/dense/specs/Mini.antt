-- What searches for a mini-block find.
use Rattle.std.specs.Prelude.{ℕ, ◌≡◌, ◌+◌, ◌*◌, ◌^◌, ◌<◌, ◌≤◌, List, length, Option, Some, None}
use Rattle.spec.specs.Set.{rank}
use Rattle.spec.specs.Reading.{word_at}
use Rattle.words.specs.Part.{Of}

-- the last mini-block whose running count is at or below k: with more than k places, the next one's is above
abbrev pub LastMini : List ℕ → ℕ → ℕ → Type 0
LastMini part k m = (m < 1024) × Of part (λ ps. (rank (64 * m) ps ≤ k) × (k < length ps → k < rank (64 * (m + 1)) ps))

-- mini-blocks from one up to another have no rows
abbrev pub Empty : List ℕ → ℕ → ℕ → Type 0
Empty part from to = (i : ℕ) → from ≤ i → i < to → word_at i part ≡ 0

-- the first mini-block from one on that has rows, and its 64 bits
abbrev pub FirstFull : List ℕ → ℕ → Option (ℕ × ℕ) → Type 0
FirstFull part from (Some (m, w)) = (from ≤ m) × (m < 1024) × Empty part from m × (w ≡ word_at m part) × (0 < w) × (w < 2 ^ 64)
FirstFull part from None = Empty part from 1024
