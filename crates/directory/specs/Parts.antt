-- The part of a block by the directory's offsets, and what finding the block of a rank says.
use Rattle.std.specs.Prelude.{ℕ, ◌+◌, ◌*◌, ◌≤◌, ◌<◌, ◌&&◌, cond, List, [], length, get_or, leb}
use Rattle.spec.specs.Reading.{part}

-- the part from one index to another, where they are in order and inside the file; otherwise none
unfoldable pub inside : ℕ → ℕ → List ℕ → List ℕ
inside from to file = cond (leb from to && leb to (length file)) (part from to file) []

-- the data of block b, whose offsets the directory counts from where the data start
abbrev pub part_of : List ℕ → List ℕ → ℕ → ℕ → List ℕ
part_of file directory start b = inside (start + get_or directory (2 * b + 1) 0) (start + get_or directory (2 * b + 3) 0) file

-- the rows before each of n blocks, and in all of them, never fall
abbrev pub Climbs : List ℕ → ℕ → Type 0
Climbs directory n = (i j : ℕ) → i ≤ j → j ≤ n → get_or directory (2 * i) 0 ≤ get_or directory (2 * j) 0

-- one of n blocks; if their rows never fall, and rank k is in one of them, then in this one
pub record Bracket (directory : List ℕ) (n k b : ℕ) : Type 0 where
  pub one : b < n
  pub has : Climbs directory n → get_or directory 0 0 ≤ k → k < get_or directory (2 * n) 0 → (get_or directory (2 * b) 0 ≤ k) × (k < get_or directory (2 * (b + 1)) 0)
