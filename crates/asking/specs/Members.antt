-- What single questions answer of what opening gave.
use Rattle.std.specs.Prelude.{◌≡◌, ℕ, List}
use Rattle.std.specs.Prelude.{Option as Maybe}
use Rattle.spec.specs.declared.Record.{Record}
use Rattle.spec.specs.Set.{lookup, select}
use Rattle.spec.specs.Layout.{Block, rows_of}
use Rattle.spec.specs.Reading.{Head, Given}
use Rattle.words.specs.Part.{placed}

-- what is said of the rows of the set, where opening gave all three together
abbrev pub Of : List ℕ → List ℕ → Record → (List ℕ → Type 0) → Type 0
Of file directory rec exact = (h : Head) (gs : List Block) → Given file directory rec h gs → exact (rows_of gs)

-- the member with exactly k members below it
abbrev pub Member : List ℕ → List ℕ → Record → ℕ → ℕ → Type 0
Member file directory rec k r = Of file directory rec (λ xs. r ≡ select k xs)

-- the rank of a member
abbrev pub Looked : List ℕ → List ℕ → Record → ℕ → Maybe ℕ → Type 0
Looked file directory rec d r = Of file directory rec (λ xs. placed r ≡ lookup d xs)
