-- A file that is accepted, and what is said of its set.
use Rattle.std.specs.Prelude.{◌≡◌, List, ℕ}
use Rattle.spec.specs.declared.Record.{Record}
use Rattle.spec.specs.Layout.{Block, rows_of}
use Rattle.spec.specs.Reading.{Head, holds, verdict}
use Rattle.spec.specs.Answers.{value}
use Rattle.judging.specs.Phases.{judged}

-- this is its record
abbrev pub Accepted : List ℕ → Record → Type 0
Accepted file rec = value rec ≡ judged (verdict file)

abbrev pub Says : List ℕ → (List ℕ → Type 0) → Type 0
Says file exact = (h : Head) (gs : List Block) → verdict file ≡ holds h gs → exact (rows_of gs)
