-- What the steps of opening ask and leave.
use Rattle.std.specs.Prelude.{ℕ, zero, suc, ◌≡◌, List, [], ◌∷◌}
use Rattle.spec.specs.Layout.{Block}
use Rattle.spec.specs.Reading.{holds, verdict}

-- a file is accepted, and has so many rows
pub record Accepts (file : List ℕ) (count : ℕ) : Type 0 where
  pub start : ℕ
  pub blocks : List Block
  pub verdict' : verdict file ≡ holds (record { count = count; start = start }) blocks

-- the same pair, f times
unfoldable pub same : ℕ → ℕ → ℕ → List ℕ
same zero rows bytes = []
same (suc f) rows bytes = rows ∷ bytes ∷ same f rows bytes
