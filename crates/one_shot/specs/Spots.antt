-- Where the entries of a file lead: to a block, or to the block of a rank.
use Rattle.std.specs.Prelude.{ℕ, ◌+◌, cond, List, [], ◌∷◌, ltb, eqb, ◌≡◌, Bool, MatchBool}
use Rattle.spec.specs.declared.Entry.{Entry}
use Rattle.spec.specs.Reading.{size_of_data}
use Rattle.one_shot.specs.declared.spots.Spot.{Spot}

-- block b, behind so many rows, with the data from `at` on
unfoldable pub spot_from : ℕ → ℕ → ℕ → List Entry → Spot
spot_from b rows at [] = record { number = b; rows = rows; from = at; to = at }
spot_from b rows at (e ∷ es) =
    cond (eqb e.number b) (record { number = b; rows = rows; from = at; to = at + size_of_data e.rows })
    (cond (ltb b e.number) (record { number = b; rows = rows; from = at; to = at }) (spot_from b (rows + e.rows) (at + size_of_data e.rows) es))

-- the block with rank k
unfoldable pub holder_from : ℕ → ℕ → ℕ → List Entry → Spot
holder_from k rows at [] = record { number = 0; rows = rows; from = at; to = at }
holder_from k rows at (e ∷ es) =
    cond (ltb k (rows + e.rows)) (record { number = e.number; rows = rows; from = at; to = at + size_of_data e.rows })
    (holder_from k (rows + e.rows) (at + size_of_data e.rows) es)

-- the first entry that a test takes, by its number and the rows up to and with it; behind all if it takes none
unfoldable pub Found : (ℕ → ℕ → Bool → Type 0) → ℕ → ℕ → List Entry → Spot → Type 0
Found says rows at [] s = s ≡ record { number = 0; rows = rows; from = at; to = at }
Found says rows at (e ∷ es) s =
    (b : Bool) × says e.number (rows + e.rows) b
    × MatchBool b (s ≡ record { number = e.number; rows = rows; from = at; to = at + size_of_data e.rows })
    (Found says (rows + e.rows) (at + size_of_data e.rows) es s)
