-- What a search of a block's places answers.
use Rattle.std.specs.Prelude.{ℕ, ◌+◌, ◌*◌, ◌/◌, ◌≤◌, ◌<◌, ◌≡◌, true, cond, List, length, get_or, Result, Ok, Err}
use Rattle.spec.specs.Set.{rising, contains, rank}
use Rattle.spec.specs.Layout.{size}
use Rattle.spec.specs.Reading.{sparse_places}

-- the places that any bytes say, two bytes each
unfoldable pub places_said : List ℕ → List ℕ
places_said part = sparse_places (length part / 2) 0 part

-- where t is, or where it would go: at the number of places below it
abbrev pub answer : ℕ → List ℕ → Result ℕ ℕ
answer t ps = cond (contains t ps) (Ok (rank t ps)) (Err (rank t ps))

abbrev pub index_of : Result ℕ ℕ → ℕ
index_of (Ok i) = i
index_of (Err i) = i

-- the answer of the search of a part, counted from the start of the whole, which is n places before the part's
abbrev pub shifted : ℕ → Result ℕ ℕ → Result ℕ ℕ
shifted n (Ok i) = Ok (n + i)
shifted n (Err i) = Err (n + i)

-- every place before an index is below t
abbrev pub AllBelow : List ℕ → ℕ → ℕ → Type 0
AllBelow ps t i = (k : ℕ) → k < i → get_or ps k 0 < t

-- a search of any bytes from a cursor on: it gives an index of their places, or the end; of places that rise, of which those before
-- the cursor are below t, it gives the answer
pub record Finds (part : List ℕ) (t cursor : ℕ) (r : Result ℕ ℕ) : Type 0 where
  pub inside : index_of r ≤ length part / 2
  pub exact : rising 0 size (places_said part) ≡ true → AllBelow (places_said part) t cursor → r ≡ answer t (places_said part)

-- t is or would go among the places from a up to e: all before are below t, and all after above
pub record Near (ps : List ℕ) (t a e : ℕ) : Type 0 where
  pub before : AllBelow ps t a
  pub after : (k : ℕ) → e ≤ k → k < length ps → t < get_or ps k 0

-- what probing gives: of places that rise, t is or would go among those from left up to 2 left + 1
pub record Probed (part : List ℕ) (t left : ℕ) : Type 0 where
  pub inside : left ≤ length part / 2
  pub exact : rising 0 size (places_said part) ≡ true → Near (places_said part) t left (2 * left + 1)
