-- Rows to write: whether they rise, where those below a bound end, and the run of one block.
use Rattle.std.specs.Prelude.{ℕ, suc, ◌-◌, ◌/◌, ◌%◌, ◌≤◌, ◌<◌, Bool, true, ◌&&◌, List, [], ◌∷◌, map, leb, length, get_or, drop, ◌≡◌}
use Rattle.spec.specs.Set.{rising}
use Rattle.spec.specs.Layout.{size, blocks, all_data}
use Rattle.spec.specs.Reading.{part}

-- strictly increasing, from `low` on
unfoldable pub ascends : ℕ → List ℕ → Bool
ascends low [] = true
ascends low (x ∷ xs) = leb low x && ascends (suc x) xs

-- the rows before `to` are below `end`, and those from it on are not
pub record Below (rows : List ℕ) (end to : ℕ) : Type 0 where
  pub within : to ≤ length rows
  pub before : (j : ℕ) → j < to → get_or rows j 0 < end
  pub after : (j : ℕ) → to ≤ j → j < length rows → end ≤ get_or rows j 0

-- the blocks of the rows have so many data bytes, and there are so many of them
pub record Shaped (rows : List ℕ) (bytes entries : ℕ) : Type 0 where
  pub bytes' : bytes ≡ length (all_data (blocks rows))
  pub entries' : entries ≡ length (blocks rows)

-- the places of rows of one block
abbrev pub places : List ℕ → List ℕ
places rows = map (λ r. r % size) rows

-- the rows from i up to e are those of one block, the first of what is left
pub record Run (rows : List ℕ) (i e : ℕ) : Type 0 where
  pub some : i < e
  pub within : e ≤ length rows
  pub long : length (part i e rows) ≡ e - i
  pub rises : rising 0 size (places (part i e rows)) ≡ true
  pub is : blocks (drop i rows) ≡ record { number = get_or rows i 0 / size; places = places (part i e rows) } ∷ blocks (drop e rows)
