-- The file of a set, `file_of count rows`:
--
--   row count | data of each populated block | entries, four bytes each | number of entries
use Rattle.std.specs.Prelude.{ℕ, zero, suc, ◌+◌, ◌-◌, ◌*◌, ◌/◌, ◌%◌, Bool, true, false, cond, length, leb, ltb, eqb}
use mathlib.Core.List.{List, [], ◌∷◌, ◌++◌, map, flat_map}
use Rattle.spec.specs.declared.Entry.{Entry}
use Rattle.spec.specs.Set.{bit, contains, rank}

-- all numbers little-endian: n in w bytes
unfoldable pub bytes_of : ℕ → ℕ → List ℕ
bytes_of zero n = []
bytes_of (suc w) n = n % 256 ∷ bytes_of w (n / 256)

-- ---- row count

-- groups of 7 bits, lowest first, one per byte; the last byte has 128 added and no other has; shortest form, at most f + 1 bytes
unfoldable pub groups : ℕ → ℕ → List ℕ
groups zero n = (n % 128 + 128) ∷ []
groups (suc f) n = cond (ltb n 128) ((n + 128) ∷ []) (n % 128 ∷ groups f (n / 128))

-- ---- blocks

-- a block's number of rows
abbrev pub size : ℕ
size = 65536

-- a populated block: its number, and the places of its rows
pub record Block : Type 0 where
  pub number : ℕ
  pub places : List ℕ

-- place p of block b before the blocks gs, of which the first may be b itself
abbrev pub join : Bool → ℕ → ℕ → Block → List Block → List Block
join true b p g gs = record { number = b; places = p ∷ g.places } ∷ gs
join false b p g gs = record { number = b; places = p ∷ [] } ∷ g ∷ gs

-- the same, where there may be no block yet
abbrev pub push : ℕ → ℕ → List Block → List Block
push b p [] = record { number = b; places = p ∷ [] } ∷ []
push b p (g ∷ gs) = join (eqb b g.number) b p g gs

-- the populated blocks of a set: row r lies in block r / 65,536 at place r mod 65,536
unfoldable pub blocks : List ℕ → List Block
blocks [] = []
blocks (r ∷ rs) = push (r / size) (r % size) (blocks rs)

-- the rows of a block
abbrev pub rows_in : Block → List ℕ
rows_in g = map (λ p. g.number * size + p) g.places

-- the rows of blocks
unfoldable pub rows_of : List Block → List ℕ
rows_of gs = flat_map rows_in gs

-- ---- data

-- sparse: the places as 16-bit numbers, ascending
abbrev pub sparse_data : List ℕ → List ℕ
sparse_data ps = flat_map (bytes_of 2) ps

-- the number whose bit p, of f bits, is set when place a + p is in the set
unfoldable pub word_from : ℕ → ℕ → List ℕ → ℕ
word_from zero a ps = 0
word_from (suc f) a ps = bit (contains a ps) + 2 * word_from f (suc a) ps

-- the 64-bit word of mini-block m, with bit p set when place 64 m + p is in the set
abbrev pub word : ℕ → List ℕ → ℕ
word m ps = word_from 64 (64 * m) ps

-- a mini-block of 10 bytes: its word, then the number of block rows in earlier mini-blocks
unfoldable pub mini_block : ℕ → List ℕ → List ℕ
mini_block m ps = bytes_of 8 (word m ps) ++ bytes_of 2 (rank (64 * m) ps)

-- f mini-blocks from the m-th on
unfoldable pub mini_blocks : ℕ → ℕ → List ℕ → List ℕ
mini_blocks zero m ps = []
mini_blocks (suc f) m ps = mini_block m ps ++ mini_blocks f (suc m) ps

-- dense: 1,024 mini-blocks
abbrev pub dense_data : List ℕ → List ℕ
dense_data ps = mini_blocks 1024 0 ps

-- at most 5,119 rows are sparse, from 5,120 on they are dense
abbrev pub dense : ℕ → Bool
dense n = leb 5120 n

-- a block's data
unfoldable pub data_of : List ℕ → List ℕ
data_of ps = cond (dense (length ps)) (dense_data ps) (sparse_data ps)

-- the data of all blocks, in block order
unfoldable pub all_data : List Block → List ℕ
all_data gs = flat_map (λ g. data_of g.places) gs

-- ---- entries

-- an entry in four bytes: block number (2), rows in it minus one (2)
abbrev pub entry_bytes : Entry → List ℕ
entry_bytes e = bytes_of 2 e.number ++ bytes_of 2 (e.rows - 1)

-- the entry of a block
unfoldable pub entry_of : Block → List ℕ
entry_of g = entry_bytes (record { number = g.number; rows = length g.places })

-- the entries of all blocks
unfoldable pub all_entries : List Block → List ℕ
all_entries gs = flat_map entry_of gs

-- ---- the file

-- row count, data, entries, number of entries
unfoldable pub written : ℕ → List Block → List ℕ
written count gs = groups 4 count ++ (all_data gs ++ (all_entries gs ++ bytes_of 2 (length gs)))

-- the file of a row count and a set of rows
unfoldable pub file_of : ℕ → List ℕ → List ℕ
file_of count rows = written count (blocks rows)
