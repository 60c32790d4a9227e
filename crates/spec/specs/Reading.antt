-- Reading a file: the verdict of opening, and the record and the directory that opening gives.
use Rattle.std.specs.Prelude.{ℕ, zero, suc, ◌+◌, ◌-◌, ◌*◌, ◌/◌, ◌%◌, ◌≤◌, ◌<◌, min, ◌≡◌, Bool, true, not, ◌&&◌, cond, List, [], ◌∷◌, ◌++◌, length, take, drop, get_or, leb, ltb, eqb}
use Rattle.std.proofs.Math.Option.{Option, none, some}
use Rattle.spec.specs.declared.Entry.{Entry}
use Rattle.spec.specs.declared.Record.{Record}
use Rattle.spec.specs.Set.{bit, keep, rising, rank}
use Rattle.spec.specs.Layout.{size, dense, Block, rows_of}

-- ---- limits

-- 65,535 blocks of 65,536 rows
abbrev pub limit : ℕ
limit = 4294901760

-- what may be written: strictly increasing rows below a permitted row count
pub record Permitted (count : ℕ) (rows : List ℕ) : Type 0 where
  pub limited : count ≤ limit
  pub rises : rising 0 count rows ≡ true

-- B: the row count divided by 65,536, rounded up
abbrev pub count_of_blocks : ℕ → ℕ
count_of_blocks count = (count + 65535) / size

-- block b's number of rows, populated or not
abbrev pub rows_at : ℕ → ℕ → ℕ
rows_at count b = min size (count - b * size)

-- ---- bytes, numbers and parts

-- bytes are numbers below 256
abbrev pub AreBytes : List ℕ → Type 0
AreBytes bs = (i : ℕ) → get_or bs i 0 < 256

-- the number that little-endian bytes hold
unfoldable pub number_in : List ℕ → ℕ
number_in [] = 0
number_in (b ∷ bs) = b + 256 * number_in bs

-- the part from one index up to, not including, another
unfoldable pub part : ℕ → ℕ → List ℕ → List ℕ
part from to bs = take (to - from) (drop from bs)

-- ---- the row count

-- a row count, and how many bytes it takes, so that the data starts there
pub record Head : Type 0 where
  pub count : ℕ
  pub start : ℕ

-- a byte without 128 before the others
abbrev pub onto : ℕ → Option Head → Option Head
onto b none = none
onto b (some h) = some (record { count = b + 128 * h.count; start = suc h.start })

-- the row count at the front, if it ends within f bytes
unfoldable pub ungroups : ℕ → List ℕ → Option Head
ungroups zero bs = none
ungroups (suc f) [] = none
ungroups (suc f) (b ∷ bs) = cond (leb 128 b) (some (record { count = b - 128; start = 1 })) (onto b (ungroups f bs))

-- a form of two or more bytes that ends in 80
abbrev pub padded : Head → List ℕ → Bool
padded h bs = ltb 1 h.start && eqb (get_or bs (h.start - 1) 0) 128

-- ---- entries

-- four bytes as an entry: the count is stored one less than it is
unfoldable pub entry_in : List ℕ → Entry
entry_in bs = record { number = number_in (part 0 2 bs); rows = number_in (part 2 4 bs) + 1 }

-- e entries from an index on
unfoldable pub entries_at : ℕ → ℕ → List ℕ → List Entry
entries_at zero at file = []
entries_at (suc e) at file = entry_in (part at (at + 4) file) ∷ entries_at e (at + 4) file

-- block numbers increasing from `low` on and below B, no count above the block's number of rows
unfoldable pub entries_ok : ℕ → ℕ → List Entry → Bool
entries_ok count low [] = true
entries_ok count low (e ∷ es) =
    leb low e.number && ltb e.number (count_of_blocks count) && leb e.rows (rows_at count e.number)
    && entries_ok count (suc e.number) es

-- the data bytes that n rows in a block call for
abbrev pub size_of_data : ℕ → ℕ
size_of_data n = cond (dense n) 10240 (2 * n)

-- the same of all entries
unfoldable pub data_sizes : List Entry → ℕ
data_sizes [] = 0
data_sizes (e ∷ es) = size_of_data e.rows + data_sizes es

-- ---- contents

-- n places of a sparse block from an index on
unfoldable pub sparse_places : ℕ → ℕ → List ℕ → List ℕ
sparse_places zero at bs = []
sparse_places (suc n) at bs = number_in (part at (at + 2) bs) ∷ sparse_places n (at + 2) bs

-- the places of a word's f bits, of which bit 0 is place p
unfoldable pub bits : ℕ → ℕ → ℕ → List ℕ
bits zero p w = []
bits (suc f) p w = keep (eqb (w % 2) 1) p (bits f (suc p) (w / 2))

-- the word that mini-block m stores
abbrev pub word_at : ℕ → List ℕ → ℕ
word_at m bs = number_in (part (10 * m) (10 * m + 8) bs)

-- the running count that mini-block m stores
abbrev pub count_at : ℕ → List ℕ → ℕ
count_at m bs = number_in (part (10 * m + 8) (10 * m + 10) bs)

-- the places of f mini-blocks from the m-th on
unfoldable pub dense_places : ℕ → ℕ → List ℕ → List ℕ
dense_places zero m bs = []
dense_places (suc f) m bs = bits 64 (64 * m) (word_at m bs) ++ dense_places f (suc m) bs

-- the places that the data of a block of n rows say
unfoldable pub places_in : ℕ → List ℕ → List ℕ
places_in n bs = cond (dense n) (dense_places 1024 0 bs) (sparse_places n 0 bs)

-- f running counts from the m-th on are right
unfoldable pub counts_ok : ℕ → ℕ → List ℕ → List ℕ → Bool
counts_ok zero m ps bs = true
counts_ok (suc f) m ps bs = eqb (count_at m bs) (rank (64 * m) ps) && counts_ok f (suc m) ps bs

-- a block of n rows whose places end before `end`: places increasing, as many as the entry says, running counts right
unfoldable pub is_content : ℕ → ℕ → List ℕ → Bool
is_content n end bs =
    rising 0 end (places_in n bs) && eqb (length (places_in n bs)) n && cond (dense n) (counts_ok 1024 0 (places_in n bs) bs) true

-- the same of all blocks, whose data begin at an index
unfoldable pub contents_ok : ℕ → List Entry → ℕ → List ℕ → Bool
contents_ok count [] at file = true
contents_ok count (e ∷ es) at file =
    is_content e.rows (rows_at count e.number) (part at (at + size_of_data e.rows) file)
    && contents_ok count es (at + size_of_data e.rows) file

-- the blocks that entries and data say
unfoldable pub blocks_at : List Entry → ℕ → List ℕ → List Block
blocks_at [] at file = []
blocks_at (e ∷ es) at file =
    record { number = e.number; places = places_in e.rows (part at (at + size_of_data e.rows) file) }
    ∷ blocks_at es (at + size_of_data e.rows) file

-- ---- the verdict of opening: 5, 1, 6, 7, 8, or the row count and the blocks

pub data Verdict : Type 0 where
  fault : ℕ → Verdict
  holds : Head → List Block → Verdict

-- the last two bytes: the number of entries
abbrev pub entry_count : List ℕ → ℕ
entry_count file = number_in (part (length file - 2) (length file) file)

-- where the entries begin
abbrev pub entry_start : List ℕ → ℕ
entry_start file = length file - 2 - 4 * entry_count file

-- all entries of a file
abbrev pub entries_of : List ℕ → List Entry
entries_of file = entries_at (entry_count file) (entry_start file) file

-- 5: not ended, or padded; 1; 6: entries overlap the row count, or are at fault; 7; 8
unfoldable pub judge : List ℕ → Option Head → Verdict
judge file none = fault 5
judge file (some h) =
    cond (padded h file) (fault 5)
    (cond (ltb limit h.count) (fault 1)
    (cond (ltb (length file) (h.start + 4 * entry_count file + 2)) (fault 6)
    (cond (not (entries_ok h.count 0 (entries_of file))) (fault 6)
    (cond (not (eqb (entry_start file - h.start) (data_sizes (entries_of file)))) (fault 7)
    (cond (not (contents_ok h.count (entries_of file) h.start file)) (fault 8)
    (holds h (blocks_at (entries_of file) h.start file)))))))

-- the row count ends within five bytes and before the last two, so there are at least three
unfoldable pub verdict : List ℕ → Verdict
verdict file = judge file (ungroups 5 (part 0 (length file - 2) file))

-- ---- the record and the directory

-- row count, n, where the data starts
abbrev pub record_of : Head → List Block → Record
record_of h gs = record { row_count = h.count; populated = length (rows_of gs); data_start = h.start }

-- the populated rows in all blocks before block b
abbrev pub rows_before : ℕ → List Block → ℕ
rows_before b gs = rank (b * size) (rows_of gs)

-- the data bytes of all blocks before block b
unfoldable pub bytes_before : ℕ → List Block → ℕ
bytes_before b [] = 0
bytes_before b (g ∷ gs) = bit (ltb g.number b) * size_of_data (length g.places) + bytes_before b gs

-- the pairs of f blocks from the b-th on
unfoldable pub pairs : ℕ → ℕ → List Block → List ℕ
pairs zero b gs = []
pairs (suc f) b gs = rows_before b gs ∷ bytes_before b gs ∷ pairs f (suc b) gs

-- a pair for each block, empty ones too; the closing pair is that of block B
unfoldable pub directory_of : ℕ → List Block → List ℕ
directory_of count gs = pairs (suc (count_of_blocks count)) 0 gs

-- 2(B+1)
abbrev pub directory_length : ℕ → ℕ
directory_length count = 2 * (count_of_blocks count + 1)

-- opening gave the three together: the bytes are accepted, and record and directory are theirs; words past the directory are free
pub record Given (file directory : List ℕ) (rec : Record) (h : Head) (gs : List Block) : Type 0 where
  pub accepted : verdict file ≡ holds h gs
  pub record' : rec ≡ record_of h gs
  pub words : take (directory_length h.count) directory ≡ directory_of h.count gs
