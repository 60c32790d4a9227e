-- Document 01's cases P1 to P12 in one table under one statement, P2 as opened, and files at fault: computed.
use Prim.Native.Nat.{ℕ}
use mathlib.Core.Path.{◌≡◌, refl}
use mathlib.Core.Bool.{false}
use mathlib.Core.List.{List, [], ◌∷◌, flat_map}
use Rattle.spec.specs.declared.Record.{Record}
use Rattle.spec.specs.Set.{rising, contains, rank, next, hits, ranks}
use Rattle.spec.specs.Layout.{Block, bytes_of, groups, blocks, rows_of, word_from, mini_block, mini_blocks, data_of, all_data, entry_of, all_entries, written, file_of}
use Rattle.spec.specs.Reading.{Head, number_in, part, ungroups, entry_in, entries_at, entries_ok, data_sizes, sparse_places, places_in, is_content, contents_ok, blocks_at, Verdict, fault, holds, judge, verdict, bytes_before, pairs, directory_of, Given}
use Rattle.spec.specs.Answers.{Said, value, nothing, refused, say_rank, say_select, say_next, row_fault, say_write, once, broken}

pub data Case : Type 0 where
  writes : ℕ → List ℕ → List ℕ → Case
  counts : ℕ → List ℕ → Case
  says : List ℕ → (List ℕ → Said ℕ) → Said ℕ → Case
  batch : List ℕ → List ℕ → List ℕ → List ℕ → Case
  refuses : ℕ → List ℕ → ℕ → Case

-- the set of an accepted file
abbrev pub set_in : Verdict → List ℕ
set_in (fault k) = []
set_in (holds h gs) = rows_of gs

-- rows of a row count, and their file; a row count, and its bytes; a file, a question, and the answer; a file, questions, and the
-- rows and the ranks of the hits; rows of a row count, and writing's refusal into 100 bytes
abbrev pub Right : Case → Type 0
Right (writes count rows file) = file_of count rows ≡ file
Right (counts count bs) = groups 4 count ≡ bs
Right (says file question answer) = once file question ≡ answer
Right (batch file qs rs ks) = (hits (set_in (verdict file)) qs ≡ rs) × (ranks (set_in (verdict file)) rs ≡ ks)
Right (refuses count rows k) = say_write count rows 100 ≡ refused k

abbrev pub Every : List Case → Type 0
Every [] = Unit {0}
Every (c ∷ cs) = Right c × Every cs

abbrev pub p2 : List ℕ
p2 = 0x8A ∷ 0x01 ∷ 0x00 ∷ 0x05 ∷ 0x00 ∷ 0x00 ∷ 0x00 ∷ 0x01 ∷ 0x00 ∷ 0x01 ∷ 0x00 ∷ []

abbrev pub table : List Case
table =
    writes 300 [] (0x2C ∷ 0x82 ∷ 0x00 ∷ 0x00 ∷ [])
    ∷ writes 10 (1 ∷ 5 ∷ []) p2
    ∷ writes 65537 (65536 ∷ []) (0x01 ∷ 0x00 ∷ 0x84 ∷ 0x00 ∷ 0x00 ∷ 0x01 ∷ 0x00 ∷ 0x00 ∷ 0x00 ∷ 0x01 ∷ 0x00 ∷ [])
    ∷ counts 4294901760 (0x00 ∷ 0x00 ∷ 0x7C ∷ 0x7F ∷ 0x8F ∷ [])
    ∷ says p2 (say_rank 5) (value 1)
    ∷ says p2 (say_rank 10) (value 2)
    ∷ says p2 (say_select 1) (value 5)
    ∷ says p2 (say_next 6) nothing
    ∷ batch p2 (5 ∷ 5 ∷ 1 ∷ 9 ∷ []) (5 ∷ 5 ∷ 1 ∷ []) (1 ∷ 1 ∷ 0 ∷ [])
    ∷ says (0x2C ∷ 0x02 ∷ 0x80 ∷ 0x00 ∷ 0x00 ∷ []) (say_rank 0) (refused 5)
    ∷ refuses 10 (4 ∷ 4 ∷ []) 2
    ∷ refuses 10 (10 ∷ []) 3
    ∷ []

pub cases : Every table
unfolding flat_map rising contains rank next hits bytes_of groups blocks rows_of word_from mini_block mini_blocks data_of all_data entry_of all_entries written file_of number_in part ungroups entry_in entries_at entries_ok data_sizes sparse_places places_in is_content contents_ok blocks_at judge verdict row_fault say_write once
cases = (refl, (refl, (refl, (refl, (refl, (refl, (refl, (refl, ((refl, refl), (refl, (refl, (refl, tt))))))))))))

-- ---- P2, opened

abbrev pub directory : List ℕ
directory = 0 ∷ 0 ∷ 2 ∷ 4 ∷ []

abbrev pub rec : Record
rec = record { row_count = 10; populated = 2; data_start = 1 }

abbrev pub head : Head
head = record { count = 10; start = 1 }

abbrev pub block : Block
block = record { number = 0; places = 1 ∷ 5 ∷ [] }

pub p2_accepted : verdict p2 ≡ holds head (block ∷ [])
unfolding flat_map rising rank number_in part ungroups entry_in entries_at entries_ok data_sizes sparse_places places_in is_content contents_ok blocks_at judge verdict
p2_accepted = refl

pub p2_given : Given p2 directory rec head (block ∷ [])
unfolding flat_map rank rows_of bytes_before pairs directory_of
p2_given = record { accepted = p2_accepted; record' = refl; words = refl }

pub p2_unbroken : broken p2 directory rec ≡ false
unfolding broken
p2_unbroken = refl

pub p2_once : (question : List ℕ → Said ℕ) → once p2 question ≡ question (1 ∷ 5 ∷ [])
unfolding once flat_map rows_of
p2_once question = rw p2_accepted

-- ---- the smallest files that show each refusal of opening, and where two faults meet, the one that comes first

pub data Fault : Type 0 where
  gives : ℕ → List ℕ → Fault

abbrev pub EveryFault : List Fault → Type 0
EveryFault [] = Unit {0}
EveryFault (gives k file ∷ fs) = (verdict file ≡ fault k) × EveryFault fs

abbrev pub faults : List Fault
faults =
    -- under 3 bytes; not ended before the last two; not ended within five bytes; padded
    gives 5 (0x80 ∷ 0x00 ∷ [])
    ∷ gives 5 (0x0A ∷ 0x80 ∷ 0x80 ∷ [])
    ∷ gives 5 (0x00 ∷ 0x00 ∷ 0x00 ∷ 0x00 ∷ 0x00 ∷ 0x81 ∷ 0x00 ∷ 0x00 ∷ [])
    ∷ gives 5 (0x0A ∷ 0x80 ∷ 0x00 ∷ 0x00 ∷ [])
    -- row count 4,294,901,761; past 32 bits
    ∷ gives 1 (0x01 ∷ 0x00 ∷ 0x7C ∷ 0x7F ∷ 0x8F ∷ 0x00 ∷ 0x00 ∷ [])
    ∷ gives 1 (0x00 ∷ 0x00 ∷ 0x00 ∷ 0x00 ∷ 0xFF ∷ 0x00 ∷ 0x00 ∷ [])
    -- above the limit, with an entry that overlaps the row count
    ∷ gives 1 (0x01 ∷ 0x00 ∷ 0x7C ∷ 0x7F ∷ 0x8F ∷ 0x01 ∷ 0x00 ∷ [])
    -- an entry that overlaps the row count, by a byte that would be no fault of the entry; a block number at B; one that does not increase; 11 rows of 10
    ∷ gives 6 (0x00 ∷ 0x00 ∷ 0x7C ∷ 0x7F ∷ 0x8F ∷ 0x00 ∷ 0x00 ∷ 0x00 ∷ 0x01 ∷ 0x00 ∷ [])
    ∷ gives 6 (0x8A ∷ 0x00 ∷ 0x00 ∷ 0x01 ∷ 0x00 ∷ 0x00 ∷ 0x00 ∷ 0x01 ∷ 0x00 ∷ [])
    ∷ gives 6 (0x8A ∷ 0x01 ∷ 0x00 ∷ 0x02 ∷ 0x00 ∷ 0x00 ∷ 0x00 ∷ 0x00 ∷ 0x00 ∷ 0x00 ∷ 0x00 ∷ 0x00 ∷ 0x00 ∷ 0x02 ∷ 0x00 ∷ [])
    ∷ gives 6 (0x81 ∷ 0x00 ∷ 0x00 ∷ 0x01 ∷ 0x00 ∷ 0x00 ∷ 0x00 ∷ 0x01 ∷ 0x00 ∷ 0x01 ∷ 0x00 ∷ [])
    -- a block number at B, with no data for it
    ∷ gives 6 (0x8A ∷ 0x01 ∷ 0x00 ∷ 0x00 ∷ 0x00 ∷ 0x01 ∷ 0x00 ∷ [])
    -- a byte too many; a byte too few, of places that do not increase
    ∷ gives 7 (0x8A ∷ 0x07 ∷ 0x00 ∷ 0x00 ∷ [])
    ∷ gives 7 (0x8A ∷ 0x05 ∷ 0x00 ∷ 0x05 ∷ 0x00 ∷ 0x00 ∷ 0x01 ∷ 0x00 ∷ 0x01 ∷ 0x00 ∷ [])
    -- places that do not increase; a row at the row count; a 6 in a later block comes before this 8
    ∷ gives 8 (0x8A ∷ 0x05 ∷ 0x00 ∷ 0x05 ∷ 0x00 ∷ 0x00 ∷ 0x00 ∷ 0x01 ∷ 0x00 ∷ 0x01 ∷ 0x00 ∷ [])
    ∷ gives 8 (0x8A ∷ 0x0A ∷ 0x00 ∷ 0x00 ∷ 0x00 ∷ 0x00 ∷ 0x00 ∷ 0x01 ∷ 0x00 ∷ [])
    ∷ gives 6 (0x8A ∷ 0x0A ∷ 0x00 ∷ 0x00 ∷ 0x00 ∷ 0x00 ∷ 0x00 ∷ 0x00 ∷ 0x00 ∷ 0x01 ∷ 0x00 ∷ 0x00 ∷ 0x00 ∷ 0x02 ∷ 0x00 ∷ [])
    ∷ []

pub faulty : EveryFault faults
unfolding flat_map rising rank number_in part ungroups entry_in entries_at entries_ok data_sizes sparse_places places_in is_content contents_ok blocks_at judge verdict
faulty = (refl, (refl, (refl, (refl, (refl, (refl, (refl, (refl, (refl, (refl, (refl, (refl, (refl, (refl, (refl, (refl, (refl, tt)))))))))))))))))
