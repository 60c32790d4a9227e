-- The member with a rank: it lies in the block that has the rank.
use Rattle.std.proofs.Common.{◌≡◌, ℕ, ◌+◌, ◌*◌, ◌%◌, ◌^◌, ◌<◌, List, get_or, ap, arith}
use Rattle.spec.specs.declared.Record.{Record}
use Rattle.spec.specs.Set.{select}
use Rattle.spec.specs.Layout.{rows_of}
use Rattle.spec.specs.Reading.{count_of_blocks, AreBytes, rows_before}
use Rattle.spec.proofs.Cut.{places_of}
use Rattle.spec.proofs.Splits.{rows_before_next, select_split}
use Rattle.spec.proofs.Directory.{given_well, word_rows, first_word, closing_rows}
use Rattle.words.specs.Part.{Holds, Of}
use Rattle.directory.specs.Parts.{part_of, Bracket}
use Rattle.asking.specs.Members.{Member}
use Rattle.directory.proofs.PartLaws.{part_holds}
use Rattle.directory.proofs.FindLaws.{climbs}

-- block b has the rank, `left` ranks on from the rows before it
pub is_member : (file directory : List ℕ) (rec : Record) → AreBytes file → (k b : ℕ) → k < rec.populated
    → Bracket directory (count_of_blocks rec.row_count) k b → (left : ℕ) → left < 2 ^ 32 → (left + get_or directory (2 * b) 0) % 2 ^ 32 ≡ k
    → (p : List ℕ) → p ≡ part_of file directory rec.data_start b → (place : ℕ) → Of p (λ ps. place ≡ select left ps)
    → Member file directory rec k (65536 * b + place)
is_member file directory rec y k b l found left small cut p e place exact h gs g =
    let count = rec.row_count in
    let w = given_well file directory rec h gs y g in
    let one = found.one in
    let before = word_rows file directory rec h gs y g b (omega arith) in
    let after = word_rows file directory rec h gs y g (b + 1) (omega arith) in
    let rows = rows_before_next count gs w b in
    let here =
    found.has (climbs file directory rec y h gs g) (omega (arith, first_word file directory rec h gs y g)) (omega (arith, closing_rows file directory rec h gs y g)) in
    let is : rows_before b gs + left ≡ k = omega arith in
    let holds : Holds p (places_of b gs) = rw e (part_holds file directory rec y h gs g b one) in
    omega (arith, exact (places_of b gs) holds, select_split count gs w b left (omega arith), ap (λ i. select i (rows_of gs)) is)
