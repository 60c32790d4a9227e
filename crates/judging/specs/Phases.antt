-- What the phases of judging a file answer, and what the verdict says.
use Rattle.std.specs.Prelude.{ℕ, ◌+◌, ◌-◌, Bool, ◌&&◌, cond, List, [], ◌∷◌, length, leb, ltb}
use Rattle.std.specs.Prelude.{Result, Ok, Err, Some, None}
use Rattle.std.specs.Prelude.{Option as Maybe}
use Rattle.std.proofs.Math.Option.{Option, none, some}
use Rattle.spec.specs.declared.Entry.{Entry}
use Rattle.spec.specs.declared.Record.{Record}
use Rattle.spec.specs.declared.Refusal.{Refusal}
use Rattle.spec.specs.declared.Refusal.TheVariants.{Rows, Header}
use Rattle.spec.specs.Reading as R
use Rattle.spec.specs.Reading.{limit, count_of_blocks, rows_at, part, ungroups, padded, entries_ok, data_sizes, Verdict, fault, holds, record_of}
use Rattle.spec.specs.Answers.{Said, value, refused}
use Rattle.judging.specs.declared.head.Head.{Head}
use Rattle.judging.specs.declared.entries.Totals.{Totals}

-- the verdict as an answer: its refusal, or the record
abbrev pub judged : Verdict → Said Record
judged (fault k) = refused k
judged (holds h gs) = value (record_of h gs)

-- 5: not ended, or padded; then 1
unfoldable pub head_says : List ℕ → Option R.Head → Result Head Refusal
head_says file none = Err Header
head_says file (some h) =
    cond (padded h file) (Err Header) (cond (ltb limit h.count) (Err Rows) (Ok (record { row_count = h.count; start = h.start })))

-- the row count of a file, which ends before the last two bytes
abbrev pub head_of : List ℕ → Result Head Refusal
head_of file = head_says file (ungroups 5 (part 0 (length file - 2) file))

-- an entry may stand behind those of blocks below `low`
abbrev pub is_entry : ℕ → ℕ → Entry → Bool
is_entry count low e = leb low e.number && ltb e.number (count_of_blocks count) && leb e.rows (rows_at count e.number)

-- the rows of all entries
unfoldable pub row_sum : List Entry → ℕ
row_sum [] = 0
row_sum (e ∷ es) = e.rows + row_sum es

-- entries behind those of blocks below `low`, with the rows and the data bytes of these: the sums, if they are right
unfoldable pub totals_from : ℕ → ℕ → ℕ → ℕ → List Entry → Maybe Totals
totals_from count low rows bytes es =
    cond (entries_ok count low es) (Some (record { rows = rows + row_sum es; size = bytes + data_sizes es })) None

abbrev pub totals : ℕ → List Entry → Maybe Totals
totals count es = totals_from count 0 0 0 es
