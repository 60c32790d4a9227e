-- What reading a row count answers.
use Rattle.std.specs.Prelude.{Bool, true, false, List, ℕ}
use Rattle.std.proofs.Math.Option.{Option, none, some}
use Rattle.spec.specs.Reading.{Head, padded}
use Rattle.std.specs.Prelude.{Result, Ok, Err}
use Rattle.words.specs.declared.count.RowCount.{RowCount}
use Rattle.words.specs.declared.count.CountFault.{CountFault}
use Rattle.words.specs.declared.count.CountFault.TheVariants.{Padded, Unended}

abbrev pub unpadded : Bool → Head → Result RowCount CountFault
unpadded true h = Err Padded
unpadded false h = Ok (record { count = h.count; start = h.start })

-- the row count that was read from the front of bs: not ended, padded, or its value and its length
abbrev pub count_in : Option Head → List ℕ → Result RowCount CountFault
count_in none bs = Err Unended
count_in (some h) bs = unpadded (padded h bs) h
