-- `judging::contents::all_ok` meets its contract: the blocks left decide the whole, and their data end inside the file. Assumes nothing.
use mathlib.Core.List.{map}
use Rattle.spec.specs.Reading.{entry_in, contents_ok}
use Rattle.judging.proofs.ContentLaws.{Checking}
use Rattle.judging.proofs.contents.all_ok.Given as goal

abbrev pub invariant-loop-four : goal.invariant-loop-four
invariant-loop-four l =
    Checking l.bytes l.head.row_count l.table (contents_ok l.head.row_count (map entry_in l.table) l.head.start l.bytes) l.from l.four-index
