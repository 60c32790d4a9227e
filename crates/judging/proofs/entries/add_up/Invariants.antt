-- `judging::entries::add_up` meets its contract: the entries left, on top of the sums so far, give what all of them give. Assumes nothing.
use mathlib.Core.List.{map}
use Rattle.spec.specs.Reading.{entry_in}
use Rattle.judging.specs.Phases.{totals}
use Rattle.judging.proofs.EntryLaws.{Adding}
use Rattle.judging.proofs.entries.add_up.Given as goal

abbrev pub invariant-loop-four : goal.invariant-loop-four
invariant-loop-four l = Adding l.table l.row_count (totals l.row_count (map entry_in l.table)) l.low l.rows l.size l.four-index
