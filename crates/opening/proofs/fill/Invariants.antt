-- `opening::fill` meets its contract: the runs of the entries left make of the directory what all runs make of it. Assumes nothing.
use lib.Seq.{sets}
use Rattle.spec.specs.Reading.{verdict}
use Rattle.spec.specs.Answers.{directory_in}
use Rattle.opening.proofs.FillLaws.{Filling}
use Rattle.opening.proofs.fill.Given as goal

abbrev pub invariant-loop-four : goal.invariant-loop-four
invariant-loop-four l =
    let all = sets l.initial.directory 0 (directory_in (verdict l.bytes)) in
    Filling l.initial.directory l.four-items l.row_count all l.directory l.block l.rows l.size l.four-index
