-- `one_shot::spots::find` meets its contract: where the entries left lead is where all lead. Assumes nothing.
use Rattle.spec.specs.Reading.{entries_of}
use Rattle.one_shot.specs.Spots.{Found}
use Rattle.one_shot.proofs.WalkLaws.{Leading}
use Rattle.one_shot.proofs.spots.find.Given as goal

abbrev pub invariant-loop-four : goal.invariant-loop-four
invariant-loop-four g l =
    let says = goal.F-post g l.test in
    Leading says l.four-items (Found says 0 l.start (entries_of l.bytes)) l.rows l.from l.four-index
