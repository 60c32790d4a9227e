use native.Mathlib.Omega.{arith}
use Rattle.rows.proofs.NeighbourLaws.{said_no, said_yes}
use Rattle.rows.proofs.neighbours.Goals as goal
use Rattle.rows.proofs.neighbours.Goals.{then-not-test, else-not-test}

pub loop-i-preserved : goal.loop-i-preserved
loop-i-preserved g c =
    let l = c.loop-i in
    let says = goal.F-post g c.args.test in
    elim c.if-not-test.branch [
      | then-not-test w ↦ rw w.ok-is (said_no says _ l.i (omega (arith, l.auto.i)) c.loop-i-test.true (rw w.if-not-test.true at c.test.ensures))
      | else-not-test w ↦ rw w.ok-is (said_yes says _ l.i (omega (arith, l.auto.i)) c.loop-i-test.true l.ok l.invariant (rw w.if-not-test.false at c.test.ensures))
    ]
