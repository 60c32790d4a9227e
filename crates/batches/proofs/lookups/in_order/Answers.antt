use Rattle.std.proofs.Common.{arith}
use Rattle.batches.proofs.HitLaws.{seeking_none, seeking_hit, seeking_miss, seeking_all}
use Rattle.batches.proofs.lookups.in_order.Goals as goal
use Rattle.batches.proofs.lookups.in_order.Goals.{in-Some, in_default}

pub loop-row-init : goal.loop-row-init
loop-row-init c = seeking_none _ _ _ _ _ _

pub loop-row-preserved : goal.loop-row-preserved
loop-row-preserved c =
    let l = c.loop-row.invariant in
    elim c.match-lookup.branch [
      | in-Some w ↦ rw (w.rows-is, w.ranks-is, w.n-is) (seeking_hit l (omega arith) c.lookup.ensures _ w.in-Some.is)
      | in_default w ↦ rw (w.rows-is, w.ranks-is, w.n-is) (seeking_miss l (omega arith) c.lookup.ensures w.in_default.is)
    ]

pub returns : goal.returns
returns c = seeking_all c.loop-row.invariant (omega arith) c.requires.room.0 c.requires.room.1
