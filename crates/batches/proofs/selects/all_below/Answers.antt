use Rattle.std.proofs.Common.{arith}
use Rattle.batches.proofs.FlagLaws.{seen_start, seen_bad, seen_more, seen_end}
use Rattle.batches.proofs.selects.all_below.Goals as goal
use Rattle.batches.proofs.selects.all_below.Goals.{then-n-rank, else-n-rank}

pub loop-rank-init : goal.loop-rank-init
loop-rank-init c = seen_start _ _

pub loop-rank-preserved : goal.loop-rank-preserved
loop-rank-preserved c =
    let l = c.loop-rank in
    elim c.if-n-rank.branch [
      | then-n-rank w ↦ rw w.ok-is (seen_bad _ _ l.ok _ l.invariant (omega arith) w.if-n-rank.true)
      | else-n-rank w ↦ rw w.ok-is (seen_more _ _ l.ok _ l.invariant (omega arith) w.if-n-rank.false)
    ]

pub returns : goal.returns
returns c = seen_end _ _ _ _ c.loop-rank.invariant (omega arith)
