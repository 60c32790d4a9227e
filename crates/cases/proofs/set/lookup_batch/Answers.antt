use mathlib.Core.Path.{sym, ◌∙◌}
use native.Mathlib.Omega.{arith}
use Rattle.cases.proofs.BatchLaws.{batching_hit, batching_miss, batching_all}
use Rattle.cases.proofs.set.lookup_batch.Goals.{then-contains, else-contains}
use Rattle.cases.proofs.set.lookup_batch.Goals as goal

pub loop-q-preserved : goal.loop-q-preserved
loop-q-preserved c =
    elim c.if-contains.branch [
      | then-contains w ↦
          rw (w.hits-is, w.ranks-is, w.n-is)
          (batching_hit c.loop-q.invariant _ c.loop-q-test.true (sym w.if-contains.true ∙ c.contains.ensures) w.rank.ensures)
      | else-contains w ↦
          rw (w.hits-is, w.ranks-is, w.n-is)
          (batching_miss c.loop-q.invariant c.loop-q-test.true (sym w.if-contains.false ∙ c.contains.ensures))
    ]

pub returns : goal.returns
returns c = batching_all c.loop-q.invariant c.loop-q-test.false (omega arith) (omega arith)
