use native.Mathlib.Omega.{arith}
use Rattle.spec.proofs.Content.{size_le}
use Rattle.one_shot.proofs.WalkLaws.{few_entries, leading_none, leads_none, leads_here, leads_on}
use Rattle.one_shot.proofs.spots.find.Goals as goal

pub loop-four-init : goal.loop-four-init
loop-four-init g c = leading_none (goal.F-post g c.args.test) _ _ _ (omega arith) c.table-four-items.ensures

pub overflow_add-to : goal.overflow_add-to
overflow_add-to g c =
    omega (
      arith,
      c.loop-four.invariant.short,
      c.data_size.ensures,
      size_le c.from_bytes-x.result.rows,
      few_entries _ _ (λ i. (c.type_inv.bytes i).fits) (omega (arith, c.requires.fits)) c.table-four-items.ensures,
    )

pub overflow_add-after : goal.overflow_add-after
overflow_add-after g c =
    omega (
      arith,
      c.loop-four.invariant.few,
      few_entries _ _ (λ i. (c.type_inv.bytes i).fits) (omega (arith, c.requires.fits)) c.table-four-items.ensures,
    )

pub returns-then-test : goal.returns-then-test
returns-then-test g c =
    leads_here c.loop-four.invariant c.from_bytes-x.result _ (omega arith) c.from_bytes-x.ensures c.data_size.ensures
    (rw c.if-test.true at c.test.ensures)

pub loop-four-preserved : goal.loop-four-preserved
loop-four-preserved g c =
    leads_on c.loop-four.invariant c.from_bytes-x.result _ (omega arith) c.from_bytes-x.ensures c.data_size.ensures (omega arith)
    (rw c.if-test.false at c.test.ensures)

pub returns : goal.returns
returns g c = leads_none c.loop-four.invariant (omega arith)
