use Prim.Native.Nat.{◌-◌}
use native.Mathlib.Omega.{arith}
use Rattle.rows.proofs.MeasureLaws.{measuring_start, measuring_more, measuring_end, size_twice}
use Rattle.rows.proofs.measure.Goals as goal

pub loop-i-init : goal.loop-i-init
loop-i-init c = measuring_start _

pub block_run-to-requires : goal.block_run-to-requires
block_run-to-requires c = (omega arith, c.requires)

pub overflow_sub-to : goal.overflow_sub-to
overflow_sub-to c = omega (arith, c.block_run-to.ensures.some)

pub overflow_add-data : goal.overflow_add-data
overflow_add-data c =
    let r = c.block_run-to.ensures in
    omega (arith, c.loop-i.invariant.few, r.some, r.within, c.data_size-data.ensures, size_twice (c.block_run-to.result - c.loop-i.i))

pub overflow_add-entries : goal.overflow_add-entries
overflow_add-entries c = omega (arith, c.loop-i.invariant.fewer)

pub loop-i-smaller : goal.loop-i-smaller
loop-i-smaller c = let r = c.block_run-to.ensures in omega (arith, r.some, r.within)

pub loop-i-preserved : goal.loop-i-preserved
loop-i-preserved c = measuring_more c.loop-i.invariant _ _ c.block_run-to.ensures c.data_size-data.ensures

pub returns : goal.returns
returns c = measuring_end c.loop-i.invariant (omega arith)
