use Prim.Native.Nat.{◌+◌, ◌/◌}
use native.Mathlib.Omega.{arith}
use Rattle.rows.proofs.RowLaws.{between_up, between_down, between_end}
use Rattle.rows.proofs.halve.Goals as goal

pub loop-left-init : goal.loop-left-init
loop-left-init c = record { some = c.requires.le_few.0; within = c.requires.le_few.1; below = c.requires.le_few.2; above = c.requires.end_bound }

pub overflow_cast-rows : goal.overflow_cast-rows
overflow_cast-rows c = omega (arith, c.type_inv.rows (c.loop-left.base + c.loop-left.left / 2))

pub loop-left-preserved-then-rows-mid : goal.loop-left-preserved-then-rows-mid
loop-left-preserved-then-rows-mid c = between_up c.requires.never_falls c.loop-left.invariant (omega arith) c.if-rows-mid.true

pub loop-left-preserved : goal.loop-left-preserved
loop-left-preserved c = between_down c.requires.never_falls c.loop-left.invariant (omega arith) c.if-rows-mid.false

pub returns : goal.returns
returns c = between_end c.requires.never_falls c.loop-left.invariant (omega arith)
