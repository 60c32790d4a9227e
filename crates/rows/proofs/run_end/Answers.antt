use Prim.Native.Nat.{◌+◌}
use native.Mathlib.Omega.{arith}
use Rattle.rows.proofs.run_end.Goals as goal

pub loop-step-init : goal.loop-step-init
loop-step-init c = record { inside = c.requires.from_in_bounds.0; below = c.requires.from_in_bounds.1; some = omega arith }

pub overflow_cast-rows : goal.overflow_cast-rows
overflow_cast-rows c = omega (arith, c.type_inv.rows (c.loop-step.at + c.loop-step.step))

pub halve-requires : goal.halve-requires
halve-requires c =
    let g = c.loop-step.invariant in
    record { le_few = (g.some, omega arith, g.below); end_bound = (λ l. omega (arith, c.if-end-rows.true)); never_falls = c.requires.never_falls }

pub returns-then-end-rows : goal.returns-then-end-rows
returns-then-end-rows c = c.halve.ensures

pub loop-step-preserved : goal.loop-step-preserved
loop-step-preserved c = record { inside = omega arith; below = c.if-end-rows.false; some = omega arith }

pub halve-requires-2 : goal.halve-requires-2
halve-requires-2 c =
    let g = c.loop-step.invariant in
    record { le_few = (omega (arith, g.inside), omega (arith, g.inside), g.below); end_bound = (λ l. absurd (omega (arith, g.inside))); never_falls = c.requires.never_falls }

pub returns : goal.returns
returns c = c.halve-2.ensures
