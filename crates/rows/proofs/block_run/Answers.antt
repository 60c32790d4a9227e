-- `rows::block_run` meets its contract: the rows below the block's end are its run. Assumes nothing.
use native.Mathlib.Omega.{arith}
use Rattle.rows.proofs.RowLaws.{never_falls}
use Rattle.rows.proofs.RunLaws.{run_found}
use Rattle.rows.proofs.block_run.Goals as goal

pub run_end-requires : goal.run_end-requires
run_end-requires c = record { from_in_bounds = (c.requires.0, omega (arith, c.block_end.ensures)); never_falls = never_falls _ c.requires.1 }

pub returns : goal.returns
returns c =
    let p = c.requires in
    run_found _ _ _ _ p.1 (λ j. (c.type_inv.rows j).fits) p.0 c.block_end.ensures c.run_end.ensures
