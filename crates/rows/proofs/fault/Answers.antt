-- `rows::fault` meets its contract: rows that rise, the last below the row count, have no fault. Assumes nothing.
use Prim.Native.Nat.{ℕ, ◌+◌, ◌-◌, ◌<◌}
use mathlib.Core.Path.{sym, ap}
use native.Mathlib.Omega.{arith}
use lib.ListN.{length, get_or}
use Rattle.std.proofs.Common.{rules}
use Rattle.spec.specs.Answers.{value, unless}
use Rattle.rows.proofs.NeighbourLaws.{climbs_all}
use Rattle.rows.proofs.RowLaws.{ascending, no_fault}
use Rattle.rows.proofs.fault.Goals as goal

pub returns-then-is_none_or : goal.returns-then-is_none_or
returns-then-is_none_or c =
    let rows = c.args.rows.now in
    let up : (k : ℕ) → k + 1 < length rows → get_or rows k 0 < get_or rows (k + 1) 0 = λ k l. let s = c.if-neighbours.ensures k 0 l in search rules in
    let low : 0 < length rows → get_or rows (length rows - 1) 0 < c.args.row_count = λ l. let s = c.if-is_none_or.ensures in grind arith in
    ap (λ o. unless o (value tt)) (sym (no_fault c.args.row_count rows (climbs_all ascending rows up) low))
