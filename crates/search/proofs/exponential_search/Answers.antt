-- `search::exponential_search` meets its contract. Assumes nothing.
use Prim.Native.Nat.{◌+◌, ◌*◌}
use native.Mathlib.Omega.{arith}
use Rattle.search.proofs.SearchLaws.{part_finds}
use Rattle.search.proofs.exponential_search.Goals as goal

pub returns : goal.returns
returns c =
    let probed = c.probe-left in
    part_finds c.args.part.now c.args.target probed.result (2 * probed.result + 1) _ _ _ c.min-right.ensures (omega arith)
    probed.ensures.exact c.binary_search.ensures c.shift.ensures
