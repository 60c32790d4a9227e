-- `search::narrowed_search` meets its contract. Assumes nothing.
use Prim.Native.Nat.{◌+◌}
use native.Mathlib.Omega.{arith}
use Rattle.search.specs.Search.{places_said}
use Rattle.search.proofs.PlaceLaws.{length_places}
use Rattle.search.proofs.SearchLaws.{near_gap, part_finds}
use Rattle.search.proofs.narrowed_search.Goals as goal

pub returns : goal.returns
returns c =
    let bs = c.args.part.now in
    let m = c.args.cursor in
    part_finds bs c.args.target (m + 1) (m + 1 + c.args.gap) _ _ _ c.min-right.ensures (omega arith)
    (λ rises. near_gap (places_said bs) rises m (omega (arith, length_places bs)) c.args.gap (omega arith) (omega arith)) c.exponential_search.ensures
    c.shift.ensures
