-- `selects::run_end` meets its contract. Assumes nothing.
use Rattle.std.proofs.Common.{◌+◌}
use Rattle.batches.specs.Batches.{Run}
use Rattle.batches.proofs.selects.run_end.Given as goal

abbrev pub invariant-loop-n : goal.invariant-loop-n
invariant-loop-n l = Run l.ranks l.from l.end (l.from + l.n)
