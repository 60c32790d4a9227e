-- `lookup_batch` meets its contract. Assumes nothing.
use Rattle.std.proofs.Common.{sym, ◌∙◌}
use Rattle.batches.proofs.FlagLaws.{never_falls}
use Rattle.batches.proofs.lookup_batch.Goals as goal

pub sorted-requires-clause-never_falls : goal.sorted-requires-clause-never_falls
sorted-requires-clause-never_falls c = never_falls 0 _ (sym c.never_fall.ensures ∙ c.if-never_fall.true)
