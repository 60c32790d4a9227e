-- `one_shot::spots::of_rank` meets its contract: what the walk finds with its test is what the entries lead to. Assumes nothing.
use Rattle.std.proofs.Common.{rules}
use Rattle.one_shot.proofs.WalkLaws.{found_holder}
use Rattle.one_shot.proofs.spots.of_rank.Goals as goal

pub returns : goal.returns
returns c = found_holder _ _ (λ number after t s. search rules) 0 _ _ _ c.find.ensures
