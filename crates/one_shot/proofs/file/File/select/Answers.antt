-- `File::select` meets its contract: the block of the rank answers. Assumes nothing.
use mathlib.Core.Path.{refl}
use Rattle.one_shot.proofs.AnswerLaws.{opens, entries_fit, rank_within, rank_upto, select_is}
use Rattle.one_shot.proofs.file.File.select.Goals as goal

pub of_rank-spot-requires : goal.of_rank-spot-requires
of_rank-spot-requires c = entries_fit _ _ c.args.self.bytes_fit c.args.self.accepted

pub overflow_sub-left : goal.overflow_sub-left
overflow_sub-left c = rank_upto _ _ c.args.self.bytes_fit c.args.self.accepted _ _ c.requires c.of_rank-spot.ensures

pub part-requires : goal.part-requires
part-requires c = rank_within _ _ c.args.self.bytes_fit c.args.self.accepted _ _ c.requires c.of_rank-spot.ensures

pub returns : goal.returns
returns c =
    λ h gs v.
    let o = opens _ _ c.args.self.bytes_fit c.args.self.accepted h gs v in
    select_is o _ _ _ _ c.requires c.of_rank-spot.ensures refl (λ ps x. c.select.ensures.exact ps (rw c.part.ensures x))
