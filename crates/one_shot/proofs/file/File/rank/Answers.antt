-- `File::rank` meets its contract: the rows before the row's block, and the block's. Assumes nothing.
use mathlib.Core.Path.{sym, ◌∙◌}
use native.Mathlib.Omega.{arith}
use Rattle.spec.proofs.Questions.{rank_all}
use Rattle.one_shot.proofs.AnswerLaws.{opens, rise, populated', block_within, rank_is, rank_small}
use Rattle.one_shot.proofs.file.File.rank.Goals as goal

pub returns-then-self-row : goal.returns-then-self-row
returns-then-self-row c =
    λ h gs v. let o = opens _ _ c.args.self.bytes_fit c.args.self.accepted h gs v in
    populated' o ∙ sym (rank_all _ _ _ (rise o) _ c.if-self-row.true)

pub part-requires : goal.part-requires
part-requires c = block_within _ _ c.args.self.bytes_fit c.args.self.accepted _ _ c.of_block-spot.ensures

pub returns : goal.returns
returns c =
    λ h gs v.
    let o = opens _ _ c.args.self.bytes_fit c.args.self.accepted h gs v in
    rank_is o _ _ c.of_block-spot.ensures _ (λ ps x. c.rank-below.ensures ps (rw c.part.ensures x))

pub overflow_add-result : goal.overflow_add-result
overflow_add-result c =
    omega (arith, rank_small _ _ c.args.self.bytes_fit c.args.self.accepted _ _ c.of_block-spot.ensures _ (λ ps x. c.rank-below.ensures ps (rw c.part.ensures x)))

pub overflow_cast-result-2 : goal.overflow_cast-result-2
overflow_cast-result-2 c =
    omega (arith, rank_small _ _ c.args.self.bytes_fit c.args.self.accepted _ _ c.of_block-spot.ensures _ (λ ps x. c.rank-below.ensures ps (rw c.part.ensures x)))
