-- `File::contains` meets its contract: the row's block answers. Assumes nothing.
use mathlib.Core.Path.{sym}
use Rattle.spec.proofs.Questions.{contains_past}
use Rattle.one_shot.proofs.AnswerLaws.{opens, rise, block_within, contains_is}
use Rattle.one_shot.proofs.file.File.contains.Goals as goal

pub returns-then-self-row : goal.returns-then-self-row
returns-then-self-row c =
    λ h gs v.
    sym (contains_past _ _ _ (rise (opens _ _ c.args.self.bytes_fit c.args.self.accepted h gs v)) _ c.if-self-row.true)

pub part-requires : goal.part-requires
part-requires c = block_within _ _ c.args.self.bytes_fit c.args.self.accepted _ _ c.of_block-spot.ensures

pub returns : goal.returns
returns c =
    λ h gs v.
    let o = opens _ _ c.args.self.bytes_fit c.args.self.accepted h gs v in
    contains_is o _ _ c.of_block-spot.ensures _ (λ ps x. c.contains.ensures ps (rw c.part.ensures x))
