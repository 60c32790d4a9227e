-- `File::of_block` meets its contract. Assumes nothing.
use Rattle.one_shot.proofs.AnswerLaws.{entries_fit}
use Rattle.one_shot.proofs.file.File.of_block.Goals as goal

pub of_block-requires : goal.of_block-requires
of_block-requires c = entries_fit _ _ c.args.self.bytes_fit c.args.self.accepted
