-- `Index::part` meets its contract. Assumes nothing.
use Rattle.asking.proofs.IndexLaws.{words_there}
use Rattle.asking.proofs.index.Index.part.Goals as goal

pub part-requires : goal.part-requires
part-requires c = words_there _ _ _ c.args.self.unbroken _ c.requires
