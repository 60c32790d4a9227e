-- `Index::rows_before` meets its contract. Assumes nothing.
use Rattle.asking.proofs.IndexLaws.{rows_there}
use Rattle.asking.proofs.index.Index.rows_before.Goals as goal

pub bounds-self-block : goal.bounds-self-block
bounds-self-block c = rows_there _ _ _ c.args.self.unbroken _ c.requires
