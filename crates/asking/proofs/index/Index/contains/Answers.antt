-- `Index::contains` meets its contract. Assumes nothing.
use Rattle.asking.proofs.IndexLaws.{contains_out, contains_in}
use Rattle.asking.proofs.index.Index.contains.Goals as goal

pub returns-then-self-row : goal.returns-then-self-row
returns-then-self-row c = contains_out _ _ _ c.args.self.bytes_fit _ c.if-self-row.true

pub returns : goal.returns
returns c = contains_in _ _ _ c.args.self.bytes_fit _ c.if-self-row.false _ c.part-part.ensures _ c.contains.ensures
