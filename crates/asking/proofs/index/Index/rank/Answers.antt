-- `Index::rank` meets its contract. Assumes nothing.
use Rattle.spec.proofs.Asking.{unbroken}
use Rattle.asking.proofs.IndexLaws.{rank_out, rank_in}
use Rattle.asking.proofs.index.Index.rank.Goals as goal

pub returns-then-self-row : goal.returns-then-self-row
returns-then-self-row c = rank_out _ _ _ c.args.self.bytes_fit _ c.if-self-row.true

pub returns : goal.returns
returns c =
    rw c.rows_before.ensures
    (rank_in _ _ _ c.args.self.bytes_fit _ c.if-self-row.false _ c.part.ensures (unbroken _ _ _ c.args.self.unbroken).count _ c.rank-below.ensures)
