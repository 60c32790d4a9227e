-- `Index::lookup` meets its contract. Assumes nothing.
use Rattle.spec.proofs.Asking.{unbroken}
use Rattle.asking.proofs.IndexLaws.{lookup_out, lookup_at, lookup_nothing}
use Rattle.asking.proofs.index.Index.lookup.Goals as goal

pub returns-then-self-row : goal.returns-then-self-row
returns-then-self-row c = lookup_out _ _ _ c.args.self.bytes_fit _ c.if-self-row.true

pub returns-in_err-below : goal.returns-in_err-below
returns-in_err-below c =
    rw c.from_residual.ensures
    (lookup_nothing _ _ _ c.args.self.bytes_fit _ c.if-self-row.false _ c.part.ensures _ c.in_err-below.was c.lookup.ensures)

pub returns : goal.returns
returns c =
    rw c.rows_before.ensures
    (lookup_at _ _ _ c.args.self.bytes_fit _ c.if-self-row.false _ c.part.ensures _
    (unbroken _ _ _ c.args.self.unbroken).count _ c.in_ok-below.was c.lookup.ensures)
