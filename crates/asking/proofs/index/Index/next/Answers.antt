-- `Index::next` meets its contract: where the block has no such place, the member at the rank of its end is the next. Assumes nothing.
use Rattle.asking.proofs.IndexLaws.{next_out, next_at, next_none, next_later}
use Rattle.asking.proofs.index.Index.next.Goals as goal

pub returns-then-self-row : goal.returns-then-self-row
returns-then-self-row c = next_out _ _ _ c.args.self.bytes_fit _ c.if-self-row.true

pub returns-in-Some : goal.returns-in-Some
returns-in-Some c = next_at _ _ _ c.args.self.bytes_fit _ c.if-self-row.false _ c.part-part.ensures _ c.next.ensures.exact _ c.in-Some.is

pub returns-then-self-end : goal.returns-then-self-end
returns-then-self-end c =
    next_none _ _ _ c.args.self.bytes_fit _ c.if-self-row.false _ c.part-part.ensures _ c.next.ensures.exact
    c.in_default.is (rw c.rows_before-end.ensures at c.if-self-end.true)

pub returns : goal.returns
returns c =
    next_later _ _ _ c.args.self.bytes_fit _ c.if-self-row.false _ c.part-part.ensures _ c.next.ensures.exact
    c.in_default.is (rw c.rows_before-end.ensures at c.if-self-end.false) _
    (rw c.rows_before-end.ensures at c.select.ensures)
