-- `sparse::next` meets its contract. Assumes nothing.
use mathlib.Core.Path.{◌≡◌, ◌∙◌}
use borrow.Author.Rules.{rules}
use Rattle.search.specs.Search.{index_of}
use Rattle.sparse.proofs.QuestionLaws.{index_is, next_there, next_none}
use Rattle.sparse.proofs.next.Goals as goal
use Rattle.sparse.proofs.next.Goals.{in-Ok, in-Ok-2}

pub returns-then-i-part : goal.returns-then-i-part
returns-then-i-part c =
    let i : c.match-binary_search.i ≡ index_of c.binary_search.result =
    elim c.match-binary_search.branch [ in-Ok w ↦ w.i-is ∙ index_is w.in-Ok.is | in-Ok-2 w ↦ w.i-is ∙ index_is w.in-Ok.is ] in
    record { inside = search rules; exact = λ ps d. next_there c.requires c.binary_search.ensures ps d i c.if-i-part.true c.value_at_idx.ensures }

pub returns : goal.returns
returns c =
    let i : c.match-binary_search.i ≡ index_of c.binary_search.result =
    elim c.match-binary_search.branch [ in-Ok w ↦ w.i-is ∙ index_is w.in-Ok.is | in-Ok-2 w ↦ w.i-is ∙ index_is w.in-Ok.is ] in
    record { inside = tt; exact = λ ps d. next_none c.requires c.binary_search.ensures ps d i c.if-i-part.false }
