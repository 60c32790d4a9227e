-- `sparse::lookup` meets its contract. Assumes nothing.
use mathlib.Core.Path.{sym, ap, ◌∙◌}
use mathlib.Core.Option.{some}
use Rattle.spec.proofs.Questions.{lookup_member, lookup_absent}
use Rattle.search.specs.Search.{index_of}
use Rattle.sparse.proofs.QuestionLaws.{rank_says, found_there, insert_absent}
use Rattle.sparse.proofs.lookup.Goals as goal

pub returns-in-Ok : goal.returns-in-Ok
returns-in-Ok c =
    λ ps d. let sparse = c.requires in
    let finds = c.binary_search.ensures in
    let is = c.in-Ok.is in
    ap some (rank_says sparse finds ps d (sym (ap index_of is)) c.to_u32.ensures) ∙ sym (lookup_member _ ps (sym (found_there sparse finds ps d is)))

pub returns-in-Err : goal.returns-in-Err
returns-in-Err c = λ ps d. sym (lookup_absent _ ps (sym (insert_absent c.requires c.binary_search.ensures ps d c.in-Err.is)))
