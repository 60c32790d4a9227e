-- `sparse::select` meets its contract. Assumes nothing.
use mathlib.Core.Path.{sym, ap, ◌∙◌}
use native.Mathlib.Omega.{arith}
use lib.ListN.{length, get_or}
use Rattle.spec.proofs.Questions.{select_past}
use Rattle.search.proofs.PlaceLaws.{length_places}
use Rattle.sparse.proofs.PlaceLaws.{held}
use Rattle.sparse.proofs.select.Goals as goal

pub returns-then-i-part : goal.returns-then-i-part
returns-then-i-part c =
    record { inside = omega arith; exact = λ ps d. c.value_at_idx.ensures ∙ ap (λ l. get_or l c.args.k 0) (held _ ps c.requires d) }

pub returns : goal.returns
returns c =
    record { inside = omega arith; exact = λ ps d. sym (select_past c.args.k ps (omega (arith, c.if-i-part.false, length_places c.args.part.now, ap length (held _ ps c.requires d)))) }
