-- `opening::open` meets its contract: nothing is written before every check has passed. Assumes nothing.
use mathlib.Core.Path.{sym, ap, ◌∙◌}
use native.Mathlib.Omega.{arith}
use Rattle.std.proofs.lemmas.Result.{err_from_is_err_and}
use Rattle.spec.specs.Answers.{opened}
use Rattle.opening.proofs.OpenLaws.{accepted, owes_refusal, owes_room, owes_index}
use Rattle.opening.proofs.open.Goals as goal

pub returns-in_err-record : goal.returns-in_err-record
returns-in_err-record c =
    let p = err_from_is_err_and c.from_residual.result c.from_residual.ensures.1 in
    rw (p.1, p.2) (owes_refusal _ _ _ (sym (ap opened c.in_err-record.was) ∙ c.judge.ensures))

pub returns-then-directory-block_count : goal.returns-then-directory-block_count
returns-then-directory-block_count c =
    owes_room _ _ _ (accepted _ _ (sym (ap opened c.in_ok-record.was) ∙ c.judge.ensures)).0 (omega (arith, c.block_count.ensures))

pub fill-requires-clause-accepts : goal.fill-requires-clause-accepts
fill-requires-clause-accepts c = (accepted _ _ (sym (ap opened c.in_ok-record.was) ∙ c.judge.ensures)).0

pub returns : goal.returns
returns c =
    let a = accepted _ _ (sym (ap opened c.in_ok-record.was) ∙ c.judge.ensures) in
    rw c.fill.ensures (owes_index _ _ _ a.0 _ a.1 (omega (arith, c.block_count.ensures)))
