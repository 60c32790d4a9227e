-- `one_shot::select_once` meets its contract: the verdict's refusal, or what the set says. Assumes nothing.
use mathlib.Core.Path.{refl}
use Rattle.spec.specs.Answers.{numbered}
use Rattle.one_shot.proofs.OnceLaws.{owes_error, select_out, select_in}
use Rattle.one_shot.proofs.select_once.Goals as goal

pub returns-in_err-file : goal.returns-in_err-file
returns-in_err-file c = owes_error numbered (λ e. refl) _ _ _ _ c.from_residual.ensures.1 (c.in_err-file.ensures {u = tt}).refusal

pub returns-then-file-rank : goal.returns-then-file-rank
returns-then-file-rank c = rw (c.in_ok-file.ensures {u = tt}).is at (select_out _ _ _ c.in_ok-file.file.accepted c.if-file-rank.true)

pub returns : goal.returns
returns c = rw (c.in_ok-file.ensures {u = tt}).is at (select_in _ _ _ c.in_ok-file.file.accepted c.if-file-rank.false _ c.select.ensures)
