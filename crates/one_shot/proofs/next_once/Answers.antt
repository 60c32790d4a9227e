-- `one_shot::next_once` meets its contract: the verdict's refusal, or what the set says. Assumes nothing.
use mathlib.Core.Path.{refl}
use Rattle.spec.specs.Set.{next}
use Rattle.spec.specs.Answers.{say_next, found}
use Rattle.one_shot.proofs.OnceLaws.{owes_error, owes_found}
use Rattle.one_shot.proofs.next_once.Goals as goal

pub returns-in_err-file : goal.returns-in_err-file
returns-in_err-file c = owes_error found (λ e. refl) _ _ _ _ c.from_residual.ensures.1 (c.in_err-file.ensures {u = tt}).refusal

pub returns : goal.returns
returns c = rw (c.in_ok-file.ensures {u = tt}).is at (owes_found _ (say_next c.args.row) (next c.args.row) _ _ c.in_ok-file.file.accepted c.next.ensures (λ xs. refl))
