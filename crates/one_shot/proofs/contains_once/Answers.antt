-- `one_shot::contains_once` meets its contract: the verdict's refusal, or what the set says. Assumes nothing.
use mathlib.Core.Path.{ap, refl}
use Rattle.spec.specs.Set.{bit}
use Rattle.spec.specs.Answers.{value, say_contains, answered}
use Rattle.one_shot.proofs.OnceLaws.{owes_error, owes_set}
use Rattle.one_shot.proofs.contains_once.Goals as goal

pub returns-in_err-file : goal.returns-in_err-file
returns-in_err-file c = owes_error answered (λ e. refl) _ _ _ _ c.from_residual.ensures.1 (c.in_err-file.ensures {u = tt}).refusal

pub returns : goal.returns
returns c = rw (c.in_ok-file.ensures {u = tt}).is at (owes_set _ (say_contains c.args.row) _ _ c.in_ok-file.file.accepted (λ h gs v. ap (λ t. value (bit t)) (c.contains.ensures h gs v)))
