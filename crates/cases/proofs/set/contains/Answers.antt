use Rattle.cases.proofs.SetLaws.{contains_any}
use mathlib.Core.Path.{◌∙◌}
use Rattle.cases.proofs.set.contains.Goals as goal

pub returns : goal.returns
returns c = c.contains.ensures.value ∙ contains_any _ _
