-- `sparse::contains` meets its contract. Assumes nothing.
use mathlib.Core.Path.{◌∙◌}
use Rattle.sparse.proofs.QuestionLaws.{is_there}
use Rattle.sparse.proofs.contains.Goals as goal

pub returns : goal.returns
returns c = λ ps d. c.is_ok.ensures.value ∙ is_there c.requires c.binary_search.ensures ps d
