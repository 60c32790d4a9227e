-- `sparse::rank` meets its contract. Assumes nothing.
use mathlib.Core.Path.{◌∙◌}
use Rattle.sparse.proofs.QuestionLaws.{index_is, rank_says}
use Rattle.sparse.proofs.rank.Goals as goal
use Rattle.sparse.proofs.rank.Goals.{in-Ok, in-Ok-2}

pub returns : goal.returns
returns c =
    λ ps d. rank_says c.requires c.binary_search.ensures ps d
    (elim c.match-binary_search.branch [ in-Ok w ↦ w.i-is ∙ index_is w.in-Ok.is | in-Ok-2 w ↦ w.i-is ∙ index_is w.in-Ok.is ]) c.to_u32.ensures
