-- `lookups::never_fall` meets its contract. Assumes nothing.
use Rattle.std.proofs.Common.{◌∙◌, rules}
use Rattle.spec.proofs.Tests.{by_test}
use Rattle.batches.proofs.FlagLaws.{climb, fall}
use Rattle.batches.proofs.lookups.never_fall.Goals as goal

pub returns : goal.returns
returns c =
    by_test c.neighbours.result (λ e. e ∙ climb _ (λ k l. let s = (rw e at c.neighbours.ensures) k 0 l in search rules))
    (λ e. let f = rw e at c.neighbours.ensures in e ∙ fall _ f.0 f.1 (let s = f.2 0 in search rules))
