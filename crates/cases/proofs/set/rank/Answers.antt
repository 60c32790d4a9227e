use mathlib.Core.Path.{◌∙◌}
use borrow.Author.Tests.{tests}
use Rattle.std.proofs.Common.{rules}
use Rattle.std.proofs.lemmas.Iterator.{YieldsList-from_slice}
use Rattle.std.proofs.lemmas.Iterator.Consumers.{count_from_yields_List, YieldsList-from_filter, YieldsList-at}
use Rattle.cases.proofs.SetLaws.{rank_filter}
use Rattle.cases.proofs.set.rank.Goals as goal

pub returns : goal.returns
returns c =
    count_from_yields_List _ _ c.count.ensures.ran
    (YieldsList-from_filter _ _ (YieldsList-at c.filter.ensures.source (YieldsList-from_slice c.args.rows.now c.iter.ensures.rest)) c.filter.ensures.closure (λ x b q k. search (rules, tests)))
    ∙ rank_filter _ _
