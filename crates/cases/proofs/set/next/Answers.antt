use borrow.Author.Tests.{tests}
use Rattle.std.proofs.Common.{rules}
use Rattle.std.proofs.lemmas.Iterator.{YieldsList-from_slice}
use Rattle.std.proofs.lemmas.Iterator.Consumers.{YieldsList-from_copied, YieldsList-at}
use Rattle.std.proofs.lemmas.Iterator.Search.{find_from_yields_List}
use Rattle.cases.proofs.SetLaws.{next_find}
use Rattle.cases.proofs.set.next.Goals as goal

pub returns : goal.returns
returns c =
    next_find _ _ _
    (find_from_yields_List _ _ _ _ c.find.ensures.ran
    (YieldsList-from_copied (YieldsList-at c.copied.ensures.source (YieldsList-from_slice c.args.rows.now c.iter.ensures.rest))) (λ x b q k. search (rules, tests)))
