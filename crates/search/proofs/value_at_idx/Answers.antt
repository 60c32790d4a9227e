-- `search::value_at_idx` meets its contract. Assumes nothing.
use mathlib.Core.Path.{sym, ◌∙◌}
use Rattle.search.proofs.PlaceLaws.{place_at}
use Rattle.search.proofs.value_at_idx.Goals as goal

pub returns : goal.returns
returns c = c.u16_at.ensures ∙ sym (place_at c.args.part.now c.args.i c.requires)
