-- `judging::entries::table` meets its contract. Assumes nothing.
use mathlib.Core.Path.{ap, ◌∙◌}
use mathlib.Core.List.{map}
use Rattle.spec.specs.Reading.{entry_in}
use Rattle.judging.proofs.TableLaws.{table_entries}
use Rattle.judging.proofs.entries.table.Goals as goal

pub returns : goal.returns
returns c = ap (map entry_in) c.as_chunks.ensures.front ∙ table_entries _ _ c.requires c.count.ensures
