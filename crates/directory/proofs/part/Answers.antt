-- `directory::part` meets its contract. Assumes nothing.
use Rattle.spec.specs.Reading.{part}
use Rattle.directory.proofs.PartLaws.{inside_back, inside_past, inside_part}
use Rattle.directory.proofs.part.Goals as goal

pub returns-then-to-from : goal.returns-then-to-from
returns-then-to-from c = inside_back _ _ _ c.if-to-from.true

pub returns-then-bytes-to : goal.returns-then-bytes-to
returns-then-bytes-to c = inside_past _ _ _ c.if-bytes-to.true

pub returns : goal.returns
unfolding part
returns c = inside_part _ _ _ c.if-to-from.false c.if-bytes-to.false
