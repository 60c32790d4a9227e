-- `words::entry::to_bytes` meets its contract: four stores make the four bytes. Assumes nothing.
use Rattle.spec.specs.Layout.{bytes_of}
use Rattle.words.proofs.entry.to_bytes.Goals as goal

pub returns : goal.returns
unfolding bytes_of
returns c = rw (c.put_u16-2.ensures, c.put_u16.ensures)
