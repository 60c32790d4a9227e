-- `words::entry::from_bytes` meets its contract. Assumes nothing.
use Rattle.spec.specs.Reading.{entry_in}
use Rattle.words.proofs.entry.from_bytes.Goals as goal

pub returns : goal.returns
unfolding entry_in
returns c = cc
