-- `File::part` meets its contract. Assumes nothing.
use mathlib.Core.Path.{refl}
use Rattle.spec.specs.Reading.{part}
use Rattle.one_shot.proofs.file.File.part.Goals as goal

pub returns : goal.returns
unfolding part
returns c = refl
