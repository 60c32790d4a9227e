-- `contains` meets its contract: the bit of the place in the word of its mini-block.
use Rattle.std.proofs.Common.{◌∙◌, arith}
use Rattle.dense.proofs.DenseLaws.{contains_stored}
use Rattle.dense.proofs.contains.Goals as goal

pub returns : goal.returns
returns c =
    λ ps h. c.get_bit_at.ensures
    ∙ contains_stored c.told-part c.args.place (omega arith) c.read-word.ensures ps h
