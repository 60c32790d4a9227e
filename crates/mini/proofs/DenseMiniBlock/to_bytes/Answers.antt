-- `DenseMiniBlock::to_bytes` meets its contract: the ten stores are written out.
use mathlib.Core.Path.{ap, ◌∙◌}
use lib.Seq.{sets}
use Rattle.spec.specs.Layout.{bytes_of}
use Rattle.mini.proofs.DenseMiniBlock.to_bytes.Goals as goal

pub returns : goal.returns
unfolding bytes_of
returns c =
    let count = c.args.self.rank in
    c.put_u16.ensures ∙ ap (λ l. sets l 8 (bytes_of 2 count)) c.write.ensures
