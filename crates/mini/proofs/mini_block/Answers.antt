-- `mini::mini_block` meets its contract: the ten bytes are those of mini-block m.
use mathlib.Core.Path.{ap, ◌∙◌}
use mathlib.Core.List.{[]}
use lib.ListN.{get_or}
use Rattle.mini.specs.Mini.{mini_in}
use Rattle.mini.proofs.MiniLaws.{mini_chunk, mini_at}
use Rattle.mini.proofs.mini_block.Goals as goal

pub returns : goal.returns
returns c =
    let a = c.args in
    let ten = ap (λ l. get_or l a.m []) c.as_chunks.ensures.front ∙ mini_chunk a.part.now a.m c.requires.0 c.requires.1 in
    mini_at a.part.now a.m c.from_bytes.result (c.from_bytes.ensures ∙ ap mini_in ten)
