-- `rank` meets its contract: the running count of the place's mini-block, and the bits below the place in its word.
use Rattle.std.proofs.Common.{◌+◌, ap, ◌∙◌, arith}
use Rattle.dense.proofs.DenseLaws.{rank_stored}
use Rattle.dense.proofs.rank.Goals as goal

pub returns : goal.returns
returns c =
    let x = c.mini_block-m in
    λ ps h. ap (λ n. x.result.rank + n) c.rank_u64.ensures ∙ rank_stored c.told-part c.args.place (omega arith) x.ensures ps h
