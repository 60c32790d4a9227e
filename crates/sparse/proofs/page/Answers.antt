use native.Mathlib.Omega.{arith}
use Rattle.sparse.proofs.PageLaws.{list_none, list_more, list_end, list_short}
use Rattle.sparse.proofs.page.Goals as goal

pub returns-then-places-start : goal.returns-then-places-start
returns-then-places-start c = list_short _ _ _ _ c.requires.is_sparse (omega arith)

pub returns-then-places-start-2 : goal.returns-then-places-start-2
returns-then-places-start-2 c = list_short _ _ _ _ c.requires.is_sparse (omega arith)

pub loop-j-init : goal.loop-j-init
loop-j-init c = list_none _ _ _ _

pub loop-j-preserved : goal.loop-j-preserved
loop-j-preserved c =
    let l = c.loop-j.invariant in
    list_more l c.value_at_idx.ensures (omega arith) (omega (arith, l.long))

pub shape_of-out : goal.shape_of-out
shape_of-out c = c.loop-j.invariant.long

pub returns : goal.returns
returns c =
    let l = c.loop-j.invariant in
    list_end l c.requires.is_sparse (omega (arith, l.long))
