-- `search::from_cursor` meets its contract. Assumes nothing.
use native.Mathlib.Omega.{arith}
use mathlib.Core.Path.{refl}
use Rattle.search.specs.Search.{places_said}
use Rattle.search.proofs.PlaceLaws.{length_places}
use Rattle.search.proofs.SearchLaws.{passed, finds_at, finds_end, finds_all}
use Rattle.search.proofs.from_cursor.Goals as goal

-- the cursor is at the end
pub returns-then-cursor-n : goal.returns-then-cursor-n
returns-then-cursor-n c = finds_end _ refl (λ rises known k l. known k (omega arith))

-- its place is not below the target
pub returns-then-target-p : goal.returns-then-target-p
returns-then-target-p c = finds_at _ _ _ (omega arith) c.value_at_idx-p.ensures c.if-target-p.true (λ rises known. known) c.answer_at.ensures

-- it is, and is the last
pub returns-then-next-n : goal.returns-then-next-n
returns-then-next-n c =
    let a = c.args in
    let n = length_places a.part.now in
    finds_end _ refl (λ rises known k l. passed (places_said a.part.now) rises a.cursor (omega arith) (omega arith) k (omega arith))

-- the next is not below the target
pub returns-then-target-q : goal.returns-then-target-q
returns-then-target-q c =
    let a = c.args in
    let n = length_places a.part.now in
    finds_at _ _ _ (omega arith) c.value_at_idx-q.ensures c.if-target-q.true
    (λ rises known. passed (places_said a.part.now) rises a.cursor (omega arith) (omega arith)) c.answer_at-then-target-q.ensures

pub returns : goal.returns
returns c = finds_all c.narrowed_search.ensures
