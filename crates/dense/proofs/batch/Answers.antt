use Rattle.std.proofs.Common.{[], refl, arith}
use Rattle.words.proofs.FillLaws.{filling_none}
use Rattle.dense.proofs.BatchLaws.{asking_hit, asking_miss, asking_all}
use Rattle.dense.proofs.batch.Goals as goal
use Rattle.dense.proofs.batch.Goals.{in-Some, in_default}

pub loop-row-init : goal.loop-row-init
loop-row-init c = record { filled = λ ps. filling_none _ _ _ _ _ _ }

-- a question is a row of the block
pub overflow_sub-row : goal.overflow_sub-row
overflow_sub-row c = omega (arith, c.requires.never_falls.1 c.loop-row.row-index c.loop-row-test.true)

pub overflow_cast-row : goal.overflow_cast-row
overflow_cast-row c = omega (arith, c.requires.never_falls.1 c.loop-row.row-index c.loop-row-test.true)

pub offset_bounds-rows-n : goal.offset_bounds-rows-n
offset_bounds-rows-n c = omega (arith, c.loop-row.invariant.filled [])

pub bounds-rows-n : goal.bounds-rows-n
bounds-rows-n c = omega (arith, c.loop-row.invariant.filled [])

pub offset_bounds-ranks-n : goal.offset_bounds-ranks-n
offset_bounds-ranks-n c = omega (arith, c.loop-row.invariant.filled [])

pub bounds-ranks-n : goal.bounds-ranks-n
bounds-ranks-n c = omega (arith, c.loop-row.invariant.filled [])

pub overflow_add-n : goal.overflow_add-n
overflow_add-n c = omega (arith, c.loop-row.invariant.filled [])

pub loop-row-preserved : goal.loop-row-preserved
loop-row-preserved c = elim c.match-lookup.branch [
  | in-Some w ↦ rw (w.rows-is, w.ranks-is, w.n-is) (asking_hit c.loop-row.invariant c.requires.never_falls.1 (omega arith) c.lookup.ensures _ _ w.in-Some.is refl)
  | in_default w ↦ rw (w.rows-is, w.ranks-is, w.n-is) (asking_miss c.loop-row.invariant c.requires.never_falls.1 (omega arith) c.lookup.ensures w.in_default.is)
]

pub shape_of-rows : goal.shape_of-rows
shape_of-rows c = (c.loop-row.invariant.filled []).rows_long

pub shape_of-ranks : goal.shape_of-ranks
shape_of-ranks c = (c.loop-row.invariant.filled []).ranks_long

pub returns : goal.returns
returns c = asking_all c.loop-row.invariant (omega arith) c.requires.room.0 c.requires.room.1
