use native.Mathlib.Omega.{arith}
use Rattle.sparse.proofs.BatchLaws.{asking_none, asking_hit, asking_miss, asking_all}
use Rattle.sparse.proofs.batch.Goals as goal
use Rattle.sparse.proofs.batch.Goals.{in-Ok, in-Err}

pub loop-row-init : goal.loop-row-init
loop-row-init c = asking_none _ _ _ _ _ _

-- a question is a row of the block
pub overflow_sub-row : goal.overflow_sub-row
overflow_sub-row c = omega (arith, c.requires.never_falls.1 c.loop-row.row-index c.loop-row-test.true)

pub overflow_cast-row : goal.overflow_cast-row
overflow_cast-row c = omega (arith, c.requires.never_falls.1 c.loop-row.row-index c.loop-row-test.true)

pub loop-row-preserved : goal.loop-row-preserved
loop-row-preserved c =
    let asked = c.requires.never_falls in
    elim c.match-from_cursor.branch [
      | in-Ok w ↦ rw (w.rows-is, w.ranks-is, w.n-is, w.cursor-is) (asking_hit c.loop-row.invariant asked.0 asked.1 c.loop-row-test.true c.from_cursor.ensures _ _ w.in-Ok.is (omega (arith, w.to_u32.ensures)))
      | in-Err w ↦ rw (w.rows-is, w.ranks-is, w.n-is, w.cursor-is) (asking_miss c.loop-row.invariant asked.0 asked.1 c.loop-row-test.true c.from_cursor.ensures _ w.in-Err.is)
    ]

pub shape_of-rows : goal.shape_of-rows
shape_of-rows c = c.loop-row.invariant.filled.rows_long

pub shape_of-ranks : goal.shape_of-ranks
shape_of-ranks c = c.loop-row.invariant.filled.ranks_long

pub returns : goal.returns
returns c = asking_all c.loop-row.invariant c.requires.is_sparse c.loop-row-test.false c.requires.room.0 c.requires.room.1

pub from_cursor-requires : goal.from_cursor-requires
from_cursor-requires c = c.loop-row.invariant.inside
