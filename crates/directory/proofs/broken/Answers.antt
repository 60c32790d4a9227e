-- `directory::broken` meets its contract. Assumes nothing.
use native.Mathlib.Omega.{arith}
use Rattle.directory.proofs.PartLaws.{is_broken, total_broken, last_test}
use Rattle.directory.proofs.broken.Goals as goal
use Rattle.directory.proofs.broken.Goals.{then-directory-closing-via-then-directory-closing}
use Rattle.directory.proofs.broken.Goals.{then-directory-closing-via-else-directory-closing+then-directory-closing-2}

pub returns-then-record-gt-LIMIT : goal.returns-then-record-gt-LIMIT
returns-then-record-gt-LIMIT c = is_broken _ _ _ (λ u. omega (arith, u.count, u.populated, c.then-record-gt-LIMIT.either))

pub returns-then-record-lt1 : goal.returns-then-record-lt1
returns-then-record-lt1 c = is_broken _ _ _ (λ u. omega (arith, u.from, u.upto, c.then-record-lt1.either))

pub returns-then-directory-closing : goal.returns-then-directory-closing
returns-then-directory-closing c =
    elim c.then-directory-closing.branch [
      | then-directory-closing-via-then-directory-closing w ↦
          is_broken _ _ _ (λ u. omega (arith, u.words, c.block_count-closing.ensures, w.if-directory-closing.true))
      | then-directory-closing-via-else-directory-closing+then-directory-closing-2 w ↦
          total_broken _ _ _ _ c.block_count-closing.ensures w.if-directory-closing-2.true
    ]

pub returns : goal.returns
returns c =
    last_test _ _ _ _ c.block_count-closing.ensures
    (omega arith) (omega arith) (omega arith) (omega arith) (omega arith) (omega arith)
