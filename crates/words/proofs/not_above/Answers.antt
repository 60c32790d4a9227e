-- `words::not_above` meets its contract. Assumes nothing.
use native.Mathlib.Omega.{arith}
use borrow.Author.Tests.{leb-true, leb-false}
use lib.Dec.{leb}
use Rattle.spec.proofs.Tests.{by_test}
use Rattle.words.proofs.not_above.Goals as goal

pub returns : goal.returns
returns c =
    let a = c.args in
    by_test (leb a.a a.b) (λ q. rw q (omega (arith, leb-true a.a a.b q))) (λ q. rw q (omega (arith, leb-false a.a a.b q)))
