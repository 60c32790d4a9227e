-- `one_shot::spots::of_block` meets its contract: what the walk finds with its test is what the entries lead to. Assumes nothing.
use borrow.Author.Tests.{eq-eqb, ne_eqb}
use Rattle.std.proofs.Common.{rules}
use Rattle.one_shot.proofs.WalkLaws.{found_spot}
use Rattle.one_shot.proofs.spots.of_block.Goals as goal

pub returns-then-spot-number : goal.returns-then-spot-number
returns-then-spot-number c =
    rw (eq-eqb _ _ c.if-spot-number.true) at (found_spot _ c.args.number (λ at after t s. search rules) 0 _ _ _ c.find-spot.ensures)

pub returns : goal.returns
returns c =
    rw (ne_eqb _ _ c.if-spot-number.false) at (found_spot _ c.args.number (λ at after t s. search rules) 0 _ _ _ c.find-spot.ensures)
