-- `File::next` meets its contract: the row's block answers, or the first member of a later one. Assumes nothing.
use mathlib.Core.Path.{sym}
use native.Mathlib.Omega.{arith}
use Rattle.spec.proofs.Questions.{next_past}
use Rattle.one_shot.proofs.AnswerLaws.{opens, rise, few_blocks, block_within, next_here, next_none, next_later}
use Rattle.one_shot.proofs.file.File.next.Goals as goal

pub returns-then-self-row : goal.returns-then-self-row
returns-then-self-row c =
    λ h gs v. let o = opens _ _ c.args.self.bytes_fit c.args.self.accepted h gs v in
    sym (next_past _ _ _ (rise o) _ c.if-self-row.true)

pub part-requires : goal.part-requires
part-requires c = block_within _ _ c.args.self.bytes_fit c.args.self.accepted _ _ c.of_block-spot.ensures

pub overflow_add-result : goal.overflow_add-result
overflow_add-result c = omega (arith, rw c.in-Some.is at c.next.ensures.inside)

pub overflow_add-number : goal.overflow_add-number
overflow_add-number c = omega (arith, few_blocks _ _ c.args.self.bytes_fit c.args.self.accepted)

pub returns-then-self-later : goal.returns-then-self-later
returns-then-self-later c =
    λ h gs v.
    let o = opens _ _ c.args.self.bytes_fit c.args.self.accepted h gs v in
    next_none o _ _ c.of_block-spot.ensures _ (λ ps x. c.next.ensures.exact ps (rw c.part.ensures x)) c.in_default.is
    _ c.of_block-later.ensures c.if-self-later.true

pub returns-in-Some : goal.returns-in-Some
returns-in-Some c =
    λ h gs v.
    let o = opens _ _ c.args.self.bytes_fit c.args.self.accepted h gs v in
    next_here o _ _ c.of_block-spot.ensures _ (λ ps x. c.next.ensures.exact ps (rw c.part.ensures x)) _ c.in-Some.is

pub returns : goal.returns
returns c =
    λ h gs v.
    let o = opens _ _ c.args.self.bytes_fit c.args.self.accepted h gs v in
    next_later o _ _ c.of_block-spot.ensures _ (λ ps x. c.next.ensures.exact ps (rw c.part.ensures x)) c.in_default.is
    _ c.of_block-later.ensures c.if-self-later.false _ (c.select.ensures h gs v)

pub select-requires : goal.select-requires
select-requires c = c.if-self-later.false
