-- `File::lookup` meets its contract: the rows before the row's block, and the rank in the block. Assumes nothing.
use mathlib.Core.Path.{sym, ap, ◌∙◌}
use native.Mathlib.Omega.{arith}
use Rattle.spec.proofs.Questions.{lookup_past}
use Rattle.spec.proofs.Splits.{moved}
use Rattle.words.specs.Part.{placed}
use Rattle.one_shot.proofs.AnswerLaws.{opens, rise, block_within, lookup_is, lookup_small}
use Rattle.one_shot.proofs.file.File.lookup.Goals as goal

pub returns-then-self-row : goal.returns-then-self-row
returns-then-self-row c =
    λ h gs v. let o = opens _ _ c.args.self.bytes_fit c.args.self.accepted h gs v in
    sym (lookup_past _ _ _ (rise o) _ c.if-self-row.true)

pub part-requires : goal.part-requires
part-requires c = block_within _ _ c.args.self.bytes_fit c.args.self.accepted _ _ c.of_block-spot.ensures

pub returns-in_err-below : goal.returns-in_err-below
returns-in_err-below c =
    λ h gs v.
    let o = opens _ _ c.args.self.bytes_fit c.args.self.accepted h gs v in
    ap placed c.from_residual.ensures ∙ sym (ap (λ p. moved c.of_block-spot.result.rows (placed p)) (c.in_err-below.was {u = tt}))
    ∙ lookup_is o _ _ c.of_block-spot.ensures _ (λ ps x. c.lookup.ensures ps (rw c.part.ensures x))

pub overflow_add-result : goal.overflow_add-result
overflow_add-result c =
    omega (arith, lookup_small _ _ c.args.self.bytes_fit c.args.self.accepted _ _ c.of_block-spot.ensures _ (λ ps x. c.lookup.ensures ps (rw c.part.ensures x)) _ c.in_ok-below.was)

pub overflow_cast-result-2 : goal.overflow_cast-result-2
overflow_cast-result-2 c =
    omega (arith, lookup_small _ _ c.args.self.bytes_fit c.args.self.accepted _ _ c.of_block-spot.ensures _ (λ ps x. c.lookup.ensures ps (rw c.part.ensures x)) _ c.in_ok-below.was)

pub returns : goal.returns
returns c =
    λ h gs v.
    let o = opens _ _ c.args.self.bytes_fit c.args.self.accepted h gs v in
    sym (ap (λ p. moved c.of_block-spot.result.rows (placed p)) c.in_ok-below.was)
    ∙ lookup_is o _ _ c.of_block-spot.ensures _ (λ ps x. c.lookup.ensures ps (rw c.part.ensures x))
