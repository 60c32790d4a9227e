-- `judging::head::read` meets its contract: the head that the row count makes. Assumes nothing.
use mathlib.Core.Path.{sym, ap, ◌∙◌}
use native.Mathlib.Omega.{arith}
use borrow.Author.Tests.{lt-ltb, le-ltb}
use lib.Seq.{length-take-le}
use Rattle.std.proofs.Common.{rules}
use Rattle.std.proofs.lemmas.Result.{err_from_is_err_and}
use Rattle.spec.specs.Reading.{limit}
use Rattle.judging.proofs.HeadLaws.{mapped_ok, mapped_err, head_from, head_short, head_read}
use Rattle.judging.proofs.head.read.Goals as goal

pub returns-then-bytes-lt2 : goal.returns-then-bytes-lt2
returns-then-bytes-lt2 c = sym (head_short _ (omega arith))

pub slice_bounds-read-end : goal.slice_bounds-read-end
slice_bounds-read-end c = sym (length-take-le _ _ (omega arith))

pub returns-in_err-c : goal.returns-in_err-c
returns-in_err-c c =
    let e = mapped_err _ c.read.result c.map_err.result c.in_err-c.field-0.0 c.map_err.ensures.cases c.in_err-c.was in
    let p = err_from_is_err_and c.from_residual.result c.from_residual.ensures.1 in
    let h = sym (head_read _ ∙ ap head_from (sym c.read.ensures ∙ e.1)) in
    search (rules, p.1, p.2, e.2, h)

pub returns-then-c : goal.returns-then-c
returns-then-c c =
    let r = mapped_ok _ c.read.result c.map_err.result c.in_ok-c.c c.map_err.ensures.cases c.in_ok-c.was in
    sym (head_read _ ∙ ap head_from (sym c.read.ensures ∙ r) ∙ rw (lt-ltb limit c.in_ok-c.c.count (omega arith)))

pub returns : goal.returns
returns c =
    let r = mapped_ok _ c.read.result c.map_err.result c.in_ok-c.c c.map_err.ensures.cases c.in_ok-c.was in
    sym (head_read _ ∙ ap head_from (sym c.read.ensures ∙ r) ∙ rw (le-ltb limit c.in_ok-c.c.count (omega arith)))
