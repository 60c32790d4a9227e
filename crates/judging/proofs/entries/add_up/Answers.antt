use mathlib.Core.Path.{sym, ◌∙◌}
use native.Mathlib.Omega.{arith}
use Rattle.judging.proofs.EntryLaws.{adding_end, adding_wrong, adding_more}
use Rattle.judging.proofs.entries.add_up.Goals as goal

pub returns-then-not-entry_ok : goal.returns-then-not-entry_ok
returns-then-not-entry_ok c =
    adding_wrong c.loop-four.invariant c.from_bytes-x.result (omega arith) c.from_bytes-x.ensures (sym c.entry_ok.ensures ∙ c.if-not-entry_ok.true)

pub loop-four-preserved : goal.loop-four-preserved
loop-four-preserved c =
    adding_more c.loop-four.invariant c.from_bytes-x.result (omega arith) c.from_bytes-x.ensures _ c.data_size-size.ensures
    (sym c.entry_ok.ensures ∙ c.if-not-entry_ok.false)

pub returns : goal.returns
returns c = adding_end c.loop-four.invariant (omega arith)
