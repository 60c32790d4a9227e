-- `content_ok` meets its contract. The loop's invariant: what is left to check is what the whole check says.
use Rattle.dense.proofs.ContentLaws.{Checked}
use Rattle.dense.proofs.content_ok.Given as goal

abbrev pub invariant-loop-m : goal.invariant-loop-m
invariant-loop-m l = Checked l.part l.rows l.end l.seen l.m
