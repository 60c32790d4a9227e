-- `next` meets its contract. The loop's invariant: it is the first at or after a place of this mini-block.
use Rattle.dense.proofs.NextLaws.{Seeking}
use Rattle.dense.proofs.next.Given as goal

abbrev pub invariant-loop-m : goal.invariant-loop-m
invariant-loop-m l = Seeking l.part l.place l.m l.from
