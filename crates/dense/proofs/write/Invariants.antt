-- `write` meets its contract. The loop's invariant: the mini-blocks so far are written, and the running count and the index are their places.
use Rattle.mini.specs.Mini.{places}
use Rattle.dense.proofs.WriteLaws.{Filling}
use Rattle.dense.proofs.write.Given as goal

abbrev pub invariant-loop-m : goal.invariant-loop-m
invariant-loop-m l = Filling (places l.rows) l.out l.before l.i l.m
