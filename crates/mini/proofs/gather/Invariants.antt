-- `mini::gather` meets its contract. The loop's invariant: the word has the places of the mini-block before the index.
use Prim.Native.Nat.{◌+◌}
use Rattle.mini.specs.Mini.{places}
use Rattle.mini.proofs.GatherLaws.{Gathering}
use Rattle.mini.proofs.gather.Given as goal

abbrev pub invariant-loop-i : goal.invariant-loop-i
invariant-loop-i l = Gathering (places l.rows) l.m l.word (l.from + l.i)
