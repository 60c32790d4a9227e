-- `dense::next_word` meets its contract: the mini-blocks before this one have no rows. Assumes nothing.
use Rattle.dense.specs.Mini.{Empty}
use Rattle.dense.proofs.next_word.Given as goal

abbrev pub invariant-loop-m : goal.invariant-loop-m
invariant-loop-m l = Empty l.part l.from l.m
