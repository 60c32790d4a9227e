use Rattle.std.proofs.Common.{arith}
use Rattle.dense.proofs.NextLaws.{seek_first, seek_none, seek_found, seek_more}
use Rattle.dense.proofs.next.Goals as goal

pub loop-m-init : goal.loop-m-init
loop-m-init c = seek_first c.args.part.now c.args.place

pub next_u64-requires : goal.next_u64-requires
next_u64-requires c = c.loop-m.invariant.small

pub returns-in-Some : goal.returns-in-Some
returns-in-Some c =
    let here = (c.in-Some.ensures {u = tt}).inside in
    record {
      inside = omega arith;
      exact = seek_found c.told-part c.loop-m.invariant c.loop-m-test.true c.read-word.ensures _ c.next_u64.ensures.first _ c.in-Some.is;
    }

pub loop-m-preserved : goal.loop-m-preserved
loop-m-preserved c =
    seek_more c.told-part c.loop-m.invariant c.loop-m-test.true c.read-word.ensures _ c.next_u64.ensures.first c.in_default.is

pub returns : goal.returns
returns c = record { inside = tt; exact = seek_none c.told-part c.loop-m.invariant c.loop-m-test.false }
