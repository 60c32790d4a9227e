use native.Mathlib.Omega.{arith}
use lib.ListN.{length-set}
use Rattle.words.proofs.GroupLaws.{none_grouped, room, one_grouped, all_grouped}
use Rattle.words.proofs.count.write.Goals as goal

pub loop-rest-init : goal.loop-rest-init
loop-rest-init c = none_grouped c.args.out.now c.args.count c.ranges.count.fits

pub bounds-out-i : goal.bounds-out-i
bounds-out-i c = room c.loop-rest.invariant c.requires

pub overflow_add-i : goal.overflow_add-i
overflow_add-i c = omega (arith, room c.loop-rest.invariant c.requires)

pub loop-rest-preserved : goal.loop-rest-preserved
loop-rest-preserved c = one_grouped c.loop-rest.invariant (omega arith)

pub bounds-out-i-2 : goal.bounds-out-i-2
bounds-out-i-2 c = room c.loop-rest.invariant c.requires

pub overflow_add-result : goal.overflow_add-result
overflow_add-result c = omega (arith, room c.loop-rest.invariant c.requires)

pub shape_of-out : goal.shape_of-out
shape_of-out c = rw length-set c.loop-rest.invariant.same

pub returns : goal.returns
returns c =
    let r = all_grouped c.loop-rest.invariant (omega arith) in
    record { wrote = r.0; long = r.1 }
