use Rattle.std.proofs.Common.{◌%◌, ◌^◌, sym, refl, ap, ◌∙◌, arith}
use lib.ListN.{length-map}
use lib.Count.{ones-le}
use Rattle.spec.specs.Layout.{size}
use Rattle.spec.proofs.Rising.{rising_facts}
use Rattle.mini.specs.Mini.{places}
use Rattle.dense.proofs.WriteLaws.{none_filled, count_small, one_filled, at_last, all_filled}
use Rattle.dense.proofs.write.Goals as goal

pub loop-m-init : goal.loop-m-init
loop-m-init c =
    let ps = places c.args.rows.now in
    none_filled ps c.args.out.now (rising_facts 0 size ps c.requires.rows_rise) c.requires.out_long

pub gather-g-requires : goal.gather-g-requires
gather-g-requires c = let f = c.loop-m.invariant in (omega arith, c.requires.rows_rise, f.index)

pub overflow_cast-after : goal.overflow_cast-after
overflow_cast-after c = omega (arith, ones-le 64 c.gather-g.result.word (omega arith))

pub overflow_add-after : goal.overflow_add-after
overflow_add-after c =
    let ps = places c.args.rows.now in
    omega (arith, count_small (rising_facts 0 size ps c.requires.rows_rise) c.loop-m.invariant c.gather-g.ensures)

pub put-requires : goal.put-requires
put-requires c = (c.loop-m.invariant.long, omega arith)

pub loop-m-preserved : goal.loop-m-preserved
loop-m-preserved c =
    let l = c.loop-m in
    let g = c.gather-g in
    let p = c.put in
    let ps = places c.args.rows.now in
    one_filled (rising_facts 0 size ps c.requires.rows_rise) l.invariant g.ensures p.ensures (omega arith)

pub gather-g-requires-2 : goal.gather-g-requires-2
gather-g-requires-2 c = (omega arith, c.requires.rows_rise, (at_last c.loop-m.invariant (omega arith)).index)

pub put-requires-2 : goal.put-requires-2
put-requires-2 c = (c.loop-m.invariant.long, omega arith)

pub shape_of-out : goal.shape_of-out
shape_of-out c =
    c.put-2.auto.out ∙ c.loop-m.invariant.long
    ∙ sym c.requires.out_long

pub returns : goal.returns
returns c =
    let l = c.loop-m in
    let g = c.gather-g-2 in
    let p = c.put-2 in
    let ps = places c.args.rows.now in
    let f = at_last l.invariant (omega arith) in
    let all = all_filled (rising_facts 0 size ps c.requires.rows_rise) f g.ensures p.ensures refl in
    record { wrote = all.0; total = ap (λ n. n % 2 ^ 16) (all.1 ∙ length-map c.args.rows.now (λ r. r % size)) }
