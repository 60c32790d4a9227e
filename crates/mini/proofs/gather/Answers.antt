use Prim.Native.Nat.{◌+◌, ◌*◌, ◌%◌}
use mathlib.Core.Path.{◌≡◌, subst}
use native.Mathlib.Omega.{arith}
use lib.ListN.{length, length-map}
use Rattle.spec.specs.Set.{rank}
use Rattle.spec.specs.Layout.{size}
use Rattle.spec.proofs.Rising.{rising_facts}
use Rattle.mini.specs.Mini.{places, Gathers}
use Rattle.mini.proofs.GatherLaws.{rank_within, rest_length, rest_place, Gathering, none_gathered, all_gathered, later_mini, one_gathered}
use Rattle.mini.proofs.gather.Goals as goal

pub loop-i-init : goal.loop-i-init
loop-i-init c =
    let a = c.args in
    let ps = places a.rows.now in
    let e : rank (64 * a.m) ps ≡ a.from + 0 = omega arith in
    subst (Gathering ps a.m 0) e (none_gathered a.m ps (rising_facts 0 size ps c.requires.1))

pub returns-then-place-m : goal.returns-then-place-m
returns-then-place-m c =
    let l = c.loop-i in
    let a = c.args in
    let r = rising_facts 0 size (places a.rows.now) c.requires.1 in
    let p = rest_place a.from l.i a.rows.now c.loop-i-test.true in
    all_gathered r l.invariant (λ h. later_mini r l.invariant h _ p.1 c.if-place-m.true)

pub loop-i-preserved : goal.loop-i-preserved
loop-i-preserved c =
    let l = c.loop-i in
    let a = c.args in
    let r = rising_facts 0 size (places a.rows.now) c.requires.1 in
    let p = rest_place a.from l.i a.rows.now c.loop-i-test.true in
    let next : a.from + (l.i + 1) ≡ a.from + l.i + 1 = omega arith in
    rw (c.set_bit_at-word.ensures, next) (one_gathered r l.invariant p.0 _ p.1 c.if-place-m.false)

pub returns : goal.returns
returns c =
    let l = c.loop-i in
    let a = c.args in
    let ps = places a.rows.now in
    let all : a.from + l.i ≡ length a.rows.now = omega (arith, rest_length a.from a.rows.now (omega (arith, rank_within (64 * a.m) a.rows.now))) in
    subst (λ n. Gathers ps a.m (record { word = l.word; next = n })) all
    (all_gathered (rising_facts 0 size ps c.requires.1) l.invariant (λ h. absurd (omega (arith, length-map a.rows.now (λ r. r % size)))))
