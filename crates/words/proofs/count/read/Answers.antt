use Rattle.std.proofs.Common.{ℕ, ◌<◌, ◌≡◌, ◌∙◌, ap, min, length, get_or, take, length-take, zero-add, List, arith, Iter, Bor, Option, Some, None}
use lib.Seq.{get_or-take}
use Rattle.std.specs.declared.iter.Enumerate.{Enumerate}
use Rattle.std.specs.declared.iter.Take.{Take}
use Rattle.std.specs.List.{enumerate_from}
use Rattle.std.proofs.lemmas.List.FromFn.{length-enumerate_from, get_or-enumerate_from}
use Rattle.std.proofs.lemmas.Grind.{get_or_default_zero}
use Rattle.std.proofs.iter.Yields.{fronts}
use Rattle.std.proofs.lemmas.Iterator.{YieldsList, YieldsList-from_slice, YieldsList-from_take}
use Rattle.std.proofs.lemmas.Iterator.Consumers.{YieldsList-turn, YieldsList-end, YieldsList-from_enumerate}
use Rattle.std.specs.Iterator.{Yields}
use Rattle.std.specs.Iterator.Adapters.{take_source, take_count, take_steps, enumerate_source, enumerate_count, enumerate_steps}
use Rattle.std.specs.Slice.Iter.{iter_rest}
use Rattle.std.proofs.lemmas.List.{length_push}
use Rattle.words.proofs.CountLaws.{ended, more, last_padded, last_good}
use Rattle.words.proofs.count.read.Goals as goal

-- the loop goes over the first five bytes and their indices

abbrev Bytes : Type 0
Bytes = Enumerate (Take (Iter ℕ))

abbrev Steps : Bytes → Option (ℕ × Bor ℕ) → Bytes → Type 0
Steps = enumerate_steps (take_steps fronts)

module _ (s : List ℕ) (from at to : Bytes) (e : iter_rest (take_source (enumerate_source from)) ≡ s) (f : take_count (enumerate_source from) ≡ 5)
    (g : enumerate_count from ≡ 0) (xs : List (ℕ × Bor ℕ)) (y : Yields Steps from xs at) (r : Option (ℕ × Bor ℕ)) (next : Steps at r to) where
  all : YieldsList Steps (λ p. (p.0, p.1.now)) from (enumerate_from 0 (take 5 s))
  all = YieldsList-from_enumerate (YieldsList-from_take 5 (YieldsList-from_slice s e) f) g

  -- the index and the byte of the place that a turn comes to
  turn : (p : ℕ × Bor ℕ) → r ≡ Some p → (length xs < 5) × (length xs < length s) × (p.0 ≡ length xs) × (p.1.now ≡ get_or s (length xs) 0)
  turn p is =
      let t = YieldsList-turn all xs at y r to p is next in
      let few : length xs < length (take 5 s) = omega (arith, length-enumerate_from 0 (take 5 s), t.0) in
      let h : length xs < 5 = omega (arith, length-take 5 s, few) in
      let l : length xs < length s = omega (arith, length-take 5 s, few) in
      let q = t.1 ∙ get_or-enumerate_from 0 (take 5 s) (length xs) (p.0, p.1.now) few in
      let byte = ap (λ q. q.1) q ∙ get_or-take 5 s (length xs) p.1.now h ∙ get_or_default_zero s (length xs) p.1.now l in
      (h, l, ap (λ q. q.0) q ∙ zero-add (length xs), byte)

  -- it has come to all
  turned : r ≡ None → length xs ≡ min 5 (length s)
  turned is = (YieldsList-end all xs at y r to is next).1 ∙ length-enumerate_from 0 (take 5 s) ∙ length-take 5 s

pub returns-then-b-eq128 : goal.returns-then-b-eq128
returns-then-b-eq128 c =
    let l = c.loop-i in
    let x = c.in-Some in
    let t = turn c.args.s.now _ _ _ (cc) (cc) (cc) l.yielded l.yielded_by _ c.next.ensures.steps (x.i, x.byte) x.is in
    last_padded l.invariant t (omega arith) (omega arith) (omega arith) (omega arith)

pub returns-then-b-ge128 : goal.returns-then-b-ge128
returns-then-b-ge128 c =
    let l = c.loop-i in
    let x = c.in-Some in
    let t = turn c.args.s.now _ _ _ (cc) (cc) (cc) l.yielded l.yielded_by _ c.next.ensures.steps (x.i, x.byte) x.is in
    last_good l.invariant t (omega arith) (omega arith) (λ m e. omega arith)

pub loop-i-preserved : goal.loop-i-preserved
loop-i-preserved c =
    let l = c.loop-i in
    let x = c.in-Some in
    let t = turn c.args.s.now _ _ _ (cc) (cc) (cc) l.yielded l.yielded_by _ c.next.ensures.steps (x.i, x.byte) x.is in
    rw (length_push l.yielded (x.i, x.byte)) (more l.invariant t (omega arith))

pub returns : goal.returns
returns c =
    let l = c.loop-i in
    ended l.invariant (turned c.args.s.now _ _ _ (cc) (cc) (cc) l.yielded l.yielded_by _ c.next.ensures.steps c.in-None.is)
