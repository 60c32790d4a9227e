-- The head of a file, from the row count that was read from all but its last two bytes.
use Prim.Native.Nat.{ℕ, zero, suc, ◌-◌, ◌≤◌, ◌<◌}
use mathlib.Core.Path.{◌≡◌, refl, sym, ap, ◌∙◌}
use mathlib.Core.Bool.{cond, ◌&&◌}
use mathlib.Core.List.{List, [], ◌∷◌}
use mathlib.Core.Option.{Option, none, some}
use native.Mathlib.Nat.{sub-zero}
use native.Mathlib.Omega.{arith}
use lib.ListN.{length, take}
use lib.Seq.{get_or-take, length-take-le}
use lib.Dec.{leb, ltb, eqb}
use Rattle.std.specs.Prelude.{Result, Ok, Err}
use Rattle.std.specs.Result.{MatchResult, IsErrAnd}
use Rattle.spec.specs.declared.Refusal.{Refusal}
use Rattle.spec.specs.declared.Refusal.TheVariants.{Rows, Header}
use Rattle.spec.specs.Reading as R
use Rattle.spec.specs.Reading.{limit, part, ungroups, padded}
use Rattle.spec.proofs.Tests.{by_test, not_none}
use Rattle.words.specs.Count.{count_in}
use Rattle.words.specs.declared.count.RowCount.{RowCount}
use Rattle.words.specs.declared.count.CountFault.{CountFault}
use Rattle.judging.specs.Phases.{head_says, head_of}
use Rattle.judging.specs.declared.head.Head.{Head}

-- a row count ends within the bytes that are there, and within as many as it may have
pub head_within : (f : ℕ) (bs : List ℕ) (h : R.Head) → ungroups f bs ≡ some h → (1 ≤ h.start) × (h.start ≤ f) × (h.start ≤ length bs)
unfolding ungroups
head_within zero bs h e = not_none (sym e)
head_within (suc f) [] h e = not_none (sym e)
head_within (suc f) (b ∷ bs) h e =
    by_test (leb 128 b) (λ t. let s : 1 ≡ h.start = ap start (rw t at e) in (omega arith, omega arith, omega arith)) (λ t. go (head_within f bs) (ungroups f bs) refl (rw t at e))
  where
    start : Option R.Head → ℕ
    start none = 0
    start (some k) = k.start

    go : ((k : R.Head) → ungroups f bs ≡ some k → (1 ≤ k.start) × (k.start ≤ f) × (k.start ≤ length bs))
        → (o : Option R.Head) → ungroups f bs ≡ o → R.onto b o ≡ some h → (1 ≤ h.start) × (h.start ≤ suc f) × (h.start ≤ length (b ∷ bs))
    go i none p q = not_none (sym q)
    go i (some k) p q = let s : suc k.start ≡ h.start = ap start q in let w = i k p in (omega arith, omega arith, omega arith)

-- the head that a row count makes
abbrev pub head_from : Result RowCount CountFault → Result Head Refusal
head_from (Ok c) = cond (ltb limit c.count) (Err Rows) (Ok (record { row_count = c.count; start = c.start }))
head_from (Err e) = Err Header

-- a result with another error in place of its own: a value stays
pub mapped_ok : {A E D : Type 0} (Q : E → D → Type 0) (r : Result A E) (s : Result A D) (x : A)
    → MatchResult r (λ x. s ≡ Ok x) (λ e. IsErrAnd s (Q e)) → s ≡ Ok x → r ≡ Ok x
mapped_ok Q (Ok y) s x m e = let k : Ok y ≡ Ok x = sym m ∙ e in let i : y ≡ x = cc in ap Ok i
mapped_ok Q (Err d) s x m e = absurd (rw e at m)

-- and an error stands for one
pub mapped_err : {A E D : Type 0} (Q : E → D → Type 0) (r : Result A E) (s : Result A D) (d : D)
    → MatchResult r (λ x. s ≡ Ok x) (λ e. IsErrAnd s (Q e)) → s ≡ Err d → (e : E) × (r ≡ Err e) × Q e d
mapped_err Q (Ok y) s d m e = absurd (let z : ◌≡◌ {A = ℕ} 0 1 = cc in omega arith)
mapped_err Q (Err f) s d m e = (f, refl, rw e at m)

module _ (file : List ℕ) where
  front : part 0 (length file - 2) file ≡ take (length file - 2) file
  unfolding part
  front = ap (λ n. take n file) (sub-zero (length file - 2))

  pub head_short : length file < 2 → head_of file ≡ Err Header
  unfolding head_says ungroups
  head_short l = let z : length file - 2 ≡ 0 = omega arith in ap (λ bs. head_says file (ungroups 5 bs)) (front ∙ ap (λ n. take n file) z)

  pub head_read : head_of file ≡ head_from (count_in (ungroups 5 (take (length file - 2) file)) (take (length file - 2) file))
  unfolding head_says
  head_read = ap (λ bs. head_says file (ungroups 5 bs)) front ∙ go (ungroups 5 P) refl
    where
      P : List ℕ
      P = take (length file - 2) file

      go : (o : Option R.Head) → ungroups 5 P ≡ o → head_says file o ≡ head_from (count_in o P)
      go none p = refl
      go (some h) p =
          let w = head_within 5 P h p in
          let same : padded h P ≡ padded h file =
          ap (λ b. ltb 1 h.start && eqb b 128) (get_or-take (length file - 2) file (h.start - 1) 0 (omega (arith, length-take-le (length file - 2) file (omega arith)))) in
          by_test (padded h file) (λ t. rw (t, same ∙ t)) (λ t. rw (t, same ∙ t))
