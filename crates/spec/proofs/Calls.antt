-- The C calls' number tells every two answers apart: what a one-shot form says is a 32-bit value, nothing, or a refusal's number.
use Prim.Native.Nat.{ℕ, ◌^◌, ◌<◌}
use mathlib.Core.Path.{◌≡◌, refl, sym, ap, ◌∙◌}
use mathlib.Core.Bool.{true, false≢true}
use mathlib.Core.List.{List, [], ◌∷◌}
use mathlib.Core.Option.{Option, none, some}
use native.Mathlib.Omega.{arith}
use lib.ListN.{length}
use lib.Dec.{leb, ltb}
use borrow.Author.Tests.{leb-false, ltb-true, ltb-false}
use Rattle.spec.specs.Set.{contains, next}
use Rattle.spec.specs.Layout.{rows_of}
use Rattle.spec.specs.Reading.{AreBytes, blocks_at, Verdict, entries_of, verdict}
use Rattle.spec.specs.Answers.{Said, or_nothing, say_contains, say_rank, say_lookup, say_select, say_next, once_with, once, CallOwes}
use Rattle.spec.proofs.Tests.{by_test}
use Rattle.spec.proofs.Rising.{Rising, rising_facts, rising_length, rising_between}
use Rattle.spec.proofs.Questions.{contains_member, rank_le, next_found}
use Rattle.spec.proofs.Verdict.{View, refuses, accepts, view}
use Rattle.spec.proofs.Demands.{accepted_written}
use Rattle.spec.proofs.Numbers.{Coded, code_apart}

-- ---- the questions of a set whose rows are 32-bit numbers

module _ (end : ℕ) (xs : List ℕ) (r : Rising 0 end xs) (h : end < 2 ^ 32) where
  few : length xs < 2 ^ 32
  few = omega (arith, rising_length 0 end xs r)

  pub coded_contains : (d : ℕ) → Coded (say_contains d xs)
  coded_contains d = by_test (contains d xs) (λ e. rw e (omega arith)) (λ e. rw e (omega arith))

  pub coded_rank : (d : ℕ) → Coded (say_rank d xs)
  coded_rank d = let f = few in omega (arith, rank_le d xs)

  pub coded_lookup : (d : ℕ) → Coded (say_lookup d xs)
  coded_lookup d = by_test (contains d xs) (λ e. rw e (coded_rank d)) (λ e. rw e tt)

  pub coded_select : (k : ℕ) → Coded (say_select k xs)
  coded_select k = by_test (leb (length xs) k) (λ e. rw e (omega arith)) (λ e. rw e (omega (arith, rising_between k 0 end xs (leb-false (length xs) k e) r)))

  pub coded_next : (t : ℕ) → Coded (say_next t xs)
  coded_next t = go (next t xs) refl
    where
      go : (o : Option ℕ) → next t xs ≡ o → Coded (or_nothing o)
      go none e = tt
      go (some s) e = let m = contains_member s xs (next_found 0 end xs r t s e).0 in omega (arith, m.2, rising_between m.0 0 end xs m.1 r)

-- ---- the one-shot forms

abbrev pub CodedOn : (List ℕ → Said ℕ) → Type 0
CodedOn question = (end : ℕ) (xs : List ℕ) → Rising 0 end xs → end < 2 ^ 32 → Coded (question xs)

pub once_coded : (file : List ℕ) (question : List ℕ → Said ℕ) → AreBytes file → CodedOn question → Coded (once file question)
unfolding once contains
once_coded file question y c = go (verdict file) (view file) refl
  where
    -- a refusal's number is above zero
    above : (k : ℕ) → contains k (5 ∷ 1 ∷ 6 ∷ 7 ∷ 8 ∷ []) ≡ true → 0 < k
    above k m = by_test (ltb 0 k) (λ e. ltb-true 0 k e) (λ e.
        let z : k ≡ 0 = omega (arith, ltb-false 0 k e) in absurd (false≢true (ap (λ k. contains k (5 ∷ 1 ∷ 6 ∷ 7 ∷ 8 ∷ [])) (sym z) ∙ m)))

    go : (v : Verdict) → View file v → verdict file ≡ v → Coded (once_with v question)
    go v (refuses k m) e = above k m
    go v (accepts h p t) e =
        let l = t.limited in
        c h.count (rows_of (blocks_at (entries_of file) h.start file)) (rising_facts 0 h.count _ (accepted_written file h _ y e).0.rises) (omega arith)

-- two C calls that answer the same number have the same to say
pub call_apart : (file file' : List ℕ) (question question' : List ℕ → Said ℕ) (r : ℕ) → AreBytes file → AreBytes file' → CodedOn question → CodedOn question'
    → CallOwes file question r → CallOwes file' question' r → once file question ≡ once file' question'
call_apart file file' question question' r y y' c c' p q =
    code_apart (once file question) (once file' question') (once_coded file question y c) (once_coded file' question' y' c') (sym p ∙ q)
