-- What a one-shot question owes: the verdict's refusal, or what the set of an accepted file says.
use Prim.Native.Nat.{ℕ, ◌≤◌, ◌<◌}
use mathlib.Core.Path.{◌≡◌, refl, sym, ap, ◌∙◌}
use mathlib.Core.List.{List}
use mathlib.Core.Option.{Option}
use Rattle.std.specs.Prelude.{Result, Ok, Err, IsErrAnd, Some, None}
use Rattle.std.proofs.lemmas.Result.{err_from_is_err_and}
use Rattle.std.specs.Prelude.{Option as Maybe}
use native.Mathlib.Omega.{arith}
use lib.ListN.{length}
use borrow.Author.Tests.{le-leb, lt-leb}
use Rattle.spec.specs.declared.Record.{Record}
use Rattle.spec.specs.declared.Refusal.{Refusal}
use Rattle.spec.specs.Set.{select}
use Rattle.spec.specs.Layout.{Block, rows_of}
use Rattle.spec.specs.Reading.{Head, Verdict, fault, holds, verdict, record_of}
use Rattle.spec.specs.Answers.{Said, value, refused, number, found, or_nothing, once, OnceOwes, say_select}
use Rattle.words.specs.Part.{placed}
use Rattle.judging.specs.Phases.{judged}
use Rattle.one_shot.specs.Accepted.{Accepted, Says}

owes_refusal : (file : List ℕ) (question : List ℕ → Said ℕ) (k : ℕ) → refused k ≡ judged (verdict file) → OnceOwes file question (refused k)
unfolding once
owes_refusal file question k e = go (verdict file) refl e
  where
    go : (v : Verdict) → verdict file ≡ v → refused k ≡ judged v → OnceOwes file question (refused k)
    go (fault j) p q = let same : k ≡ j = cc in rw (p, same)
    go (holds h gs) p q = absurd (let z : ◌≡◌ {A = ℕ} 0 1 = cc in omega arith)

-- the same of what `?` hands on
pub owes_error : {T : Type 0} (says : Result T Refusal → Said ℕ) → ((e : Refusal) → says (Err e) ≡ refused (number e)) → (file : List ℕ)
    (question : List ℕ → Said ℕ) (r : Result T Refusal) (e : Refusal) → IsErrAnd r (λ y. y ≡ e) → refused (number e) ≡ judged (verdict file)
    → OnceOwes file question (says r)
owes_error says q file question r e h j =
    let p = err_from_is_err_and r h in rw (p.1, p.2, q e) (owes_refusal file question (number e) j)

pub owes_set : (file : List ℕ) (question : List ℕ → Said ℕ) (rec : Record) (s : Said ℕ) → Accepted file rec → Says file (λ xs. s ≡ question xs) → OnceOwes file question s
unfolding once
owes_set file question rec s a says = go (verdict file) refl
  where
    go : (v : Verdict) → verdict file ≡ v → OnceOwes file question s
    go (fault j) p = absurd (let f : value rec ≡ refused j = a ∙ ap judged p in let z : ◌≡◌ {A = ℕ} 0 1 = cc in omega arith)
    go (holds h gs) p = says h gs p ∙ rw p

-- a value, or none
pub owes_found : (file : List ℕ) (question : List ℕ → Said ℕ) (find : List ℕ → Option ℕ) (rec : Record) (r : Maybe ℕ) → Accepted file rec
    → Says file (λ xs. placed r ≡ find xs) → ((xs : List ℕ) → question xs ≡ or_nothing (find xs)) → OnceOwes file question (found (Ok r))
owes_found file question find rec r a says q =
    owes_set file question rec (found (Ok r)) a (λ h gs v. found_placed r ∙ ap or_nothing (says h gs v) ∙ sym (q (rows_of gs)))
  where
    found_placed : (r : Maybe ℕ) → found (Ok r) ≡ or_nothing (placed r)
    found_placed (Some v) = refl
    found_placed None = refl

-- ---- select: 9 where k is at or above n

module _ (file : List ℕ) (rec : Record) (k : ℕ) (a : Accepted file rec) where
  populated : (h : Head) (gs : List Block) → verdict file ≡ holds h gs → rec.populated ≡ length (rows_of gs)
  populated h gs v = let e : value rec ≡ judged (holds h gs) = a ∙ ap judged v in let r : rec ≡ record_of h gs = cc in ap (λ r. r.populated) r

  pub select_out : rec.populated ≤ k → OnceOwes file (say_select k) (refused 9)
  select_out l = owes_set file (say_select k) rec (refused 9) a (λ h gs v. rw (le-leb (length (rows_of gs)) k (omega (arith, populated h gs v))))

  pub select_in : k < rec.populated → (v : ℕ) → Says file (λ xs. v ≡ select k xs) → OnceOwes file (say_select k) (value v)
  select_in l v says =
      owes_set file (say_select k) rec (value v) a
      (λ h gs e. rw (lt-leb (length (rows_of gs)) k (omega (arith, populated h gs e))) (ap value (says h gs e)))
