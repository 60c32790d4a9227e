-- Each answer's number and values, and that answers which say the same are the same.
use Prim.Native.Nat.{ℕ, ◌+◌, ◌-◌, ◌^◌, ◌<◌}
use mathlib.Core.Path.{◌≡◌, refl, sym, ap, ◌∙◌}
use mathlib.Core.List.{List, [], ◌∷◌, map}
use native.Mathlib.Omega.{arith}
use lib.ListN.{get_or}
use Rattle.std.specs.Prelude.{true, false, ltb, Result, Ok, Err, Some, None}
use Rattle.spec.specs.declared.Record.{Record}
use Rattle.spec.specs.declared.Refusal.{Refusal}
use Rattle.spec.specs.declared.Refusal.TheVariants.{Rows, Order, Range, Room, Header, Entries, Length, Content, Rank, Broken}
use Rattle.spec.specs.Answers.{Said, value, nothing, refused, number, answered, numbered, found, counted, done, opened, code}

-- ---- numbers and values

-- the refusals in the table's order have the numbers 1 to 10
abbrev pub refusals : List Refusal
refusals = Rows ∷ Order ∷ Range ∷ Room ∷ Header ∷ Entries ∷ Length ∷ Content ∷ Rank ∷ Broken ∷ []

pub numbers : map number refusals ≡ 1 ∷ 2 ∷ 3 ∷ 4 ∷ 5 ∷ 6 ∷ 7 ∷ 8 ∷ 9 ∷ 10 ∷ []
numbers = refl

-- contains: 1 for yes, 0 for no
pub answered_says : (answered (Ok true) ≡ value 1) × (answered (Ok false) ≡ value 0)
    × ((e : Refusal) → answered (Err e) ≡ refused (number e))
answered_says = (refl, refl, λ e. refl)

-- rank, select: the value
pub numbered_says : ((v : ℕ) → numbered (Ok v) ≡ value v) × ((e : Refusal) → numbered (Err e) ≡ refused (number e))
numbered_says = (λ v. refl, λ e. refl)

-- lookup, next: the value, or "not there", "none"
pub found_says : ((v : ℕ) → found (Ok (Some v)) ≡ value v) × (found (Ok None) ≡ nothing)
    × ((e : Refusal) → found (Err e) ≡ refused (number e))
found_says = (λ v. refl, refl, λ e. refl)

-- write, batch lookup, page: the count
pub counted_says : ((v : ℕ) → counted (Ok v) ≡ value v) × ((e : Refusal) → counted (Err e) ≡ refused (number e))
counted_says = (λ v. refl, λ e. refl)

-- batch select: that it is done
pub done_says : (done (Ok tt) ≡ value tt) × ((e : Refusal) → done (Err e) ≡ refused (number e))
done_says = (refl, λ e. refl)

-- opening: the record
pub opened_says : ((rec : Record) → opened (Ok rec) ≡ value rec) × ((e : Refusal) → opened (Err e) ≡ refused (number e))
opened_says = (λ rec. refl, λ e. refl)

-- a refusal has no value
pub not_refused : {A B : Type 0} {v : A} {k : ℕ} → value v ≡ refused k → B
not_refused e = let z : ◌≡◌ {A = ℕ} 0 1 = cc in absurd (omega arith)

-- ---- the C calls' number

-- the value; 2 ^ 32 is "none", and above it are the refusals
pub code_says : ((v : ℕ) → code (value v) ≡ v) × (code nothing ≡ 2 ^ 32) × ((k : ℕ) → code (refused k) ≡ 2 ^ 32 + k)
code_says = (λ v. refl, refl, λ k. refl)

-- what a call may say: a 32-bit value, nothing, or a refusal by its number
abbrev pub Coded : Said ℕ → Type 0
Coded (value v) = v < 2 ^ 32
Coded nothing = Unit {0}
Coded (refused k) = 0 < k

-- the numbers of different answers differ
pub code_apart : (s t : Said ℕ) → Coded s → Coded t → code s ≡ code t → s ≡ t
code_apart (value v) (value w) p q e = cc
code_apart (value v) nothing p q e = absurd (omega arith)
code_apart (value v) (refused k) p q e = absurd (omega arith)
code_apart nothing (value w) p q e = absurd (omega arith)
code_apart nothing nothing p q e = refl
code_apart nothing (refused k) p q e = absurd (omega arith)
code_apart (refused j) (value w) p q e = absurd (omega arith)
code_apart (refused j) nothing p q e = absurd (omega arith)
code_apart (refused j) (refused k) p q e = let z : j ≡ k = omega arith in ap refused z

-- ---- answers that say the same are the same

abbrev pub Injective : {A S : Type 0} → (A → S) → Type 0
Injective {A} says = (a b : A) → says a ≡ says b → a ≡ b

-- a map that can be taken back
by_back : {A S : Type 0} (says : A → S) (back : S → A) → ((a : A) → back (says a) ≡ a) → Injective says
by_back says back h a b e = sym (h a) ∙ ap back e ∙ h b

abbrev refusal_of : ℕ → Refusal
refusal_of k = get_or refusals (k - 1) Rows

number_back : (e : Refusal) → refusal_of (number e) ≡ e
number_back Rows = refl
number_back Order = refl
number_back Range = refl
number_back Room = refl
number_back Header = refl
number_back Entries = refl
number_back Length = refl
number_back Content = refl
number_back Rank = refl
number_back Broken = refl

-- an answer by its three kinds
abbrev back : {X A : Type 0} → (X → A) → A → Said X → Result A Refusal
back is none' (value v) = Ok (is v)
back is none' nothing = Ok none'
back is none' (refused k) = Err (refusal_of k)

pub number_one : Injective number
number_one = by_back number refusal_of number_back

pub answered_one : Injective answered
answered_one =
    by_back answered (back (ltb 0) false)
    (λ a. elim a as (λ k. back (ltb 0) false (answered k) ≡ k) [ Ok b ↦ elim b as (λ k. back (ltb 0) false (answered (Ok k)) ≡ Ok k) [ true ↦ refl | false ↦ refl ] | Err e ↦ ap Err (number_back e) ])

-- a value, which says itself
abbrev same : {A : Type 0} → Said A → Result A Refusal
same (value v) = Ok v
same nothing = Err Rows
same (refused k) = Err (refusal_of k)

pub numbered_one : Injective numbered
numbered_one = by_back numbered same (λ a. elim a as (λ k. same (numbered k) ≡ k) [ Ok v ↦ refl | Err e ↦ ap Err (number_back e) ])

pub found_one : Injective found
found_one =
    by_back found (back Some None)
    (λ a. elim a as (λ k. back Some None (found k) ≡ k) [ Ok o ↦ elim o as (λ k. back Some None (found (Ok k)) ≡ Ok k) [ Some v ↦ refl | None ↦ refl ] | Err e ↦ ap Err (number_back e) ])

pub counted_one : Injective counted
counted_one = by_back counted same (λ a. elim a as (λ k. same (counted k) ≡ k) [ Ok v ↦ refl | Err e ↦ ap Err (number_back e) ])

pub done_one : Injective done
done_one = by_back done same (λ a. elim a as (λ k. same (done k) ≡ k) [ Ok u ↦ refl | Err e ↦ ap Err (number_back e) ])

pub opened_one : Injective opened
opened_one = by_back opened same (λ a. elim a as (λ k. same (opened k) ≡ k) [ Ok rec ↦ refl | Err e ↦ ap Err (number_back e) ])
