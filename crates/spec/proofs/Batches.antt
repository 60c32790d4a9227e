-- Batches are their single questions one after another; pages of any sizes list every row once, ascending.
use Prim.Native.Nat.{ℕ, zero, suc, ◌+◌, ◌-◌, ◌≤◌, ◌<◌, zero-le, min}
use mathlib.Core.Path.{◌≡◌, refl, sym, ap, ◌∙◌}
use mathlib.Core.Bool.{true, ◌&&◌}
use mathlib.Core.List.{List, [], ◌∷◌, ◌++◌, map, map-append}
use mathlib.Core.Option.{Option, none, some}
use native.Mathlib.Omega.{arith}
use lib.ListN.{length, get_or, take, drop, length-map, length-take, length-drop, drop_of_length-le}
use lib.Seq.{get_or-take, get_or-drop, drop-drop}
use lib.Dec.{eqb}
use borrow.Author.Tests.{eqb-true, eq-eqb}
use Rattle.std.proofs.lemmas.Bool.{and_parts}
use Rattle.std.proofs.lemmas.List.{get_or-map}
use Rattle.spec.specs.Set.{contains, rank, lookup, select, hits, ranks, selects, page}
use Rattle.spec.proofs.Tests.{by_test}
use Rattle.spec.proofs.Questions.{member_contains}

-- ---- batch lookup: the single lookups, one after another

-- of each question that a lookup finds, the question and the rank that the lookup says
abbrev pub answer : ℕ → Option ℕ → List (ℕ × ℕ) → List (ℕ × ℕ)
answer q none l = l
answer q (some n) l = (q, n) ∷ l

unfoldable pub answers : List ℕ → List ℕ → List (ℕ × ℕ)
answers xs [] = []
answers xs (q ∷ qs) = answer q (lookup q xs) (answers xs qs)

-- in question order, repeats included
pub hits_answers : (xs qs : List ℕ) → hits xs qs ≡ map (λ a. a.0) (answers xs qs)
unfolding hits answers
hits_answers xs [] = refl
hits_answers xs (q ∷ qs) = rw (hits_answers xs qs) (by_test (contains q xs) (λ e. rw e) (λ e. rw e))

pub ranks_answers : (xs qs : List ℕ) → ranks xs (hits xs qs) ≡ map (λ a. a.1) (answers xs qs)
unfolding hits answers
ranks_answers xs [] = refl
ranks_answers xs (q ∷ qs) =
    let i = ranks_answers xs qs in by_test (contains q xs) (λ e. rw e (ap (λ l. rank q xs ∷ l) i)) (λ e. rw e i)

-- the batch of a list cut anywhere is its pieces joined
pub hits_append : (xs ps qs : List ℕ) → hits xs (ps ++ qs) ≡ hits xs ps ++ hits xs qs
unfolding hits
hits_append xs [] qs = refl
hits_append xs (p ∷ ps) qs = rw (hits_append xs ps qs) (by_test (contains p xs) (λ e. rw e) (λ e. rw e))

pub ranks_append : (xs ps qs : List ℕ) → ranks xs (hits xs (ps ++ qs)) ≡ ranks xs (hits xs ps) ++ ranks xs (hits xs qs)
ranks_append xs ps qs = rw (hits_append xs ps qs) (map-append (λ q. rank q xs) (hits xs ps) (hits xs qs))

-- no more hits than questions
pub hits_le : (xs qs : List ℕ) → length (hits xs qs) ≤ length qs
unfolding hits
hits_le xs [] = zero-le
hits_le xs (q ∷ qs) = let i = hits_le xs qs in by_test (contains q xs) (λ e. rw e (omega arith)) (λ e. rw e (omega arith))

-- a row is among the hits exactly if it is in the set and was asked for
pub contains_hits : (d : ℕ) (xs qs : List ℕ) → contains d (hits xs qs) ≡ contains d xs && contains d qs
unfolding hits contains
contains_hits d xs [] = by_test (contains d xs) (λ e. rw e) (λ e. rw e)
contains_hits d xs (q ∷ qs) =
    let i = contains_hits d xs qs in
    by_test (eqb q d)
    (λ e. rw (eqb-true q d e) (by_test (contains d xs) (λ f. rw (f, eq-eqb d d refl)) (λ f. rw f (rw f at i))))
    (λ e. by_test (contains q xs) (λ f. rw (f, e) i) (λ f. rw (f, e) i))

-- ---- ranks and rows stand where their questions stand

pub ranks_at : (xs qs : List ℕ) (i : ℕ) → i < length qs → get_or (ranks xs qs) i 0 ≡ rank (get_or qs i 0) xs
ranks_at xs qs i = get_or-map (λ q. rank q xs) qs i 0 0

-- every hit is a member and a question, and its rank belongs to it
pub hits_members : (xs qs : List ℕ) (i : ℕ) → i < length (hits xs qs)
    → (contains (get_or (hits xs qs) i 0) xs ≡ true) × (contains (get_or (hits xs qs) i 0) qs ≡ true)
    × (get_or (ranks xs (hits xs qs)) i 0 ≡ rank (get_or (hits xs qs) i 0) xs)
hits_members xs qs i h =
    let d = get_or (hits xs qs) i 0 in
    let p = and_parts (contains d xs) (contains d qs) (sym (contains_hits d xs qs) ∙ member_contains i (hits xs qs) h) in
    (p.0, p.1, ranks_at xs (hits xs qs) i h)

-- batch select: each rank replaced in place by its row
pub selects_at : (xs ks : List ℕ) (i : ℕ) → i < length ks → get_or (selects xs ks) i 0 ≡ select (get_or ks i 0) xs
selects_at xs ks i = get_or-map (λ k. select k xs) ks i 0 0

pub length_selects : (xs ks : List ℕ) → length (selects xs ks) ≡ length ks
length_selects xs ks = length-map ks (λ k. select k xs)

-- ---- pages

-- from rank r, into a list of length L, the next min(L, n - r) rows
pub length_page : (r room : ℕ) (xs : List ℕ) → length (page r room xs) ≡ min room (length xs - r)
length_page r room xs = simp (length-take, length-drop)

pub page_at : (r room : ℕ) (xs : List ℕ) (j : ℕ) → j < length (page r room xs) → get_or (page r room xs) j 0 ≡ select (r + j) xs
page_at r room xs j h = get_or-take room (drop r xs) j 0 (omega (arith, length_page r room xs)) ∙ get_or-drop r xs j 0

-- pages of the sizes, each begun where the last ended
unfoldable pub pages : ℕ → List ℕ → List ℕ → List ℕ
pages r [] xs = []
pages r (s ∷ ss) xs = page r s xs ++ pages (r + length (page r s xs)) ss xs

abbrev pub Positive : List ℕ → Type 0
Positive [] = Unit {0}
Positive (s ∷ ss) = (0 < s) × Positive ss

-- joined, enough of them are every row from rank r on, once, ascending
pub pages_all : (r : ℕ) (sizes xs : List ℕ) → Positive sizes → length xs ≤ r + length sizes → pages r sizes xs ≡ drop r xs
unfolding pages
pages_all r [] xs p h = sym (drop_of_length-le xs {i = r} (omega arith))
pages_all r (s ∷ ss) xs p h =
    let n = length (page r s xs) in
    rw (pages_all (r + n) ss xs p.1 (omega (arith, length_page r s xs)), ← drop-drop n r xs) (rest s (drop r xs))
  where
    rest : (n : ℕ) (l : List ℕ) → take n l ++ drop (length (take n l)) l ≡ l
    rest zero l = refl
    rest (suc n) [] = refl
    rest (suc n) (x ∷ l) = ap (λ t. x ∷ t) (rest n l)

pub pages_whole : (sizes xs : List ℕ) → Positive sizes → length xs ≤ length sizes → pages 0 sizes xs ≡ xs
pages_whole sizes xs p h = pages_all 0 sizes xs p (omega arith)
