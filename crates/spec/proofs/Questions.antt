-- What the questions of a set mean: laws of any list first, then of strictly increasing ones.
use Prim.Native.Nat.{ℕ, zero, suc, ◌+◌, ◌-◌, ◌≤◌, ◌<◌, zero-le}
use mathlib.Core.Path.{◌≡◌, refl, sym, ◌∙◌}
use mathlib.Core.Bool.{true, false, ◌||◌, cond, true≢false, false≢true}
use mathlib.Core.List.{List, [], ◌∷◌, ◌++◌}
use mathlib.Core.Option.{Option, none, some}
use native.Mathlib.Nat.{zero-add}
use native.Mathlib.Omega.{arith, by_contra}
use lib.ListN.{length, get_or}
use lib.Dec.{leb, ltb, eqb, leb-suc-suc}
use borrow.Author.Tests.{ltb-true, ltb-false, eqb-true, le-leb, lt-leb, lt-ltb, le-ltb, eq-eqb}
use Rattle.std.proofs.lemmas.Bool.{and_parts, and_from}
use Rattle.spec.specs.Set.{contains, rank, lookup, select, next, below}
use Rattle.spec.proofs.Tests.{by_test}
use Rattle.spec.proofs.Rising.{Rising, rising_between, rising_from, rising_steps, rising_apart}

-- ---- contains: yes exactly for the elements of the list

pub contains_member : (d : ℕ) (xs : List ℕ) → contains d xs ≡ true → (k : ℕ) × (k < length xs) × (select k xs ≡ d)
unfolding contains
contains_member d [] e = absurd (false≢true e)
contains_member d (x ∷ xs) e =
    by_test (eqb x d) (λ q. (0, omega arith, eqb-true x d q)) (λ q. let m = contains_member d xs (rw q at e) in (suc m.0, omega arith, m.2))

pub member_contains : (k : ℕ) (xs : List ℕ) → k < length xs → contains (select k xs) xs ≡ true
unfolding contains
member_contains k [] h = absurd (omega arith)
member_contains zero (x ∷ xs) h = rw (eq-eqb x x refl)
member_contains (suc k) (x ∷ xs) h = rw (member_contains k xs (omega arith)) (by_test (eqb x (select k xs)) (λ q. rw q) (λ q. rw q))

-- there is no member past the last, where select says 0
pub select_past : (k : ℕ) (xs : List ℕ) → length xs ≤ k → select k xs ≡ 0
select_past k [] h = refl
select_past zero (x ∷ xs) h = absurd (omega arith)
select_past (suc k) (x ∷ xs) h = select_past k xs (omega arith)

-- if no element is d, d is not in the list
pub contains_absent : (d : ℕ) (xs : List ℕ) → ((k : ℕ) → k < length xs → select k xs ≡ d → ⊥) → contains d xs ≡ false
contains_absent d xs h =
    by_test (contains d xs) (λ e. let m = contains_member d xs e in absurd (h m.0 m.1 m.2)) (λ e. e)

-- of two lists
pub contains_append : (d : ℕ) (xs ys : List ℕ) → contains d (xs ++ ys) ≡ contains d xs || contains d ys
unfolding contains
contains_append d [] ys = refl
contains_append d (x ∷ xs) ys = rw (contains_append d xs ys) (by_test (eqb x d) (λ e. rw e) (λ e. rw e))

pub contains_here : (d : ℕ) (xs ys : List ℕ) → contains d (xs ++ (d ∷ ys)) ≡ true
unfolding contains
contains_here d xs ys = rw (contains_append d xs (d ∷ ys), eq-eqb d d refl) (by_test (contains d xs) (λ e. rw e) (λ e. rw e))

-- ---- rank: the number of members below d

-- of two lists, the sum
pub rank_append : (d : ℕ) (xs ys : List ℕ) → rank d (xs ++ ys) ≡ rank d xs + rank d ys
unfolding rank
rank_append d [] ys = sym (zero-add (rank d ys))
rank_append d (x ∷ xs) ys = omega (arith, rank_append d xs ys)

pub rank_le : (d : ℕ) (xs : List ℕ) → rank d xs ≤ length xs
unfolding rank
rank_le d [] = zero-le
rank_le d (x ∷ xs) = let i = rank_le d xs in by_test (ltb x d) (λ q. rw q (omega arith)) (λ q. rw q (omega arith))

-- it never falls
pub rank_mono : (d e : ℕ) (xs : List ℕ) → d ≤ e → rank d xs ≤ rank e xs
unfolding rank
rank_mono d e [] h = zero-le
rank_mono d e (x ∷ xs) h =
    let i = rank_mono d e xs h in
    by_test (ltb x d) (λ q. let l = ltb-true x d q in rw (q, lt-ltb x e (omega arith)) (omega arith)) (λ q. rw q (omega arith))

-- it is n, if the first n members are below d and the others are not
pub rank_is : (n d : ℕ) (xs : List ℕ) → n ≤ length xs → ((k : ℕ) → k < n → select k xs < d)
    → ((k : ℕ) → n ≤ k → k < length xs → d ≤ select k xs) → rank d xs ≡ n
unfolding rank
rank_is n d [] l a b = omega arith
rank_is zero d (x ∷ xs) l a b =
    let i = rank_is zero d xs zero-le (λ k l. absurd (omega arith)) (λ k l m. b (suc k) zero-le (omega arith)) in
    rw (le-ltb x d (b 0 zero-le (omega arith))) (omega arith)
rank_is (suc n) d (x ∷ xs) l a b =
    let i = rank_is n d xs (omega arith) (λ k l. a (suc k) (omega arith)) (λ k l m. b (suc k) (omega arith) (omega arith)) in
    rw (lt-ltb x d (a 0 (omega arith))) (omega arith)

-- ---- lookup: finds exactly the members, and says the number of members below

pub lookup_member : (d : ℕ) (xs : List ℕ) → contains d xs ≡ true → lookup d xs ≡ some (rank d xs)
lookup_member d xs e = rw e

pub lookup_absent : (d : ℕ) (xs : List ℕ) → contains d xs ≡ false → lookup d xs ≡ none
lookup_absent d xs e = rw e

pub lookup_found : (d n : ℕ) (xs : List ℕ) → lookup d xs ≡ some n → (contains d xs ≡ true) × (n ≡ rank d xs)
lookup_found d n xs e = by_test (contains d xs) (λ q. (q, cc)) (λ q. (cc, cc))

pub lookup_none : (d : ℕ) (xs : List ℕ) → lookup d xs ≡ none → contains d xs ≡ false
lookup_none d xs e = by_test (contains d xs) (λ q. cc) (λ q. q)

-- ---- next: the smallest member at or after t

-- it is member n, if the first n members are before t and member n is not; it is none, if all n members are before t
pub next_is : (n t : ℕ) (xs : List ℕ) → n ≤ length xs → ((k : ℕ) → k < n → select k xs < t) → (n < length xs → t ≤ select n xs)
    → next t xs ≡ cond (ltb n (length xs)) (some (select n xs)) none
unfolding next
next_is n t [] l a b = rw (le-ltb n 0 (omega arith))
next_is zero t (x ∷ xs) l a b = rw (le-leb t x (b (omega arith)), lt-ltb 0 (suc (length xs)) (omega arith))
next_is (suc n) t (x ∷ xs) l a b =
    rw (lt-leb t x (a 0 (omega arith)), leb-suc-suc) (next_is n t xs (omega arith) (λ k l. a (suc k) (omega arith)) (λ l. b (omega arith)))

-- "none", if no member is at or after t
pub none_next : (t : ℕ) (xs : List ℕ) → ((m : ℕ) → contains m xs ≡ true → m < t) → next t xs ≡ none
none_next t xs h =
    next_is (length xs) t xs (omega arith) (λ k l. h (select k xs) (member_contains k xs l)) (λ l. absurd (omega arith))
    ∙ rw (le-ltb (length xs) (length xs) (omega arith))

-- of two lists: the first's, or else the second's
abbrev pub or_else : Option ℕ → Option ℕ → Option ℕ
or_else none o = o
or_else (some s) o = some s

pub next_append : (t : ℕ) (xs ys : List ℕ) → next t (xs ++ ys) ≡ or_else (next t xs) (next t ys)
unfolding next
next_append t [] ys = refl
next_append t (x ∷ xs) ys = by_test (leb t x) (λ e. rw e) (λ e. rw e (next_append t xs ys))

-- ---- below: every one is, or one is not

pub below_all : (n : ℕ) (ks : List ℕ) → below n ks ≡ true → (i : ℕ) → i < length ks → get_or ks i 0 < n
unfolding below
below_all n [] e i h = absurd (omega arith)
below_all n (k ∷ ks) e zero h = ltb-true k n (and_parts (ltb k n) (below n ks) e).0
below_all n (k ∷ ks) e (suc i) h = below_all n ks (and_parts (ltb k n) (below n ks) e).1 i (omega arith)

pub all_below : (n : ℕ) (ks : List ℕ) → ((i : ℕ) → i < length ks → get_or ks i 0 < n) → below n ks ≡ true
unfolding below
all_below n [] h = refl
all_below n (k ∷ ks) h = and_from (ltb k n) (below n ks) (lt-ltb k n (h 0 (omega arith))) (all_below n ks (λ i l. h (suc i) (omega arith)))

pub below_bad : (n : ℕ) (ks : List ℕ) (i : ℕ) → i < length ks → n ≤ get_or ks i 0 → below n ks ≡ false
below_bad n ks i h l = by_test (below n ks) (λ e. absurd (omega (arith, below_all n ks e i h))) (λ e. e)

pub below_not : (n : ℕ) (ks : List ℕ) → below n ks ≡ false → (i : ℕ) × (i < length ks) × (n ≤ get_or ks i 0)
unfolding below
below_not n [] e = absurd (true≢false e)
below_not n (k ∷ ks) e =
    by_test (ltb k n) (λ q. let p = below_not n ks (rw q at e) in (suc p.0, omega arith, p.2)) (λ q. (0, omega arith, ltb-false k n q))

-- ---- of strictly increasing lists

module _ (low end : ℕ) (xs : List ℕ) (r : Rising low end xs) where
  -- a member lies between the bounds, so a row past the end is "no"
  pub contains_low : (d : ℕ) → contains d xs ≡ true → low ≤ d
  contains_low d e = let m = contains_member d xs e in omega (arith, rising_between m.0 low end xs m.1 r)

  pub contains_before : (d : ℕ) → d < low → contains d xs ≡ false
  contains_before d h = by_test (contains d xs) (λ e. absurd (omega (arith, contains_low d e))) (λ e. e)

  pub contains_past : (d : ℕ) → end ≤ d → contains d xs ≡ false
  contains_past d h = contains_absent d xs (λ k l e. omega (arith, rising_between k low end xs l r))

  pub lookup_past : (d : ℕ) → end ≤ d → lookup d xs ≡ none
  lookup_past d h = lookup_absent d xs (contains_past d h)

  -- none is below `low`, and all are below `end`
  pub rank_low : (d : ℕ) → d ≤ low → rank d xs ≡ 0
  rank_low d h = rank_is 0 d xs zero-le (λ k l. absurd (omega arith)) (λ k l m. omega (arith, rising_between k low end xs m r))

  pub rank_all : (d : ℕ) → end ≤ d → rank d xs ≡ length xs
  rank_all d h =
      rank_is (length xs) d xs (omega arith) (λ k l. omega (arith, rising_between k low end xs l r)) (λ k l m. absurd (omega arith))

  -- the member with exactly k members below it is element k
  pub rank_select : (k : ℕ) → k < length xs → rank (select k xs) xs ≡ k
  rank_select k h =
      rank_is k (select k xs) xs (omega arith) (λ i l. rising_apart i k low end xs l h r)
      (λ j l m. omega (arith, rising_steps k j low end xs l m r))

  pub rank_after : (k : ℕ) → k < length xs → rank (suc (select k xs)) xs ≡ suc k
  rank_after k h =
      rank_is (suc k) (suc (select k xs)) xs h (λ i l. omega (arith, rising_steps i k low end xs (omega arith) h r))
      (λ j l m. rising_apart k j low end xs l m r)

  -- so rank and select are inverse
  pub rank_lt : (d : ℕ) → contains d xs ≡ true → rank d xs < length xs
  rank_lt d e = let m = contains_member d xs e in rw (← m.2, rank_select m.0 m.1) m.1

  pub select_rank : (d : ℕ) → contains d xs ≡ true → select (rank d xs) xs ≡ d
  select_rank d e = let m = contains_member d xs e in cc (rank_select m.0 m.1)

  -- the members before the rank of d are below d, and those from it on are not
  pub rank_below : (d k : ℕ) → k < rank d xs → select k xs < d
  rank_below d k h =
      by_contra (suc (select k xs)) d
      (λ l. omega (arith, rank_mono d (select k xs) xs (omega arith), rank_select k (omega (arith, rank_le d xs))))

  pub rank_above : (d k : ℕ) → rank d xs ≤ k → k < length xs → d ≤ select k xs
  rank_above d k h l = by_contra d (select k xs) (λ m. omega (arith, rank_mono (suc (select k xs)) d xs m, rank_after k l))

  -- no more members are below d than numbers from `low` on
  pub rank_le_sub : (d : ℕ) → rank d xs ≤ d - low
  rank_le_sub d =
      by_contra (rank d xs) (d - low)
      (λ l. omega (arith, rank_below d (d - low) l, rising_from (d - low) low end xs (omega (arith, rank_le d xs)) r))

  -- and no more are at or above d than numbers up to `end`
  pub rank_rest : (d : ℕ) → length xs ≤ rank d xs + (end - d)
  rank_rest d =
      by_contra (length xs) (rank d xs + (end - d))
      (λ l. omega (
        arith,
        rank_above d (rank d xs) (omega arith) (omega arith),
        rising_steps (rank d xs) (rank d xs + (end - d)) low end xs (omega arith) l r,
        rising_between (rank d xs + (end - d)) low end xs l r,
      ))

  -- next is the member at the rank of t
  pub next_select : (t : ℕ) → next t xs ≡ cond (ltb (rank t xs) (length xs)) (some (select (rank t xs) xs)) none
  next_select t = next_is (rank t xs) t xs (rank_le t xs) (rank_below t) (rank_above t (rank t xs) (omega arith))

  -- no member is at or after the end, and every one is at or after `low`
  pub next_past : (t : ℕ) → end ≤ t → next t xs ≡ none
  next_past t h = none_next t xs (λ m c. let k = contains_member m xs c in omega (arith, rising_between k.0 low end xs k.1 r))

  pub next_low : (t u : ℕ) → t ≤ low → u ≤ low → next t xs ≡ next u xs
  next_low t u h l = simp (next_select, rank_low t h, rank_low u l)

  -- it is a member, at or after t, and the smallest such
  pub next_found : (t s : ℕ) → next t xs ≡ some s
      → (contains s xs ≡ true) × (t ≤ s) × ((m : ℕ) → contains m xs ≡ true → t ≤ m → s ≤ m)
  next_found t s e =
      by_test (ltb (rank t xs) (length xs))
      (λ q.
      let l = ltb-true (rank t xs) (length xs) q in
      let is : s ≡ select (rank t xs) xs = cc (next_select t) in
      rw is (
        member_contains (rank t xs) xs l,
        rank_above t (rank t xs) (omega arith) l,
        λ m c h. omega (arith, select_rank m c, rising_steps (rank t xs) (rank m xs) low end xs (rank_mono t m xs h) (rank_lt m c) r),
      ))
      (λ q. let z : ◌≡◌ {A = ℕ} 0 1 = cc (next_select t) in absurd (omega arith))

  -- "none" says that no member is at or after t
  pub next_none : (t : ℕ) → next t xs ≡ none → (m : ℕ) → contains m xs ≡ true → m < t
  next_none t e m c =
      by_test (ltb (rank t xs) (length xs)) (λ q. let z : ◌≡◌ {A = ℕ} 0 1 = cc (next_select t) in absurd (omega arith))
      (λ q. let l = ltb-false (rank t xs) (length xs) q in
      omega (arith, select_rank m c, rank_below t (rank m xs) (omega (arith, rank_lt m c))))
