-- Searches of places: where the target is or would go, halved, probed and narrowed, and the answer that is left.
use Prim.Native.Nat.{ℕ, suc, ◌+◌, ◌-◌, ◌/◌, ◌≤◌, ◌<◌, min}
use mathlib.Core.Path.{◌≡◌, sym, ap, subst, ◌∙◌}
use mathlib.Core.Bool.{true, false, cond, true≢false}
use mathlib.Core.List.{List}
use native.Mathlib.Omega.{arith, by_contra}
use lib.ListN.{length, get_or, take, drop}
use lib.Dec.{ltb, eqb}
use borrow.Author.Tests.{ltb-true, ltb-false, eqb-true, eqb-false}
use Rattle.spec.specs.Set.{rising, contains, rank, select}
use Rattle.spec.specs.Layout.{size}
use Rattle.spec.specs.Reading.{part}
use Rattle.spec.proofs.Tests.{by_test}
use Rattle.spec.proofs.Bytes.{length_part, get_or_part}
use Rattle.spec.proofs.Rising.{Rising, rising_facts, rising_true, rising_steps, rising_take, rising_drop}
use Rattle.spec.proofs.Questions.{contains_absent, member_contains, rank_is, rank_le, rank_lt, rank_select, select_rank, rank_below, rank_above}
use Rattle.search.specs.Search.{places_said, answer, index_of, shifted, AllBelow, Finds, Near}
use Rattle.std.specs.Prelude.{Result, Ok, Err}
use Rattle.search.proofs.PlaceLaws.{length_places, cut, length_cut, places_cut}

-- ---- among which places the target is or would go

-- at first, all
pub near_all : (ps : List ℕ) (t e : ℕ) → length ps ≤ e → Near ps t 0 e
near_all ps t e h = record { before = λ k l. absurd (omega arith); after = λ k l m. absurd (omega arith) }

-- the place k places on is at least k more: so one place decides on those before it and on those after it
module _ (ps : List ℕ) (rises : rising 0 size ps ≡ true) {t a e : ℕ} (near : Near ps t a e) (m : ℕ) (inside : m < length ps) where
  pub near_from : (b e' : ℕ) → e ≤ e' → b ≤ m + 1 → get_or ps m 0 + b ≤ t + m → Near ps t b e'
  near_from b e' j h l = record {
    before = λ k j. omega (arith, rising_steps k m 0 size ps (omega arith) inside (rising_facts 0 size ps rises));
    after = λ k n. near.after k (omega arith);
  }

  pub near_to : (b : ℕ) → m ≤ b → t + m < get_or ps m 0 + b → Near ps t a b
  near_to b h l = record {
    before = near.before;
    after = λ k j j'. omega (arith, rising_steps m k 0 size ps (omega arith) j' (rising_facts 0 size ps rises));
  }

-- a place below the target, and by how much
module _ (ps : List ℕ) (rises : rising 0 size ps ≡ true) {t : ℕ} (m : ℕ) (inside : m < length ps) where
  pub passed : get_or ps m 0 < t → AllBelow ps t (m + 1)
  passed h = (near_from ps rises (near_all ps t (length ps) (omega arith)) m inside (m + 1) (length ps) (omega arith) (omega arith) (omega arith)).before

  pub near_gap : (gap : ℕ) → 0 < gap → get_or ps m 0 + gap ≡ t → Near ps t (m + 1) (m + 1 + gap)
  near_gap gap h e = record {
    before = passed (omega arith);
    after = (near_to ps rises (near_all ps t (length ps) (omega arith)) m inside (m + 1 + gap) (omega arith) (omega arith)).after;
  }

-- ---- the answer

-- where the target stands: at an index, or between two
abbrev pub Stands : List ℕ → ℕ → Result ℕ ℕ → Type 0
Stands ps t (Ok i) = (i < length ps) × (get_or ps i 0 ≡ t)
Stands ps t (Err i) = (i ≤ length ps) × Near ps t i i

module _ (ps : List ℕ) (rises : rising 0 size ps ≡ true) (t : ℕ) where
  pub stands_answer : (r : Result ℕ ℕ) → Stands ps t r → r ≡ answer t ps
  stands_answer (Ok i) s =
      let yes' : contains t ps ≡ true = rw s.1 at (member_contains i ps s.0) in
      let is : rank t ps ≡ i = rw s.1 at (rank_select 0 size ps (rising_facts 0 size ps rises) i s.0) in
      rw (yes', is)
  stands_answer (Err i) s =
      let absent : contains t ps ≡ false =
      contains_absent t ps (λ k l e.
      by_test (ltb k i) (λ q. omega (arith, s.1.before k (ltb-true k i q))) (λ q. omega (arith, s.1.after k (ltb-false k i q) l))) in
      let is : rank t ps ≡ i = rank_is i t ps s.0 s.1.before (λ k l m. omega (arith, s.1.after k l m)) in
      rw (absent, is)

  pub answer_stands : Stands ps t (answer t ps)
  answer_stands =
      let r : Rising 0 size ps = rising_facts 0 size ps rises in
      by_test (contains t ps) (λ q. rw q (rank_lt 0 size ps r t q, select_rank 0 size ps r t q))
      (λ q. rw q (
        rank_le t ps,
        record {
          before = rank_below 0 size ps r t;
          after = λ k l m.
              by_contra (suc t) (select k ps) (λ j.
              let e : select k ps ≡ t = omega (arith, rank_above 0 size ps r t k l m) in
              true≢false (sym (rw e at (member_contains k ps m)) ∙ q));
        },
      ))

-- what the answer says, found or not
pub answer_found : (ps : List ℕ) (t i : ℕ) → Ok i ≡ answer t ps → (contains t ps ≡ true) × (i ≡ rank t ps)
answer_found ps t i e =
    by_test (contains t ps) (λ q. let b : Ok i ≡ Ok (rank t ps) = rw q at e in (q, cc))
    (λ q. let b : Ok i ≡ Err (rank t ps) = rw q at e in (cc, cc))

pub answer_insert : (ps : List ℕ) (t i : ℕ) → Err i ≡ answer t ps → (contains t ps ≡ false) × (i ≡ rank t ps)
answer_insert ps t i e =
    by_test (contains t ps) (λ q. let b : Err i ≡ Ok (rank t ps) = rw q at e in (cc, cc))
    (λ q. let b : Err i ≡ Err (rank t ps) = rw q at e in (q, cc))

module _ {bs : List ℕ} {t cursor : ℕ} where
  -- a search that stands where the target does finds it
  pub finds : {r : Result ℕ ℕ} → index_of r ≤ length bs / 2 → (rising 0 size (places_said bs) ≡ true → AllBelow (places_said bs) t cursor → Stands (places_said bs) t r)
      → Finds bs t cursor r
  finds {r} l s = record { inside = l; exact = λ h p. stands_answer (places_said bs) h t r (s h p) }

  -- where all places before an index are below the target and the one at the index is not, the answer is at the index
  pub finds_at : (i p : ℕ) (r : Result ℕ ℕ) → i < length bs / 2 → p ≡ get_or (places_said bs) i 0 → t ≤ p
      → (rising 0 size (places_said bs) ≡ true → AllBelow (places_said bs) t cursor → AllBelow (places_said bs) t i) → r ≡ cond (eqb p t) (Ok i) (Err i)
      → Finds bs t cursor r
  finds_at i p r l e h before is =
      let n : length (places_said bs) ≡ length bs / 2 = length_places bs in
      by_test (eqb p t)
      (λ q. let s : r ≡ Ok i = rw q at is in rw s (finds (omega arith) (λ rises known. (omega arith, sym e ∙ eqb-true p t q))))
      (λ q.
      let s : r ≡ Err i = rw q at is in
      let above : t < p = by_contra (suc t) p (λ j. eqb-false p t q (omega arith)) in
      rw s (finds (omega arith) (λ rises known.
      let near : Near (places_said bs) t i (length bs / 2) = record { before = before rises known; after = λ k a b. absurd (omega arith) } in
      (omega arith, near_to (places_said bs) rises near i (omega arith) i (omega arith) (omega arith)))))

  -- where all places are below the target, the answer is at the end
  pub finds_end : (n : ℕ) → n ≡ length bs / 2 → (rising 0 size (places_said bs) ≡ true → AllBelow (places_said bs) t cursor → AllBelow (places_said bs) t n)
      → Finds bs t cursor (Err n)
  finds_end n e before =
      finds (omega arith) (λ rises known. (
        omega (arith, length_places bs),
        record { before = before rises known; after = λ k a b. absurd (omega (arith, length_places bs)) },
      ))

  -- a search of all places is one from any cursor on
  pub finds_all : {r : Result ℕ ℕ} → Finds bs t 0 r → Finds bs t cursor r
  finds_all f = record { inside = f.inside; exact = λ h p. f.exact h (λ k l. absurd (omega arith)) }

-- ---- a part that has the target's place

rising_part : (a e : ℕ) (ps : List ℕ) → rising 0 size ps ≡ true → rising 0 size (part a e ps) ≡ true
unfolding part
rising_part a e ps h = rising_true 0 size (take (e - a) (drop a ps)) (rising_take (e - a) 0 size (drop a ps) (rising_drop a 0 size ps (rising_facts 0 size ps h)))

module _ (ps : List ℕ) (t a e : ℕ) (ends : a ≤ e) (inside : e ≤ length ps) where
  part_at : (k : ℕ) → a ≤ k → k < e → get_or (part a e ps) (k - a) 0 ≡ get_or ps k 0
  part_at k h l = let e : a + (k - a) ≡ k = omega arith in get_or_part a _ ps (k - a) (omega arith) ∙ rw e

  -- found or not, counted from the start of the whole, it is the same
  narrow : Near ps t a e → (r : Result ℕ ℕ) → Stands (part a e ps) t r → Stands ps t (shifted a r)
  narrow near (Ok i) s =
      let l : i < e - a = omega (arith, s.0, length_part a e ps ends inside) in
      (omega arith, sym (get_or_part a e ps i l) ∙ s.1)
  narrow near (Err i) s =
      let n : length (part a e ps) ≡ e - a = length_part a e ps ends inside in
      let l : i ≤ e - a = omega (arith, s.0) in (
        omega arith,
        record {
          before = λ k j.
              by_test (ltb k a) (λ q. near.before k (ltb-true k a q))
              (λ q. let m = ltb-false k a q in omega (arith, part_at k m (omega arith), s.1.before (k - a) (omega arith)));
          after = λ k j j'.
              by_test (ltb k e) (λ q. let m = ltb-true k e q in omega (arith, part_at k (omega arith) m, s.1.after (k - a) (omega arith) (omega arith)))
              (λ q. near.after k (ltb-false k e q) j');
        },
      )

-- so the search of the bytes of a part, shifted, is one of the whole; the part ends at e, or at the block's end, if nearer
pub part_finds : (bs : List ℕ) (t a e b : ℕ) (r x : Result ℕ ℕ) → b ≡ min e (length bs / 2) → a ≤ b
    → (rising 0 size (places_said bs) ≡ true → Near (places_said bs) t a e) → Finds (cut bs a b) t 0 r → x ≡ shifted a r → Finds bs t 0 x
part_finds bs t a e b r x nearer ends near f q =
    let ps = places_said bs in
    let inside : b ≤ length bs / 2 = omega arith in
    let same = places_cut bs a b ends inside in
    rw q (finds (fits r f.inside) (λ h known.
    let rises = rising_part a b ps h in
    let is : r ≡ answer t (part a b ps) = f.exact (rw same rises) (λ k j. absurd (omega arith)) ∙ ap (answer t) same in
    let n : length ps ≡ length bs / 2 = length_places bs in
    let within : Near ps t a b = record { before = (near h).before; after = λ k l m. (near h).after k (omega arith) m } in
    narrow ps t a b ends (omega arith) within r (subst (Stands (part a b ps) t) (sym is) (answer_stands (part a b ps) rises t))))
  where
    fits : (r : Result ℕ ℕ) → index_of r ≤ length (cut bs a b) / 2 → index_of (shifted a r) ≤ length bs / 2
    fits (Ok i) l = omega (arith, length_cut bs a b ends (omega arith))
    fits (Err i) l = omega (arith, length_cut bs a b ends (omega arith))
