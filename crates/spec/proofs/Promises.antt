-- What writing, opening and the one-shot forms owe, said a second time: with orders where the definitions have tests.
use Prim.Native.Nat.{ℕ, zero, suc, ◌+◌, ◌*◌, ◌≤◌, ◌<◌}
use mathlib.Core.Path.{◌≡◌, refl, sym, ap, ◌∙◌}
use mathlib.Core.List.{List, [], ◌∷◌, ◌++◌}
use mathlib.Core.Option.{none, some}
use native.Mathlib.Omega.{arith}
use lib.ListN.{length, get_or, take, drop}
use lib.Seq.{take_at, take-append_seam, drop-append_seam, length_front, length-take-le}
use lib.Dec.{leb, ltb}
use borrow.Author.Tests.{ltb-true, ltb-false, leb-false, le-leb, lt-leb, lt-ltb, le-ltb}
use Rattle.spec.specs.declared.Record.{Record}
use Rattle.spec.specs.Set.{select}
use Rattle.spec.specs.Layout.{Block, rows_of, file_of}
use Rattle.spec.specs.Reading.{limit, count_of_blocks, Head, Verdict, fault, holds, verdict, pairs, directory_of, Given}
use Rattle.spec.specs.Answers.{Said, value, nothing, refused, code, front, kept}
use Rattle.spec.specs.Answers.{row_fault, say_write, WriteOwes, say_open, OpenOwes, once, OnceOwes, CallOwes}
use Rattle.spec.specs.Answers.{say_contains, say_rank, say_lookup, say_select, say_next}
use Rattle.spec.proofs.Tests.{by_test, not_none}
use Rattle.spec.proofs.Numbers.{not_refused}
use Rattle.spec.proofs.Rising.{Rising}
use Rattle.spec.proofs.Questions.{contains_absent, member_contains, rank_is, rank_select, next_is}

-- ---- limits

-- 65,535 blocks of 65,536
pub limit_is : limit ≡ 65535 * 65536
limit_is = refl

-- B is the row count divided by 65,536, rounded up
pub block_count_up : (count : ℕ) → (count ≤ count_of_blocks count * 65536) × (count_of_blocks count * 65536 < count + 65536)
block_count_up count = omega arith

-- ---- write: 1; then rows from the first, the first faulty row deciding, 2 before 3; then 4

-- the rows before the faulty one are passed over
fault_after : (count low p : ℕ) (ps rs : List ℕ) → Rising low count (ps ++ (p ∷ [])) → row_fault count low (ps ++ (p ∷ rs)) ≡ row_fault count (suc p) rs
unfolding row_fault
fault_after count low p [] rs r = rw (le-ltb p low r.0, lt-leb count p r.1)
fault_after count low p (q ∷ ps) rs r = rw (le-ltb q low r.0, lt-leb count q r.1) (fault_after count (suc q) p ps rs r.2)

-- no row is faulty exactly where the rows are strictly increasing and below the row count
pub fault_none : (count low : ℕ) (rows : List ℕ) → Rising low count rows → row_fault count low rows ≡ none
unfolding row_fault
fault_none count low [] r = refl
fault_none count low (x ∷ xs) r = rw (le-ltb x low r.0, lt-leb count x r.1) (fault_none count (suc x) xs r.2)

pub none_rising : (count low : ℕ) (rows : List ℕ) → row_fault count low rows ≡ none → Rising low count rows
unfolding row_fault
none_rising count low [] e = tt
none_rising count low (x ∷ xs) e =
    by_test (ltb x low) (λ p. not_none (rw p at e))
    (λ p. by_test (leb count x) (λ q. not_none (rw (p, q) at e))
    (λ q. (ltb-false x low p, leb-false count x q, none_rising count (suc x) xs (rw (p, q) at e))))

-- 1: the row count is above the limit
pub write_rows : (count room : ℕ) (rows : List ℕ) → 4294901760 < count → say_write count rows room ≡ refused 1
unfolding say_write
write_rows count room rows h = rw (lt-ltb limit count h)

module _ (count room : ℕ) (small : count ≤ 4294901760) where
  pub write_fault : (k : ℕ) (rows : List ℕ) → row_fault count 0 rows ≡ some k → say_write count rows room ≡ refused k
  unfolding say_write
  write_fault k rows e = rw (le-ltb limit count small, e)

  -- 2: the first faulty row is not larger than the one before
  pub write_order : (p r : ℕ) (ps rs : List ℕ) → Rising 0 count (ps ++ (p ∷ [])) → r ≤ p
      → say_write count (ps ++ (p ∷ r ∷ rs)) room ≡ refused 2
  unfolding row_fault
  write_order p r ps rs f h = write_fault 2 (ps ++ (p ∷ r ∷ rs)) (fault_after count 0 p ps (r ∷ rs) f ∙ rw (lt-ltb r (suc p) (omega arith)))

  -- 3: it is larger, or the first, but at or past the row count
  pub write_range : (p r : ℕ) (ps rs : List ℕ) → Rising 0 count (ps ++ (p ∷ [])) → p < r → count ≤ r
      → say_write count (ps ++ (p ∷ r ∷ rs)) room ≡ refused 3
  unfolding row_fault
  write_range p r ps rs f h l =
      write_fault 3 (ps ++ (p ∷ r ∷ rs)) (fault_after count 0 p ps (r ∷ rs) f ∙ rw (le-ltb r (suc p) h, le-leb count r l))

  pub write_range_first : (r : ℕ) (rs : List ℕ) → count ≤ r → say_write count (r ∷ rs) room ≡ refused 3
  unfolding row_fault
  write_range_first r rs l = write_fault 3 (r ∷ rs) (rw (le-ltb r 0 (omega arith), le-leb count r l))

  -- 4: no row is faulty, and the output is shorter than the file
  pub write_room : (rows : List ℕ) → Rising 0 count rows → room < length (file_of count rows) → say_write count rows room ≡ refused 4
  unfolding say_write
  write_room rows f h = rw (le-ltb limit count small, fault_none count 0 rows f, lt-ltb room (length (file_of count rows)) h)

  -- otherwise the file's length
  pub write_fits : (rows : List ℕ) → Rising 0 count rows → length (file_of count rows) ≤ room
      → say_write count rows room ≡ value (length (file_of count rows))
  unfolding say_write
  write_fits rows f h = rw (le-ltb limit count small, fault_none count 0 rows f, le-ltb room (length (file_of count rows)) h)

-- a refusal leaves the output unchanged; else the file lies at its front, and the rest stays
module _ (count k : ℕ) (rows out : List ℕ) (o : Said ℕ × List ℕ) (w : WriteOwes count rows out o) where
  pub write_keeps : o.0 ≡ refused k → o.1 ≡ out
  write_keeps e = ap (λ p. p.1) w ∙ rw (sym (ap (λ p. p.0) w) ∙ e)

  pub write_lays : o.0 ≡ value k → o.1 ≡ file_of count rows ++ drop (length (file_of count rows)) out
  write_lays e = ap (λ p. p.1) w ∙ rw (sym (ap (λ p. p.0) w) ∙ e)

-- ---- lent buffers

-- a buffer is as it was, but after a value
pub kept_says : (A : Type 0) (new old : List ℕ) → ((v : A) → kept (value v) new old ≡ front new old)
    × (kept {A = A} nothing new old ≡ old) × ((k : ℕ) → kept {A = A} (refused k) new old ≡ old)
kept_says A new old = (λ v. refl, refl, λ k. refl)

-- what lies at the front is the new, past it is the old, and no list grows
pub front_says : (new old : List ℕ) → length new ≤ length old
    → (take (length new) (front new old) ≡ new) × (drop (length new) (front new old) ≡ drop (length new) old) × (length (front new old) ≡ length old)
front_says new old h = (
  take-append_seam new (drop (length new) old),
  drop-append_seam new (drop (length new) old),
  length_front old new (length new) (sym (length-take-le (length new) old h)),
)

-- ---- open: 5, 1, 6, 7, 8, 4

module _ (file directory : List ℕ) (o : Said Record × List ℕ) (w : OpenOwes file directory o) where
  -- 5, 1, 6, 7, 8: the bytes are at fault
  pub open_fault : (k : ℕ) → verdict file ≡ fault k → o ≡ (refused k, directory)
  unfolding say_open
  open_fault k v = w ∙ rw v

  module _ (h : Head) (gs : List Block) (v : verdict file ≡ holds h gs) where
    -- 4: the directory is under 2(B+1) words
    pub open_room : length directory < 2 * (count_of_blocks h.count + 1) → o ≡ (refused 4, directory)
    unfolding say_open
    open_room l = w ∙ rw (v, lt-ltb (length directory) (2 * (count_of_blocks h.count + 1)) l)

    -- otherwise the record; the directory lies at the front, further words stay
    pub open_index : 2 * (count_of_blocks h.count + 1) ≤ length directory
        → o ≡ (
          value (record { row_count = h.count; populated = length (rows_of gs); data_start = h.start }),
          directory_of h.count gs ++ drop (length (directory_of h.count gs)) directory,
        )
    unfolding say_open
    open_index l = w ∙ rw (v, le-ltb (length directory) (2 * (count_of_blocks h.count + 1)) l)

length_pairs : (f b : ℕ) (gs : List Block) → length (pairs f b gs) ≡ 2 * f
unfolding pairs
length_pairs zero b gs = refl
length_pairs (suc f) b gs = let i = length_pairs f (suc b) gs in omega arith

pub length_directory : (count : ℕ) (gs : List Block) → length (directory_of count gs) ≡ 2 * (count_of_blocks count + 1)
unfolding directory_of
length_directory count gs = length_pairs (suc (count_of_blocks count)) 0 gs ∙ omega arith

-- what opening gives is given together
pub open_given : (file directory directory' : List ℕ) (rec : Record) → OpenOwes file directory (value rec, directory')
    → (h : Head) × (gs : List Block) × Given file directory' rec h gs
open_given file directory directory' rec w = go (verdict file) refl
  where
    go : (v : Verdict) → verdict file ≡ v → (h : Head) × (gs : List Block) × Given file directory' rec h gs
    go (fault k) v = not_refused (ap (λ p. p.0) (open_fault file directory (value rec, directory') w k v))
    go (holds h gs) v =
        let n = 2 * (count_of_blocks h.count + 1) in
        by_test (ltb (length directory) n)
        (λ q. not_refused (ap (λ p. p.0) (open_room file directory (value rec, directory') w h gs v (ltb-true (length directory) n q))))
        (λ q.
        let e = open_index file directory (value rec, directory') w h gs v (ltb-false (length directory) n q) in
        let f = ap (λ p. p.0) e in (
          h,
          gs,
          record {
            accepted = v;
            record' = cc;
            words = ap (λ p. take n p.1) e ∙ take_at (directory_of h.count gs) _ n (length_directory h.count gs);
          },
        ))

-- ---- one-shot forms, and the C calls: opening's checks, and then the answer

module _ (file : List ℕ) (question : List ℕ → Said ℕ) (s : Said ℕ) (w : OnceOwes file question s) where
  pub once_fault : (k : ℕ) → verdict file ≡ fault k → s ≡ refused k
  unfolding once
  once_fault k v = w ∙ rw v

  pub once_asks : (h : Head) (gs : List Block) → verdict file ≡ holds h gs → s ≡ question (rows_of gs)
  unfolding once
  once_asks h gs v = w ∙ rw v

  pub call_codes : (r : ℕ) → CallOwes file question r → r ≡ code s
  call_codes r c = c ∙ ap code (sym w)

-- ---- the questions, asked of a set

module _ (xs : List ℕ) where
  -- contains: yes exactly when the row is in the set
  pub contains_yes : (k : ℕ) → k < length xs → say_contains (select k xs) xs ≡ value 1
  contains_yes k h = rw (member_contains k xs h)

  pub contains_no : (d : ℕ) → ((k : ℕ) → k < length xs → select k xs ≡ d → ⊥) → say_contains d xs ≡ value 0
  contains_no d h = rw (contains_absent d xs h)

  -- rank: the number of members below d
  pub rank_says : (n d : ℕ) → n ≤ length xs → ((k : ℕ) → k < n → select k xs < d) → ((k : ℕ) → n ≤ k → k < length xs → d ≤ select k xs)
      → say_rank d xs ≡ value n
  rank_says n d l a b = ap value (rank_is n d xs l a b)

  -- lookup: the rank of a member, otherwise not there
  pub lookup_says : (k low end : ℕ) → Rising low end xs → k < length xs → say_lookup (select k xs) xs ≡ value k
  lookup_says k low end r h = rw (member_contains k xs h, rank_select low end xs r k h)

  pub lookup_nothing : (d : ℕ) → ((k : ℕ) → k < length xs → select k xs ≡ d → ⊥) → say_lookup d xs ≡ nothing
  lookup_nothing d h = rw (contains_absent d xs h)

  -- select: element k; 9 exactly when k is at or above n
  pub select_says : (k : ℕ) → k < length xs → say_select k xs ≡ value (get_or xs k 0)
  select_says k h = rw (lt-leb (length xs) k h)

  pub select_rank_9 : (k : ℕ) → length xs ≤ k → say_select k xs ≡ refused 9
  select_rank_9 k h = rw (le-leb (length xs) k h)

  -- next: the smallest member at or after t; "none" exactly if no member is at or after t
  pub next_says : (n t : ℕ) → n < length xs → ((k : ℕ) → k < n → select k xs < t) → t ≤ select n xs → say_next t xs ≡ value (select n xs)
  next_says n t l a b = rw (next_is n t xs (omega arith) a (λ m. b), lt-ltb n (length xs) l)

  pub next_nothing : (t : ℕ) → ((k : ℕ) → k < length xs → select k xs < t) → say_next t xs ≡ nothing
  next_nothing t a =
      rw (next_is (length xs) t xs (omega arith) a (λ m. absurd (omega arith)), le-ltb (length xs) (length xs) (omega arith))
