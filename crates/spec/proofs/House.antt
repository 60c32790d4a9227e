-- The theorem of the house: strictly increasing rows below a permitted row count, written and then opened, answer every question, batch
-- and page as the set itself does.
use Prim.Native.Nat.{ℕ, ◌-◌, ◌≤◌, min}
use mathlib.Core.Path.{◌≡◌, refl, sym, ap, ◌∙◌}
use mathlib.Core.Bool.{true, false, not, ◌||◌}
use mathlib.Core.List.{List}
use mathlib.Core.Option.{Option, none}
use native.Mathlib.Omega.{arith}
use lib.ListN.{length, take, drop}
use lib.Seq.{take_at}
use lib.Dec.{leb, ltb}
use borrow.Author.Tests.{le-ltb}
use Rattle.spec.specs.declared.Record.{Record}
use Rattle.spec.specs.declared.Refusal.{Refusal}
use Rattle.std.specs.Prelude.{Result, Ok}
use Rattle.spec.specs.Set.{selects, below, page}
use Rattle.spec.specs.Layout.{Block, blocks, rows_of, file_of}
use Rattle.spec.specs.Reading.{Permitted, AreBytes, part, Head, holds, verdict, record_of, directory_length, Given}
use Rattle.spec.specs.Answers.{Said, value, refused, whenever, code, once, broken, Asked, Free, front, counted, opened, say_contains, say_rank, say_lookup, say_select, say_next, WriteOwes, OpenOwes, OnceOwes, CallOwes}
use Rattle.spec.specs.Answers.{ContainsOwes, RankOwes, LookupOwes, SelectOwes, NextOwes, LookupBatchOwes, SomeHits, all_hits, SelectBatchOwes, SomeRows, PageOwes, SomePage}
use Rattle.spec.proofs.Tests.{by_test}
use Rattle.spec.proofs.Rising.{rising_facts}
use Rattle.spec.proofs.Bytes.{bytes_part}
use Rattle.spec.proofs.RowCount.{head_of}
use Rattle.spec.proofs.Numbers.{counted_one, opened_one}
use Rattle.spec.proofs.Promises.{write_fits, write_lays, open_index, open_given, once_asks}
use Rattle.spec.proofs.Demands.{written_accepted}
use Rattle.spec.proofs.Asking.{late_asked, none_asked}
use Rattle.spec.proofs.Directory.{given_unbroken, given_populated}

-- what each call says of the rows: s and o are its answer, with the lent lists afterwards
pub record House (rows file directory : List ℕ) (rec : Record) : Type 0 where
  pub contains : (d : ℕ) (s : Said ℕ) → ContainsOwes file directory rec d s → s ≡ say_contains d rows
  pub rank : (d : ℕ) (s : Said ℕ) → RankOwes file directory rec d s → s ≡ say_rank d rows
  pub lookup : (d : ℕ) (s : Said ℕ) → LookupOwes file directory rec d s → s ≡ say_lookup d rows
  pub next : (t : ℕ) (s : Said ℕ) → NextOwes file directory rec t s → s ≡ say_next t rows
  pub select : (k : ℕ) (s : Said ℕ) → SelectOwes file directory rec k s → s ≡ say_select k rows
  pub lookup_batch : (questions rs ks : List ℕ) (o : Said ℕ × List ℕ × List ℕ) → LookupBatchOwes file directory rec questions rs ks o
      → length questions ≤ length rs → length questions ≤ length ks → o ≡ all_hits questions rs ks rows
  pub select_batch : (ks : List ℕ) (o : Said (Unit {0}) × List ℕ) → SelectBatchOwes file directory rec ks o → below (length rows) ks ≡ true
      → o ≡ (value tt, selects rows ks)
  pub page : (r : ℕ) (out : List ℕ) (o : Said ℕ × List ℕ) → PageOwes file directory rec r out o → r ≤ length rows
      → o ≡ (value (length (page r (length out) rows)), front (page r (length out) rows) out)
  pub once : (question : List ℕ → Said ℕ) (s : Said ℕ) → OnceOwes file question s → s ≡ question rows
  pub call : (question : List ℕ → Said ℕ) (r : ℕ) → CallOwes file question r → r ≡ code (question rows)

-- of what opening gave together, whose rows are these
module _ (rows file directory : List ℕ) (rec : Record) (h : Head) (gs : List Block) (y : AreBytes file) (g : Given file directory rec h gs) (same : rows_of gs ≡ rows) where
  ok : broken file directory rec ≡ false
  ok = given_unbroken file directory rec h gs y g

  many : rec.populated ≡ length rows
  many = given_populated file directory rec h gs y g ∙ ap length same

  -- a question that no refusal comes late for
  asked : {O : Type 0} (late : Option ℕ) (refuse : ℕ → O) (loose : O → Type 0) (exact : List ℕ → O) (o : O) → late ≡ none
      → Asked file directory rec late refuse loose exact o → o ≡ exact rows
  asked late refuse loose exact o e a = (none_asked file directory rec late refuse loose exact o ok e a).1 h gs g ∙ ap exact same

  at_rank : (k : ℕ) (s : Said ℕ) → SelectOwes file directory rec k s → s ≡ say_select k rows
  at_rank k s a =
      by_test (leb rec.populated k)
      (λ e. late_asked file directory rec (whenever (leb rec.populated k) 9) refused Free (say_select k) s 9 ok (rw e) a ∙ rw (rw many at e))
      (λ e. asked (whenever (leb rec.populated k) 9) refused Free (say_select k) s (rw e) a)

  in_house : House rows file directory rec
  in_house =
      record {
        contains = λ d s a. asked none refused Free (say_contains d) s refl a;
        rank = λ d s a. asked none refused Free (say_rank d) s refl a;
        lookup = λ d s a. asked none refused Free (say_lookup d) s refl a;
        next = λ t s a. asked none refused Free (say_next t) s refl a;
        select = at_rank;
        lookup_batch = λ questions rs ks o a l m.
            asked (whenever (ltb (length rs) (length questions) || ltb (length ks) (length questions)) 4) (λ k. (refused k, rs, ks)) (SomeHits questions rs ks)
            (all_hits questions rs ks) o (rw (le-ltb (length rs) (length questions) l, le-ltb (length ks) (length questions) m)) a;
        select_batch = λ ks o a l.
            asked (whenever (not (below rec.populated ks)) 9) (λ k. (refused k, ks)) (SomeRows ks) (λ xs. (value tt, selects xs ks)) o (rw (many, l)) a;
        page = λ r out o a l.
            asked (whenever (ltb rec.populated r) 9) (λ k. (refused k, out)) (SomePage (min (length out) (rec.populated - r)) out)
            (λ xs. (value (length (page r (length out) xs)), front (page r (length out) xs) out)) o (rw (le-ltb rec.populated r (omega (arith, many)))) a;
        once = λ question s o. once_asks file question s o h gs g.accepted ∙ ap question same;
        call = λ question r c. c ∙ ap code (once_asks file question (once file question) refl h gs g.accepted ∙ ap question same);
      }

-- writing, then opening, each into memory that is large enough
pub house : (count : ℕ) (rows out out' : List ℕ) (w : Result ℕ Refusal) → Permitted count rows → length (file_of count rows) ≤ length out → AreBytes out'
    → WriteOwes count rows out (counted w, out') → let n = length (file_of count rows) in
    (w ≡ Ok n) × ((directory directory' : List ℕ) (r : Result Record Refusal) → directory_length count ≤ length directory
    → OpenOwes (take n out') directory (opened r, directory') → (rec : Record) × (r ≡ Ok rec) × House rows (take n out') directory' rec)
unfolding part
house count rows out out' w p room y wrote =
    let n = length (file_of count rows) in
    let v : counted w ≡ value n = ap (λ o. o.0) wrote ∙ write_fits count (length out) p.limited rows (rising_facts 0 count rows p.rises) room in
    let file : take n out' ≡ file_of count rows =
    ap (take n) (write_lays count n rows out (counted w, out') wrote v) ∙ take_at (file_of count rows) (drop n out) n refl in
    let zero : n - 0 ≡ n = omega arith in
    let bytes : AreBytes (take n out') = rw zero at (bytes_part 0 n out' y) in
    let a = written_accepted count rows p in
    let rec = record_of (head_of count) (blocks rows) in (
      counted_one w (Ok n) v,
      λ directory directory' r long opens.
          let o = open_index (take n out') directory (opened r, directory') opens (head_of count) (blocks rows) (ap verdict file ∙ a.0) long in
          let is : opened r ≡ value rec = ap (λ o. o.0) o in
          let g = open_given (take n out') directory directory' rec (sym (ap (λ s. (s, directory')) is) ∙ opens) in
          let same : holds (head_of count) (blocks rows) ≡ holds g.0 g.1 = sym (ap verdict file ∙ a.0) ∙ g.2.accepted in
          let gs : blocks rows ≡ g.1 = cc in
          (rec, opened_one r (Ok rec) is, in_house rows (take n out') directory' rec g.0 g.1 bytes g.2 (ap rows_of (sym gs) ∙ a.1)),
    )
