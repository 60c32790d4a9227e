-- The one-shot forms agree with opening, into a directory that is long enough, and asking. Here s is what the question over the opened
-- file says, and t what the one-shot form says.
use Prim.Native.Nat.{ℕ}
use mathlib.Core.Path.{◌≡◌, sym, ◌∙◌}
use mathlib.Core.List.{List}
use lib.Dec.{leb}
use borrow.Author.Tests.{leb-true, leb-false}
use native.Mathlib.Omega.{arith}
use Rattle.spec.specs.declared.Record.{Record}
use Rattle.spec.specs.Layout.{Block, rows_of}
use Rattle.spec.specs.Reading.{AreBytes, Head, Given}
use Rattle.spec.specs.Answers.{Said, value, OpenOwes, OnceOwes, say_contains, say_rank, say_lookup, say_select, say_next, ContainsOwes, RankOwes, LookupOwes, SelectOwes, NextOwes}
use Rattle.spec.proofs.Tests.{by_test}
use Rattle.spec.proofs.Promises.{open_given, once_asks, select_says, select_rank_9}
use Rattle.spec.proofs.Asking.{contains_owes, rank_owes, lookup_owes, next_owes, select_late, select_owes}
use Rattle.spec.proofs.Directory.{open_unbroken, given_populated}

module _ (file directory directory' : List ℕ) (rec : Record) (y : AreBytes file) (w : OpenOwes file directory (value rec, directory')) where
  given : (h : Head) × (gs : List Block) × Given file directory' rec h gs
  given = open_given file directory directory' rec w

  abbrev set : List ℕ
  set = rows_of given.1

  said : (question : List ℕ → Said ℕ) (t : Said ℕ) → OnceOwes file question t → t ≡ question set
  said question t o = once_asks file question t o given.0 given.1 given.2.accepted

  module _ (d : ℕ) (s t : Said ℕ) where
    pub contains_agrees : ContainsOwes file directory' rec d s → OnceOwes file (say_contains d) t → s ≡ t
    contains_agrees a o =
        (contains_owes file directory' rec (open_unbroken file directory directory' rec y w) d s a).1 given.0 given.1 given.2 ∙ sym (said (say_contains d) t o)

    pub rank_agrees : RankOwes file directory' rec d s → OnceOwes file (say_rank d) t → s ≡ t
    rank_agrees a o =
        (rank_owes file directory' rec (open_unbroken file directory directory' rec y w) d s a).1 given.0 given.1 given.2 ∙ sym (said (say_rank d) t o)

    pub lookup_agrees : LookupOwes file directory' rec d s → OnceOwes file (say_lookup d) t → s ≡ t
    lookup_agrees a o =
        (lookup_owes file directory' rec (open_unbroken file directory directory' rec y w) d s a).1 given.0 given.1 given.2 ∙ sym (said (say_lookup d) t o)

    pub next_agrees : NextOwes file directory' rec d s → OnceOwes file (say_next d) t → s ≡ t
    next_agrees a o =
        (next_owes file directory' rec (open_unbroken file directory directory' rec y w) d s a).1 given.0 given.1 given.2 ∙ sym (said (say_next d) t o)

    pub select_agrees : SelectOwes file directory' rec d s → OnceOwes file (say_select d) t → s ≡ t
    select_agrees a o =
        let ok = open_unbroken file directory directory' rec y w in
        let n = given_populated file directory' rec given.0 given.1 y given.2 in
        by_test (leb rec.populated d)
        (λ e. let l = leb-true rec.populated d e in
        select_late file directory' rec ok d s l a ∙ sym (said (say_select d) t o ∙ select_rank_9 set d (omega (arith, n))))
        (λ e. let l = leb-false rec.populated d e in
        (select_owes file directory' rec ok d s l a).1 given.0 given.1 given.2 ∙ sym (said (say_select d) t o ∙ select_says set d (omega (arith, n))))
