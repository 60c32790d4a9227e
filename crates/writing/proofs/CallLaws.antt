-- What a call of `write` leaves, of any arguments: r is its answer, out' the output afterwards.
use Prim.Native.Nat.{ℕ, ◌≤◌}
use mathlib.Core.Path.{◌≡◌, refl, sym, ap, ◌∙◌}
use mathlib.Core.Bool.{Bool, true, false}
use mathlib.Core.List.{List, ◌++◌}
use mathlib.Core.Option.{Option, none, some}
use native.Mathlib.Omega.{arith}
use lib.ListN.{length, take, drop}
use lib.Seq.{take_at}
use lib.Dec.{ltb}
use borrow.Author.Tests.{ltb-false}
use Rattle.std.specs.Prelude.{Result, Ok}
use Rattle.spec.specs.declared.Refusal.{Refusal}
use Rattle.spec.specs.Layout.{blocks, rows_of, file_of}
use Rattle.spec.specs.Reading.{limit, Permitted, holds, verdict}
use Rattle.spec.specs.Answers.{Said, value, unless, whenever, counted, row_fault, say_write, WriteOwes}
use Rattle.spec.proofs.Numbers.{counted_one}
use Rattle.spec.proofs.Rising.{rising_facts, rising_true}
use Rattle.spec.proofs.RowCount.{head_of}
use Rattle.spec.proofs.Promises.{none_rising, write_fits, write_lays}
use Rattle.spec.proofs.Demands.{written_accepted}

-- ---- an answer that is a length

unless_value : (o : Option ℕ) (s : Said ℕ) (v : ℕ) → unless o s ≡ value v → (o ≡ none) × (s ≡ value v)
unless_value none s v e = (refl, e)
unless_value (some k) s v e = (cc, cc)

whenever_none : (b : Bool) (k : ℕ) → whenever b k ≡ none → b ≡ false
whenever_none true k e = cc
whenever_none false k e = refl

-- only rows that may be written, and only where there is room
say_length : (count room n : ℕ) (rows : List ℕ) → say_write count rows room ≡ value n → Permitted count rows × (n ≡ length (file_of count rows)) × (n ≤ room)
unfolding say_write
say_length count room n rows e =
    let N = length (file_of count rows) in
    let last : Said ℕ = unless (whenever (ltb room N) 4) (value N) in
    let a = unless_value (whenever (ltb limit count) 1) (unless (row_fault count 0 rows) last) n e in
    let b = unless_value (row_fault count 0 rows) last n a.1 in
    let c = unless_value (whenever (ltb room N) 4) (value N) n b.1 in
    let q : n ≡ N = cc in (
      record {
        limited = ltb-false limit count (whenever_none (ltb limit count) 1 a.0);
        rises = rising_true 0 count rows (none_rising count 0 rows b.0);
      },
      q,
      omega (arith, q, ltb-false room N (whenever_none (ltb room N) 4 c.0)),
    )

-- ---- the call

module _ (count : ℕ) (rows out out' : List ℕ) (r : Result ℕ Refusal) (w : WriteOwes count rows out (counted r, out')) where
  answer : counted r ≡ say_write count rows (length out)
  answer = ap (λ o. o.0) w

  -- strictly increasing rows below a permitted row count, given room, write to one byte string: its length is the answer, and the rest stays
  pub writes : Permitted count rows → length (file_of count rows) ≤ length out
      → (r ≡ Ok (length (file_of count rows))) × (out' ≡ file_of count rows ++ drop (length (file_of count rows)) out)
  writes p h =
      let N = length (file_of count rows) in
      let v = answer ∙ write_fits count (length out) p.limited rows (rising_facts 0 count rows p.rises) h in
      (counted_one r (Ok N) v, write_lays count N rows out (counted r, out') w v)

  -- an answer that is a length n: these rows may be written, and the first n bytes are accepted and give back row count and set
  pub accepted : (n : ℕ) → r ≡ Ok n
      → Permitted count rows × (take n out' ≡ file_of count rows) × (verdict (take n out') ≡ holds (head_of count) (blocks rows)) × (rows_of (blocks rows) ≡ rows)
  accepted n e =
      let s = say_length count (length out) n rows (sym answer ∙ ap counted e) in
      let lays = write_lays count n rows out (counted r, out') w (ap counted e) in
      let file : take n out' ≡ file_of count rows =
      ap (take n) lays ∙ take_at (file_of count rows) (drop (length (file_of count rows)) out) n (sym s.1) in
      let a = written_accepted count rows s.0 in (s.0, file, ap verdict file ∙ a.0, a.1)
