-- The whole file: its length, what writing answers, and its parts, stored one behind another.
use Prim.Native.Nat.{ℕ, ◌+◌, ◌*◌, ◌≤◌, ◌<◌}
use mathlib.Core.Path.{◌≡◌, refl, sym, ap, ap₂, ◌∙◌}
use mathlib.Core.Bool.{true}
use mathlib.Core.List.{List, ◌++◌}
use mathlib.Core.Option.{Option, none, some}
use native.Mathlib.Omega.{arith}
use lib.ListN.{length, length-append}
use lib.Seq.{sets}
use Rattle.spec.specs.Layout.{bytes_of, groups, blocks, all_data, all_entries, written, file_of}
use Rattle.spec.specs.Reading.{Permitted}
use Rattle.spec.specs.Answers.{Said, value, refused, unless, front, kept, row_fault, say_write, WriteOwes}
use Rattle.spec.proofs.Bytes.{length_bytes}
use Rattle.spec.proofs.Rising.{Rising, rising_facts, rising_true}
use Rattle.spec.proofs.Blocks.{well_blocks, well_length}
use Rattle.spec.proofs.Accepted.{length_entries}
use Rattle.spec.proofs.Promises.{none_rising, write_rows, write_fault, write_room, write_fits}
use Rattle.spec.proofs.Demands.{longest}
use Rattle.words.proofs.StoreLaws.{sets_append, sets_front}
use Rattle.rows.specs.Runs.{ascends, Shaped}
use Rattle.rows.proofs.RowLaws.{rising_ascends}
use Rattle.writing.proofs.PutLaws.{stored}

-- an answer, with the output that it leaves
owes : (count : ℕ) (rows out out' : List ℕ) (s : Said ℕ) → say_write count rows (length out) ≡ s → out' ≡ kept s (file_of count rows) out
    → WriteOwes count rows out (s, out')
owes count rows out out' s e k = ap (λ o. (s, o)) k ∙ ap (λ t. (t, kept t (file_of count rows) out)) (sym e)

-- ---- refusals

pub too_many : (count : ℕ) (rows out : List ℕ) → 4294901760 < count → WriteOwes count rows out (refused 1, out)
too_many count rows out h = owes count rows out out (refused 1) (write_rows count (length out) rows h) refl

-- the first faulty row decides
pub faulty : (count : ℕ) (rows out : List ℕ) (k : ℕ) → count ≤ 4294901760 → refused k ≡ unless (row_fault count 0 rows) (value (tt {0}))
    → WriteOwes count rows out (refused k, out)
faulty count rows out k l e = owes count rows out out (refused k) (write_fault count (length out) l k rows (is (row_fault count 0 rows) e)) refl
  where
    is : (o : Option ℕ) → refused k ≡ unless o (value (tt {0})) → o ≡ some k
    is none q = cc
    is (some j) q = cc

-- no row is faulty
pub permitted : (count : ℕ) (rows : List ℕ) → count ≤ 4294901760 → value (tt {0}) ≡ unless (row_fault count 0 rows) (value (tt {0})) → Permitted count rows
permitted count rows l e = record { limited = l; rises = rising_true 0 count rows (none_rising count 0 rows (is (row_fault count 0 rows) e)) }
  where
    is : (o : Option ℕ) → value (tt {0}) ≡ unless o (value (tt {0})) → o ≡ none
    is none q = refl
    is (some j) q = cc

-- ---- the file

-- the file's length, by its parts
pub file_length : (count : ℕ) (rows : List ℕ) (s d e : ℕ) → s ≡ length (groups 4 count) → Shaped rows d e → s + d + 4 * e + 2 ≡ length (file_of count rows)
unfolding file_of written
file_length count rows s d e q h =
    let n : length (file_of count rows) ≡ length (groups 4 count) + (length (all_data (blocks rows)) + (4 * length (blocks rows) + 2)) =
    simp (length-append, length_bytes, length_entries) in
    omega (arith, n, h.bytes', h.entries')

module _ {count : ℕ} {rows : List ℕ} (p : Permitted count rows) where
  facts : Rising 0 count rows
  facts = rising_facts 0 count rows p.rises

  pub all_ascend : ascends 0 rows ≡ true
  all_ascend = rising_ascends 0 count rows facts

  pub few_blocks : length (blocks rows) ≤ 65535
  few_blocks = omega (arith, p.limited, well_length count 0 (blocks rows) (well_blocks count rows facts))

  pub short : (s d e : ℕ) → s ≡ length (groups 4 count) → Shaped rows d e → s + d + 4 * e + 2 ≤ 671340547
  short s d e q h = omega (arith, file_length count rows s d e q h, longest count rows p)

  pub no_room : (out : List ℕ) → length out < length (file_of count rows) → WriteOwes count rows out (refused 4, out)
  no_room out h = owes count rows out out (refused 4) (write_room count (length out) p.limited rows facts h) refl

  pub written_whole : (out out' : List ℕ) (n : ℕ) → n ≡ length (file_of count rows) → n ≤ length out → out' ≡ front (file_of count rows) out
      → WriteOwes count rows out (value n, out')
  written_whole out out' n e h q =
      owes count rows out out' (value n) (write_fits count (length out) p.limited rows facts (omega (arith, e, h)) ∙ ap value (sym e)) q

-- room for the data and the entries
pub data_room : (rows : List ℕ) (s d e m : ℕ) → Shaped rows d e → s + d + 4 * e + 2 ≤ m
    → (s + length (all_data (blocks rows)) ≤ s + d) × (s + d + 4 * length (blocks rows) ≤ m)
data_room rows s d e m h l = (omega (arith, h.bytes'), omega (arith, h.entries', l))

-- row count, data and entries, number of entries
pub file_stored : (count : ℕ) (rows out : List ℕ) (s d e : ℕ) → s ≡ length (groups 4 count) → Shaped rows d e → length (file_of count rows) ≤ length out
    → (headed blocked out' : List ℕ) → headed ≡ sets out 0 (groups 4 count) → blocked ≡ stored (blocks rows) headed s (s + d)
    → out' ≡ sets blocked (s + d + 4 * e) (bytes_of 2 e) → out' ≡ front (file_of count rows) out
unfolding file_of written
file_stored count rows out s d e q h f headed blocked out' a b c =
    let G = groups 4 count in
    let D = all_data (blocks rows) in
    let E = all_entries (blocks rows) in
    let N = bytes_of 2 (length (blocks rows)) in
    let o = sets out 0 G in
    c ∙ ap₂ (λ l n. sets l (s + d + 4 * e) (bytes_of 2 n)) (b ∙ ap (λ l. stored (blocks rows) l s (s + d)) a) h.entries'
    ∙ sym (sets_append E N (sets o s D) (s + d) (s + d + 4 * e) (omega (arith, length_entries (blocks rows), h.entries')))
    ∙ sym (sets_append D (E ++ N) o s (s + d) (omega (arith, h.bytes')))
    ∙ sym (sets_append G (D ++ (E ++ N)) out 0 s (omega (arith, q)))
    ∙ sets_front (file_of count rows) out f
