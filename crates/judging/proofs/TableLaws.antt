-- The entries of a file as arrays of four bytes, and those that are left from an index on.
use Prim.Native.Nat.{ℕ, zero, suc, ◌+◌, ◌-◌, ◌*◌, ◌/◌, ◌≤◌, ◌<◌}
use mathlib.Core.Path.{◌≡◌, refl, sym, ap, ◌∙◌}
use mathlib.Core.List.{List, [], ◌∷◌, map}
use native.Mathlib.Omega.{arith}
use lib.ListN.{length, take, drop, get_or, length-drop}
use lib.Seq.{drop-drop, length-take-le}
use Rattle.std.proofs.lemmas.List.{take-take, drop-take, at_drop_more}
use Rattle.std.specs.Simd.{first_chunks}
use Rattle.spec.specs.declared.Entry.{Entry}
use Rattle.spec.specs.Reading.{part, entry_in, entries_at, entry_count, entries_of}

-- so many arrays of four bytes, from an index on, are so many entries
pub chunk_entries : (n at : ℕ) (file : List ℕ) → map entry_in (first_chunks 4 n (take (4 * n) (drop at file))) ≡ entries_at n at file
unfolding entries_at part
chunk_entries zero at file = refl
chunk_entries (suc n) at file =
    let long : 4 * suc n ≡ 4 + 4 * n = omega arith in
    let one : at + 4 - at ≡ 4 = omega arith in
    let first : take 4 (take (4 + 4 * n) (drop at file)) ≡ take 4 (drop at file) = take-take 4 (4 + 4 * n) (drop at file) (omega arith) in
    let rest : drop 4 (take (4 + 4 * n) (drop at file)) ≡ take (4 * n) (drop (at + 4) file) =
    drop-take 4 (4 * n) (drop at file) ∙ ap (take (4 * n)) (drop-drop 4 at file) in
    rw (long, one, first, rest, chunk_entries n (at + 4) file)

-- those that end before the last two bytes, where n are said to stand
pub table_entries : (file : List ℕ) (n : ℕ) → 4 * entry_count file + 2 ≤ length file → n ≡ entry_count file
    → let end = length file - 2 in
    let s = take (end - (end - 4 * n)) (drop (end - 4 * n) file) in map entry_in (first_chunks 4 (length s / 4) s) ≡ entries_of file
table_entries file n l e =
    let end = length file - 2 in
    let wide : end - (end - 4 * n) ≡ 4 * n = omega (arith, e) in
    let s = take (4 * n) (drop (end - 4 * n) file) in
    let long : length s ≡ 4 * n = length-take-le (4 * n) (drop (end - 4 * n) file) (omega (arith, length-drop (end - 4 * n) file, e)) in
    let many : length s / 4 ≡ n = omega (arith, long) in
    rw (wide, many) (chunk_entries n (end - 4 * n) file ∙ ap (λ n. entries_at n (end - 4 * n) file) e)

-- the entries that are left from the i-th on
abbrev pub left : List (List ℕ) → ℕ → List Entry
left table i = map entry_in (drop i table)

-- the next of them, and those behind it
pub left_some : (table : List (List ℕ)) (i : ℕ) (x : Entry) → i < length table → x ≡ entry_in (get_or table i [])
    → left table i ≡ x ∷ left table (i + 1)
left_some table i x h e = at_drop_more (map entry_in) table i [] h ∙ ap (λ y. y ∷ left table (i + 1)) (sym e)
