-- What each question of an index says: at or past the row count, and of a row below it, from what its block says.
use Rattle.std.proofs.Common.{◌≡◌, ℕ, ◌+◌, ◌*◌, ◌/◌, ◌%◌, ◌^◌, ◌<◌, ◌≤◌, Bool, false, cond, ltb}
use Rattle.std.proofs.Common.{List, length, get_or, sym, ap, ◌∙◌, arith, le-ltb, lt-ltb}
use Rattle.std.proofs.Common.{Option as Maybe, Some, None}
use mathlib.Core.Option.{none, some}
use Rattle.spec.specs.declared.Record.{Record}
use Rattle.spec.specs.Set.{contains, rank, lookup, select, next}
use Rattle.spec.specs.Layout.{size, Block, rows_of}
use Rattle.spec.specs.Reading.{count_of_blocks, AreBytes, Head, rows_before, Given}
use Rattle.spec.specs.Answers.{broken}
use Rattle.spec.proofs.Questions.{rank_le, rank_all, contains_past, lookup_past, lookup_found, next_past, next_select, or_else}
use Rattle.spec.proofs.Rising.{rising_length}
use Rattle.spec.proofs.Asking.{unbroken}
use Rattle.spec.proofs.Blocks.{Well}
use Rattle.spec.proofs.Cut.{places_of}
use Rattle.spec.proofs.Splits.{rank_split, contains_split, lookup_split, next_split, moved}
use Rattle.spec.proofs.Directory.{given_well, given_rise, given_populated, word_rows}
use Rattle.words.specs.Part.{Holds, placed}
use Rattle.words.specs.Part.{Of as OfPart}
use Rattle.directory.specs.Parts.{part_of}
use Rattle.asking.specs.Members.{Of, Member, Looked}
use Rattle.directory.proofs.PartLaws.{part_holds}

module _ (file directory : List ℕ) (rec : Record) (ok : broken file directory rec ≡ false) where
  -- a block's words are there
  pub words_there : (b : ℕ) → b < count_of_blocks rec.row_count → 2 * b + 3 < length directory
  words_there b l = omega (arith, (unbroken file directory rec ok).words)

  -- and the rows before it, or in all
  pub rows_there : (b : ℕ) → b ≤ count_of_blocks rec.row_count → 2 * b < length directory
  rows_there b l = omega (arith, (unbroken file directory rec ok).words)

module _ (file directory : List ℕ) (rec : Record) (y : AreBytes file) where
  -- ---- at or past the row count: no, n, not there, none

  module _ (d : ℕ) (l : rec.row_count ≤ d) where
    pub contains_out : Of file directory rec (λ xs. false ≡ contains d xs)
    contains_out h gs g = sym (contains_past 0 rec.row_count (rows_of gs) (given_rise file directory rec h gs y g) d l)

    pub rank_out : Of file directory rec (λ xs. rec.populated ≡ rank d xs)
    rank_out h gs g =
        given_populated file directory rec h gs y g ∙ sym (rank_all 0 rec.row_count (rows_of gs) (given_rise file directory rec h gs y g) d l)

    pub lookup_out : Looked file directory rec d None
    lookup_out h gs g = sym (lookup_past 0 rec.row_count (rows_of gs) (given_rise file directory rec h gs y g) d l)

    pub next_out : Of file directory rec (λ xs. none ≡ next d xs)
    next_out h gs g = sym (next_past 0 rec.row_count (rows_of gs) (given_rise file directory rec h gs y g) d l)

  -- ---- below the row count, by what the row's block says

  module _ (d : ℕ) (l : d < rec.row_count) (p : List ℕ) (e : p ≡ part_of file directory rec.data_start (d / size)) where
    module _ (h : Head) (gs : List Block) (g : Given file directory rec h gs) where
      well : Well rec.row_count 0 gs
      well = given_well file directory rec h gs y g

      holds : Holds p (places_of (d / size) gs)
      holds = rw e (part_holds file directory rec y h gs g (d / size) (omega arith))

      before : get_or directory (2 * (d / size)) 0 ≡ rows_before (d / size) gs
      before = word_rows file directory rec h gs y g (d / size) (omega arith)

      after : get_or directory (2 * (d / size + 1)) 0 ≡ rows_before (d / size + 1) gs
      after = word_rows file directory rec h gs y g (d / size + 1) (omega arith)

      -- a rank fits, so nothing is cut
      whole : rec.row_count ≤ 4294901760 → (n : ℕ) → n ≡ rank d (rows_of gs) → n % 2 ^ 32 ≡ n
      whole small n q = omega (arith, rank_le d (rows_of gs), rising_length 0 rec.row_count (rows_of gs) (given_rise file directory rec h gs y g))

    pub contains_in : (t : Bool) → OfPart p (λ ps. t ≡ contains (d % size) ps) → Of file directory rec (λ xs. t ≡ contains d xs)
    contains_in t o h gs g = o (places_of (d / size) gs) (holds h gs g) ∙ sym (contains_split rec.row_count gs (well h gs g) d)

    pub rank_in : rec.row_count ≤ 4294901760 → (n : ℕ) → OfPart p (λ ps. n ≡ rank (d % size) ps)
        → Of file directory rec (λ xs. (get_or directory (2 * (d / size)) 0 + n) % 2 ^ 32 ≡ rank d xs)
    rank_in small n o h gs g =
        let is : get_or directory (2 * (d / size)) 0 + n ≡ rank d (rows_of gs) =
        omega (arith, before h gs g, o (places_of (d / size) gs) (holds h gs g), rank_split rec.row_count gs (well h gs g) d) in
        whole h gs g small _ is ∙ is

    module _ (r : Maybe ℕ) where
      -- what lookup says, n rows on
      looked : OfPart p (λ ps. placed r ≡ lookup (d % size) ps) → (h : Head) (gs : List Block) → Given file directory rec h gs
          → lookup d (rows_of gs) ≡ moved (rows_before (d / size) gs) (placed r)
      looked o h gs g =
          lookup_split rec.row_count gs (well h gs g) d ∙ ap (moved (rows_before (d / size) gs)) (sym (o (places_of (d / size) gs) (holds h gs g)))

      pub lookup_at : rec.row_count ≤ 4294901760 → (n : ℕ) → r ≡ Some n → OfPart p (λ ps. placed r ≡ lookup (d % size) ps)
          → Looked file directory rec d (Some ((get_or directory (2 * (d / size)) 0 + n) % 2 ^ 32))
      lookup_at small n q o h gs g =
          let b = rows_before (d / size) gs in
          let is : lookup d (rows_of gs) ≡ some (b + n) = looked o h gs g ∙ ap (λ x. moved b (placed x)) q in
          rw (before h gs g, whole h gs g small (b + n) (lookup_found d (b + n) (rows_of gs) is).1) (sym is)

      pub lookup_nothing : r ≡ None → OfPart p (λ ps. placed r ≡ lookup (d % size) ps) → Looked file directory rec d None
      lookup_nothing q o h gs g = sym (looked o h gs g ∙ ap (λ x. moved (rows_before (d / size) gs) (placed x)) q)

      -- next in the block, or else in a later one
      module _ (o : OfPart p (λ ps. placed r ≡ next (d % size) ps)) where
        nexts : (h : Head) (gs : List Block) → Given file directory rec h gs
            → next d (rows_of gs) ≡ or_else (moved (d / size * size) (placed r)) (next ((d / size + 1) * size) (rows_of gs))
        nexts h gs g =
            next_split rec.row_count gs (well h gs g) d
            ∙ ap (λ x. or_else (moved (d / size * size) x) (next ((d / size + 1) * size) (rows_of gs))) (sym (o (places_of (d / size) gs) (holds h gs g)))

        pub next_at : (n : ℕ) → r ≡ Some n → Of file directory rec (λ xs. some (65536 * (d / size) + n) ≡ next d xs)
        next_at n q h gs g =
            let there : 65536 * (d / size) + n ≡ d / size * size + n = omega arith in
            ap some there
            ∙ sym (nexts h gs g ∙ ap (λ x. or_else (moved (d / size * size) (placed x)) (next ((d / size + 1) * size) (rows_of gs))) q)

        -- the first member of a later block has the rank of all rows up to this one's end
        later : r ≡ None → (h : Head) (gs : List Block) → Given file directory rec h gs
            → next d (rows_of gs)
            ≡ cond (ltb (rows_before (d / size + 1) gs) (length (rows_of gs))) (some (select (rows_before (d / size + 1) gs) (rows_of gs))) none
        later q h gs g =
            nexts h gs g ∙ ap (λ x. or_else (moved (d / size * size) (placed x)) (next ((d / size + 1) * size) (rows_of gs))) q
            ∙ next_select 0 rec.row_count (rows_of gs) (given_rise file directory rec h gs y g) ((d / size + 1) * size)

        pub next_none : r ≡ None → rec.populated ≤ get_or directory (2 * (d / size + 1)) 0 → Of file directory rec (λ xs. none ≡ next d xs)
        next_none q m h gs g =
            let n = given_populated file directory rec h gs y g in
            let no' = le-ltb (rows_before (d / size + 1) gs) (length (rows_of gs)) (omega (arith, after h gs g)) in
            sym (rw no' at (later q h gs g))

        pub next_later : r ≡ None → get_or directory (2 * (d / size + 1)) 0 < rec.populated
            → (v : ℕ) → Member file directory rec (get_or directory (2 * (d / size + 1)) 0) v → Of file directory rec (λ xs. some v ≡ next d xs)
        next_later q m v member h gs g =
            let n = given_populated file directory rec h gs y g in
            let yes' = lt-ltb (rows_before (d / size + 1) gs) (length (rows_of gs)) (omega (arith, after h gs g)) in
            rw (member h gs g, after h gs g) (sym (rw yes' at (later q h gs g)))
