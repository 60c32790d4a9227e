-- The set of a file that is accepted, asked through a block's spot.
use Prim.Native.Nat.{ℕ, ◌+◌, ◌-◌, ◌*◌, ◌/◌, ◌%◌, ◌^◌, ◌≤◌, ◌<◌}
use mathlib.Core.Path.{◌≡◌, refl, sym, ap, ap₂, ◌∙◌}
use mathlib.Core.Bool.{Bool, cond}
use mathlib.Core.List.{List, ◌++◌, map}
use mathlib.Core.Option.{Option, none, some}
use native.Mathlib.Omega.{arith}
use lib.ListN.{length}
use lib.Dec.{ltb}
use borrow.Author.Tests.{le-ltb, lt-ltb}
use Rattle.spec.specs.declared.Record.{Record}
use Rattle.spec.specs.Set.{contains, rank, lookup, select, next}
use Rattle.spec.specs.Layout.{bytes_of, groups, size, Block, rows_of, all_entries, written}
use Rattle.spec.specs.Reading.{AreBytes, part, Head, Verdict, fault, holds, verdict, entry_count, entries_of, record_of, rows_before, bytes_before}
use Rattle.spec.specs.Answers.{value, refused}
use Rattle.spec.proofs.Rising.{Rising, rising_true, rising_length}
use Rattle.spec.proofs.Blocks.{Well, well_rows}
use Rattle.spec.proofs.Accepted.{entry_for, length_written, length_all_data}
use Rattle.spec.proofs.Written.{Was-written, was_written}
use Rattle.spec.proofs.Cut.{places_of}
use Rattle.spec.proofs.Splits.{moved, rank_split, contains_split, lookup_split, select_split, next_split, rows_before_next, bytes_before_next, bytes_before_le, block_data, places_rise}
use Rattle.spec.proofs.Questions.{rank_le, lookup_found, next_select, or_else}
use Rattle.std.specs.Prelude.{Some, None}
use Rattle.std.specs.Prelude.{Option as Maybe}
use Rattle.words.specs.Part.{Holds, Of, placed}
use Rattle.judging.specs.Phases.{judged}
use Rattle.one_shot.specs.Accepted.{Accepted}
use Rattle.one_shot.specs.Spots.{spot_from, holder_from}
use Rattle.one_shot.specs.declared.spots.Spot.{Spot}
use Rattle.one_shot.proofs.SpotLaws.{At, spot_at, spot_number, Has, holder_at}

-- an accepted file, with its head and its blocks
pub record Opens (file : List ℕ) (rec : Record) (h : Head) (gs : List Block) : Type 0 where
  pub record' : rec ≡ record_of h gs
  pub was : Was-written file h gs

pub opens : (file : List ℕ) (rec : Record) → AreBytes file → Accepted file rec → (h : Head) (gs : List Block) → verdict file ≡ holds h gs → Opens file rec h gs
opens file rec y a h gs v = let e : value rec ≡ judged (holds h gs) = a ∙ ap judged v in record { record' = cc; was = was_written file h gs y v }

-- there are such
exists : (file : List ℕ) (rec : Record) → AreBytes file → Accepted file rec → (h : Head) × (gs : List Block) × Opens file rec h gs
exists file rec y a = go (verdict file) refl
  where
    go : (v : Verdict) → verdict file ≡ v → (h : Head) × (gs : List Block) × Opens file rec h gs
    go (fault k) e = absurd (let f : value rec ≡ refused k = a ∙ ap judged e in let z : ◌≡◌ {A = ℕ} 0 1 = cc in omega arith)
    go (holds h gs) e = (h, gs, opens file rec y a h gs e)

module _ {file : List ℕ} {rec : Record} {h : Head} {gs : List Block} (o : Opens file rec h gs) where
  well : Well rec.row_count 0 gs
  well = rw o.record' o.was.well

  start : rec.data_start ≡ length (groups 4 h.count)
  start = rw o.record' (ap (λ h. h.start) o.was.head)

  pub rise : Rising 0 rec.row_count (rows_of gs)
  rise = well_rows rec.row_count 0 gs well

  pub count_small : rec.row_count ≤ 4294901760
  count_small = rw o.record' o.was.limited

  pub populated' : rec.populated ≡ length (rows_of gs)
  populated' = rw o.record'

  -- a spot of these blocks leads to a block's part
  module _ (s : Spot) (a : At 0 rec.data_start gs s) where
    pub part_within : (s.from ≤ s.to) × (s.to ≤ length file)
    part_within =
        let n = bytes_before_next rec.row_count gs well s.number in
        let m = bytes_before_le rec.row_count gs well (s.number + 1) in (
          omega (arith, a.from', a.to'),
          omega (arith, a.to', start, ap length o.was.bytes, length_written h.count gs, length_all_data gs),
        )

    pub part_holds : Holds (part s.from s.to file) (places_of s.number gs)
    unfolding written
    part_holds =
        let b = s.number in
        record {
          rises = rising_true 0 size (places_of b gs) (places_rise rec.row_count gs well b);
          bytes = ap₂ (λ from to. part from to file) a.from' a.to' ∙ ap (part (rec.data_start + bytes_before b gs) (rec.data_start + bytes_before (b + 1) gs)) o.was.bytes
              ∙ block_data rec.row_count gs well b rec.data_start (groups 4 h.count) (all_entries gs ++ bytes_of 2 (length gs)) (sym start);
        }

  -- by number, and by rank
  module _ (s : Spot) where
    pub block_at : (b : ℕ) → s ≡ spot_from b 0 rec.data_start (entries_of file) → At 0 rec.data_start gs s × (s.number ≡ b)
    block_at b e =
        let f : s ≡ spot_from b 0 rec.data_start (map entry_for gs) = e ∙ ap (spot_from b 0 rec.data_start) o.was.entries' in
        rw f (spot_at rec.row_count 0 b 0 rec.data_start gs well, spot_number b 0 rec.data_start gs)

    pub rank_at : (k : ℕ) → k < rec.populated → s ≡ holder_from k 0 rec.data_start (entries_of file) → At 0 rec.data_start gs s × Has k 0 0 gs s
    rank_at k l e =
        let f : s ≡ holder_from k 0 rec.data_start (map entry_for gs) = e ∙ ap (holder_from k 0 rec.data_start) o.was.entries' in
        rw f (holder_at rec.row_count 0 k 0 rec.data_start gs well (omega arith) (omega (arith, populated')))

  -- ---- a row below the row count, by what its block says

  module _ (s : Spot) (d : ℕ) (e : s ≡ spot_from (d / size) 0 rec.data_start (entries_of file)) where
    spot : At 0 rec.data_start gs s × (s.number ≡ d / size)
    spot = block_at s (d / size) e

    holds' : Holds (part s.from s.to file) (places_of (d / size) gs)
    holds' = rw spot.1 at (part_holds s spot.0)

    before : s.rows ≡ rows_before (d / size) gs
    before = spot.0.rows' ∙ ap (λ b. 0 + rows_before b gs) spot.1 ∙ omega arith

    pub contains_is : (t : Bool) → Of (part s.from s.to file) (λ ps. t ≡ contains (d % size) ps) → t ≡ contains d (rows_of gs)
    contains_is t g = g _ holds' ∙ sym (contains_split rec.row_count gs well d)

    pub rank_is : (n : ℕ) → Of (part s.from s.to file) (λ ps. n ≡ rank (d % size) ps) → s.rows + n ≡ rank d (rows_of gs)
    rank_is n g = omega (arith, before, g _ holds', rank_split rec.row_count gs well d)

    pub lookup_is : (r : Option ℕ) → Of (part s.from s.to file) (λ ps. r ≡ lookup (d % size) ps) → moved s.rows r ≡ lookup d (rows_of gs)
    lookup_is r g = ap₂ moved before (g _ holds') ∙ sym (lookup_split rec.row_count gs well d)

    -- in the block, or else the first member of a later one
    module _ (r : Maybe ℕ) (g : Of (part s.from s.to file) (λ ps. placed r ≡ next (d % size) ps)) where
      next_is : or_else (moved (d / size * size) (placed r)) (next ((d / size + 1) * size) (rows_of gs)) ≡ next d (rows_of gs)
      next_is =
          ap (λ x. or_else (moved (d / size * size) x) (next ((d / size + 1) * size) (rows_of gs))) (g _ holds') ∙ sym (next_split rec.row_count gs well d)

      pub next_here : (p : ℕ) → r ≡ Some p → some (65536 * (d / size) + p) ≡ next d (rows_of gs)
      next_here p q =
          let there : 65536 * (d / size) + p ≡ d / size * size + p = omega arith in
          ap some there ∙ sym (ap (λ r. or_else (moved (d / size * size) (placed r)) (next ((d / size + 1) * size) (rows_of gs))) q) ∙ next_is

      module _ (q : r ≡ None) (later : Spot) (f : later ≡ spot_from (d / size + 1) 0 rec.data_start (entries_of file)) where
        behind : cond (ltb later.rows rec.populated) (some (select later.rows (rows_of gs))) none ≡ next d (rows_of gs)
        behind =
            let a = block_at later (d / size + 1) f in
            let n : later.rows ≡ rank ((d / size + 1) * size) (rows_of gs) = a.0.rows' ∙ ap (λ b. 0 + rows_before b gs) a.1 ∙ omega arith in
            rw (n, populated') (sym (next_select 0 rec.row_count (rows_of gs) rise ((d / size + 1) * size)))
            ∙ sym (ap (λ r. or_else (moved (d / size * size) (placed r)) (next ((d / size + 1) * size) (rows_of gs))) q) ∙ next_is

        pub next_none : rec.populated ≤ later.rows → none ≡ next d (rows_of gs)
        next_none l = rw (le-ltb later.rows rec.populated l) at behind

        pub next_later : later.rows < rec.populated → (v : ℕ) → v ≡ select later.rows (rows_of gs) → some v ≡ next d (rows_of gs)
        next_later l v e = ap some e ∙ rw (lt-ltb later.rows rec.populated l) at behind

  -- ---- a rank

  pub select_is : (s : Spot) (k left v : ℕ) → k < rec.populated → s ≡ holder_from k 0 rec.data_start (entries_of file) → left ≡ k - s.rows
      → Of (part s.from s.to file) (λ ps. v ≡ select left ps) → 65536 * s.number + v ≡ select k (rows_of gs)
  select_is s k left v l e q g =
      let a = rank_at s k l e in
      let b = s.number in
      let n = rows_before_next rec.row_count gs well b in
      let is : rows_before b gs + left ≡ k = omega (arith, a.0.rows', a.1.upto) in
      let x = select_split rec.row_count gs well b left (omega (arith, a.1.past)) in
      omega (arith, g _ (part_holds s a.0), x, ap (λ i. select i (rows_of gs)) is)

-- ---- facts that hold without naming the blocks

module _ (file : List ℕ) (rec : Record) (y : AreBytes file) (a : Accepted file rec) where
  pub entries_fit : 4 * entry_count file + 2 ≤ length file
  entries_fit = (exists file rec y a).2.was.fits

  pub few_blocks : rec.row_count ≤ 4294901760
  few_blocks = count_small (exists file rec y a).2

  pub block_within : (s : Spot) (b : ℕ) → s ≡ spot_from b 0 rec.data_start (entries_of file) → (s.from ≤ s.to) × (s.to ≤ length file)
  block_within s b e = let o = (exists file rec y a).2 in part_within o s (block_at o s b e).0

  module _ (s : Spot) (k : ℕ) (l : k < rec.populated) (e : s ≡ holder_from k 0 rec.data_start (entries_of file)) where
    pub rank_within : (s.from ≤ s.to) × (s.to ≤ length file)
    rank_within = let o = (exists file rec y a).2 in part_within o s (rank_at o s k l e).0

    pub rank_upto : s.rows ≤ k
    rank_upto = let o = (exists file rec y a).2 in (rank_at o s k l e).1.upto

  -- a rank fits into 32 bits
  pub rank_fits : (n d : ℕ) → ((h : Head) (gs : List Block) → Opens file rec h gs → n ≡ rank d (rows_of gs)) → n < 2 ^ 32
  rank_fits n d is =
      let x = exists file rec y a in
      let o = x.2 in
      omega (arith, is x.0 x.1 o, rank_le d (rows_of x.1), rising_length 0 rec.row_count (rows_of x.1) (rise o), count_small o)

  -- what a block says of a row's rank, and of a row that is found, fits behind the rows before the block
  module _ (s : Spot) (d : ℕ) (e : s ≡ spot_from (d / size) 0 rec.data_start (entries_of file)) where
    pub rank_small : (n : ℕ) → Of (part s.from s.to file) (λ ps. n ≡ rank (d % size) ps) → s.rows + n < 2 ^ 32
    rank_small n g = rank_fits (s.rows + n) d (λ h gs o. rank_is o s d e n g)

    pub lookup_small : (r : Maybe ℕ) → Of (part s.from s.to file) (λ ps. placed r ≡ lookup (d % size) ps) → (n : ℕ) → r ≡ Some n → s.rows + n < 2 ^ 32
    lookup_small r g n q =
        rank_fits (s.rows + n) d (λ h gs o. (lookup_found d _ _ (sym (lookup_is o s d e (placed r) g) ∙ ap (λ p. moved s.rows (placed p)) q)).1)
