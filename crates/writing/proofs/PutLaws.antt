-- Blocks stored one by one, data in front and entries behind: what is left to store makes the whole.
use Prim.Native.Nat.{ℕ, ◌+◌, ◌-◌, ◌*◌, ◌/◌, ◌≤◌, ◌<◌}
use mathlib.Core.Path.{◌≡◌, refl, sym, ap, ◌∙◌}
use mathlib.Core.List.{List, ◌∷◌, ◌++◌, flat_map}
use native.Mathlib.Nat.{add-zero}
use native.Mathlib.Omega.{arith}
use lib.ListN.{length, get_or, drop, length-append, drop_of_length-le}
use lib.Seq.{sets, length-sets}
use mathlib.Core.Bool.{true}
use Rattle.spec.specs.Set.{rising}
use Rattle.spec.specs.Layout.{size, Block, blocks, data_of, all_data, entry_of, all_entries}
use Rattle.spec.specs.Reading.{part, size_of_data}
use Rattle.spec.proofs.Bytes.{get_or_part}
use Rattle.spec.proofs.Accepted.{length_entry}
use Rattle.words.proofs.StoreLaws.{sets_append, sets_apart}
use Rattle.rows.specs.Runs.{places, Run}
use Rattle.writing.proofs.BlockLaws.{long_data}

-- all data of the blocks stored from a on, and their entries from b on
abbrev pub stored : List Block → List ℕ → ℕ → ℕ → List ℕ
stored gs out a b = sets (sets out a (all_data gs)) b (all_entries gs)

-- the same, of one block
abbrev pub stored_one : Block → List ℕ → ℕ → ℕ → List ℕ
stored_one g out a b = sets (sets out a (data_of g.places)) b (entry_of g)

-- the first block, then the others
stored_cons : (g : Block) (gs : List Block) (out : List ℕ) (a a' b : ℕ) → a + length (data_of g.places) ≡ a' → a' + length (all_data gs) ≤ b
    → stored gs (stored_one g out a b) a' (b + 4) ≡ stored (g ∷ gs) out a b
unfolding all_data all_entries flat_map
stored_cons g gs out a a' b e h =
    let D = data_of g.places in
    let E = entry_of g in
    ap (λ d. sets d (b + 4) (all_entries gs)) (sets_apart (all_data gs) E (sets out a D) a' b h)
    ∙ sym (sets_append E (all_entries gs) (sets (sets out a D) a' (all_data gs)) b (b + 4) (omega (arith, length_entry g)))
    ∙ ap (λ d. sets d b (E ++ all_entries gs)) (sym (sets_append D (all_data gs) out a a' e))

-- after the runs before i
pub record Putting (out₀ rows : List ℕ) (at to : ℕ) (out : List ℕ) (a b i : ℕ) : Type 0 where
  pub within : i ≤ length rows
  pub long : length out ≡ length out₀
  pub data_room : a + length (all_data (blocks (drop i rows))) ≤ b
  pub entry_room : b + 4 * length (blocks (drop i rows)) ≤ length out
  pub left : stored (blocks (drop i rows)) out a b ≡ stored (blocks rows) out₀ at to

pub putting_none : (out rows : List ℕ) (at to : ℕ) → at + length (all_data (blocks rows)) ≤ to → to + 4 * length (blocks rows) ≤ length out
    → Putting out rows at to out at to 0
putting_none out rows at to d e = record { within = omega arith; long = refl; data_room = d; entry_room = e; left = refl }

module _ {out₀ rows out : List ℕ} {at to a b i : ℕ} (p : Putting out₀ rows at to out a b i) {e : ℕ} (r : Run rows i e) where
  abbrev of_run : Block
  of_run = record { number = get_or rows i 0 / size; places = places (part i e rows) }

  run_data : length (data_of (places (part i e rows))) ≡ size_of_data (e - i)
  run_data = long_data (part i e rows) ∙ ap size_of_data r.long

  more_data : length (all_data (blocks (drop i rows))) ≡ size_of_data (e - i) + length (all_data (blocks (drop e rows)))
  unfolding all_data flat_map
  more_data =
      ap (λ gs. length (all_data gs)) r.is ∙ length-append (data_of (places (part i e rows))) (all_data (blocks (drop e rows)))
      ∙ ap (λ k. k + length (all_data (blocks (drop e rows)))) run_data

  more_blocks : length (blocks (drop i rows)) ≡ 1 + length (blocks (drop e rows))
  more_blocks = ap length r.is ∙ omega arith

  -- there is room for the block and its entry, which the run is ready for
  pub room : ((a + size_of_data (length (part i e rows)) ≤ b) × (b + 4 ≤ length out)) × ((0 < length (part i e rows)) × (rising 0 size (places (part i e rows)) ≡ true))
  room =
      let d = more_data in
      let k = more_blocks in
      (rw r.long (omega (arith, p.data_room), omega (arith, p.entry_room)), (omega (arith, r.long, r.some), r.rises))

  pub room_data : a + size_of_data (e - i) ≤ b
  room_data = let d = more_data in omega (arith, p.data_room)

  pub putting_more : (out' : List ℕ) (n : ℕ) → n ≡ size_of_data (e - i)
      → out' ≡ stored_one (record { number = get_or (part i e rows) 0 0 / size; places = places (part i e rows) }) out a b
      → Putting out₀ rows at to out' (a + n) (b + 4) e
  putting_more out' n q s =
      let d = more_data in
      let k = more_blocks in
      let l : length out' ≡ length out = ap length s ∙ simp length-sets in
      let gs = blocks (drop e rows) in
      let first : get_or (part i e rows) 0 0 ≡ get_or rows i 0 = get_or_part i e rows 0 (omega (arith, r.some)) ∙ rw (add-zero i) in
      let s' : out' ≡ stored_one of_run out a b = s ∙ ap (λ v. stored_one (record { number = v / size; places = places (part i e rows) }) out a b) first in
      record {
        within = r.within;
        long = l ∙ p.long;
        data_room = omega (arith, p.data_room);
        entry_room = omega (arith, p.entry_room);
        left = ap (λ o. stored gs o (a + n) (b + 4)) s' ∙ stored_cons of_run gs out a (a + n) b (ap (λ k. a + k) (run_data ∙ sym q)) (omega (arith, p.data_room))
            ∙ ap (λ gs. stored gs out a b) (sym r.is) ∙ p.left;
      }

pub putting_all : {out₀ rows out : List ℕ} {at to a b i : ℕ} → Putting out₀ rows at to out a b i → length rows ≤ i → out ≡ stored (blocks rows) out₀ at to
unfolding all_data all_entries flat_map blocks
putting_all {out₀} {rows} {out} {at} {to} {a} {b} {i} p h = ap (λ l. stored (blocks l) out a b) (sym (drop_of_length-le rows h)) ∙ p.left
