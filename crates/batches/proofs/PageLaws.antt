-- Members from a rank on: those of one block, and block after block.
use Rattle.std.proofs.Common.{◌≡◌, ℕ, ◌+◌, ◌-◌, ◌*◌, ◌%◌, ◌^◌, ◌<◌, ◌≤◌, min, leb, List, ◌++◌, map, length, get_or, take, drop, sym, refl, ap, ◌∙◌, ap₂, add-zero, arith, length-drop, take-append-drop, length-take-le, take_all, drop-drop, leb-false, leb-true}
use native.Mathlib.Omega.{by_contra}
use Rattle.spec.specs.declared.Record.{Record}
use Rattle.spec.specs.Set.{page}
use Rattle.spec.specs.Layout.{size, Block, rows_of}
use Rattle.spec.specs.Reading.{count_of_blocks, AreBytes, Head, rows_before, Given}
use Rattle.spec.proofs.Tests.{by_test}
use Rattle.spec.proofs.Cut.{places_of}
use Rattle.spec.proofs.Splits.{rows_before_next, page_split}
use Rattle.spec.proofs.Directory.{given_well, word_rows, first_word, closing_rows}
use Rattle.words.specs.Part.{Paged}
use Rattle.words.proofs.FrontLaws.{front_end, part_long, part_front}
use Rattle.directory.specs.Parts.{part_of, Bracket}
use Rattle.directory.proofs.PartLaws.{part_holds}
use Rattle.directory.proofs.FindLaws.{climbs}
use Rattle.asking.specs.Members.{Of}
use Rattle.batches.specs.Batches.{Listed, ListedIn}

-- `done` rows are filled, and block b has the next rank, or a later one has it
pub record Paging (file directory : List ℕ) (rec : Record) (from : ℕ) (out₀ out : List ℕ) (b done : ℕ) : Type 0 where
  pub within : b ≤ count_of_blocks rec.row_count
  pub some : done ≤ length out₀
  pub long : length out ≡ length out₀
  pub exact : Of file directory rec (λ xs.
      (done < length out₀ → get_or directory (2 * b) 0 ≤ from + done) × (take done out ++ drop (from + done) xs ≡ drop from xs))

module _ (file directory : List ℕ) (rec : Record) (y : AreBytes file) where
  -- the rows before the next block, as its pair says
  pub next_rows : (h : Head) (gs : List Block) → Given file directory rec h gs → (b : ℕ) → b < count_of_blocks rec.row_count
      → get_or directory (2 * b + 2) 0 ≡ rows_before (b + 1) gs
  next_rows h gs g b l =
      let i : 2 * b + 2 ≡ 2 * (b + 1) = omega arith in ap (λ i. get_or directory i 0) i ∙ word_rows file directory rec h gs y g (b + 1) (omega arith)

  -- ---- in one block

  pub listed_in : (b k place : ℕ) (p out₀ out : List ℕ) → b < count_of_blocks rec.row_count → p ≡ part_of file directory rec.data_start b
      → (place + get_or directory (2 * b) 0) % 2 ^ 32 ≡ k → place < 2 ^ 32 → Paged p (65536 * b) place out₀ out
      → ListedIn file directory rec b k out₀ out
  listed_in b k place p out₀ out l e cut small paged =
      record {
        long = paged.long;
        exact = λ from upto h gs g.
            let w = given_well file directory rec h gs y g in
            let before = word_rows file directory rec h gs y g b (omega arith) in
            let many : place + length out₀ ≤ length (places_of b gs) =
            omega (arith, next_rows h gs g b l, rows_before_next rec.row_count gs w b) in
            let base : 65536 * b ≡ b * size = omega arith in
            let rank : rows_before b gs + place ≡ k = omega arith in
            paged.exact (places_of b gs) (rw e (part_holds file directory rec y h gs g b l)) many
            ∙ ap (λ n. page place (length out₀) (map (λ p. n + p) (places_of b gs))) base
            ∙ sym (page_split rec.row_count gs w b place (length out₀) many) ∙ ap (λ r. page r (length out₀) (rows_of gs)) rank;
      }

  -- ---- block after block

  pub paging_start : (from b : ℕ) (out : List ℕ) → Bracket directory (count_of_blocks rec.row_count) from b → from + length out ≤ rec.populated
      → Paging file directory rec from out out b 0
  paging_start from b out found room =
      record {
        within = omega (arith, found.one);
        some = omega arith;
        long = refl;
        exact = λ h gs g. (
          λ l.
              let here =
              found.has (climbs file directory rec y h gs g) (omega (arith, first_word file directory rec h gs y g))
              (omega (arith, closing_rows file directory rec h gs y g)) in
              omega (arith, here.0),
          ap (λ n. drop n (rows_of gs)) (add-zero from),
        );
      }

  module _ (from : ℕ) (out₀ out : List ℕ) (b done : ℕ) (inv : Paging file directory rec from out₀ out b done) where
    -- the rows up to index `to`, all that the list has room for or the block has
    pub paging_more : (to : ℕ) (new : List ℕ) → b < count_of_blocks rec.row_count → done < length out₀ → from + length out₀ ≤ rec.populated
        → to ≡ done + min (length out - done) (get_or directory (2 * (b + 1)) 0 - (from + done))
        → ListedIn file directory rec b (from + done) (take (to - done) (drop done out)) new
        → Paging file directory rec from out₀ (take done out ++ (new ++ drop (to - done) (drop done out))) (b + 1) to
    paging_more to new l h room e listed =
        let n = to - done in
        let k = from + done in
        let end = get_or directory (2 * (b + 1)) 0 in
        let long = inv.long in
        let back : done + n ≡ to = omega arith in
        let part : length (take n (drop done out)) ≡ n = length-take-le n (drop done out) (omega (arith, length-drop done out)) in
        let new-long : length new ≡ n = listed.long ∙ part in
        let fits : done + n ≤ length out = omega arith in
        let i : 2 * b + 2 ≡ 2 * (b + 1) = omega arith in
        record {
          within = omega arith;
          some = omega arith;
          long = part_long out new done n new-long fits ∙ long;
          exact = λ hd gs g.
              let xs = rows_of gs in
              let x = inv.exact hd gs g in
              let new_is : new ≡ take n (drop k xs) =
              by_test (leb k end)
              (λ q. listed.exact (x.0 h) (omega (arith, part, leb-true k end q, ap (λ j. get_or directory j 0) i)) hd gs g ∙ ap (λ n. page k n xs) part)
              (λ q.
              let none : n ≡ 0 = omega (arith, leb-false k end q) in
              sym (take_all 0 new (omega arith)) ∙ ap (λ n. take n (drop k xs)) (sym none)) in
              let after : k + n ≡ from + to = omega arith in
              let whole : new ++ drop (from + to) xs ≡ drop k xs =
              ap₂ (λ a r. a ++ r) new_is (ap (λ m. drop m xs) (sym after) ∙ sym (drop-drop n k xs)) ∙ take-append-drop n (drop k xs) in (
                λ m. omega arith,
                ap (λ t. take t (take done out ++ (new ++ drop n (drop done out))) ++ drop (from + to) xs) (sym back)
                    ∙ part_front out new done n new-long fits (drop from xs) (drop (from + to) xs) (ap (λ r. take done out ++ r) whole ∙ x.1),
              );
        }

    pub paging_end : length out₀ ≤ done → Listed file directory rec from out₀ out
    paging_end h =
        record {
          long = inv.long;
          exact = λ hd gs g.
              front_end out (drop from (rows_of gs)) done (drop (from + done) (rows_of gs)) (omega (arith, inv.long)) (inv.exact hd gs g).1
              ∙ ap (λ n. page from n (rows_of gs)) inv.long;
        }

    -- no block is left: the last one has the last rank
    pub paging_past : b ≡ count_of_blocks rec.row_count → from + length out₀ ≤ rec.populated → Listed file directory rec from out₀ out
    paging_past e room =
        record {
          long = inv.long;
          exact = λ hd gs g.
              let closing = closing_rows file directory rec hd gs y g in
              let all : length out₀ ≤ done =
              by_contra (length out₀) done (λ l. omega (arith, (inv.exact hd gs g).0 l, ap (λ b. get_or directory (2 * b) 0) e, closing)) in
              (paging_end all).exact hd gs g;
        }
