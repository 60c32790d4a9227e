-- Ranks replaced by their rows: a run of consecutive ranks of one block is a page of it.
use Rattle.std.proofs.Common.{◌≡◌, ℕ, zero, suc, ◌+◌, ◌-◌, ◌*◌, ◌<◌, ◌≤◌, min, true, List, [], ◌∷◌, ◌++◌, length, get_or, take, drop, sym, refl, ap, ◌∙◌, ap₂, add-zero, arith, length-drop, take-append-drop, length-take-le, get_or-drop, take_all, drop-cons, get_or-take, drop-drop, below_more}
use mathlib.Core.List.{map-append}
use Rattle.spec.specs.declared.Record.{Record}
use Rattle.spec.specs.Set.{below, selects, page}
use Rattle.spec.specs.Layout.{rows_of}
use Rattle.spec.specs.Reading.{count_of_blocks, AreBytes}
use Rattle.spec.proofs.Questions.{below_all}
use Rattle.spec.proofs.Batches.{length_selects}
use Rattle.spec.proofs.Directory.{given_populated, first_word, closing_rows}
use Rattle.words.proofs.FrontLaws.{front_end, part_long, part_front, part_rest}
use Rattle.directory.specs.Parts.{Bracket}
use Rattle.directory.proofs.FindLaws.{climbs}
use Rattle.asking.specs.Members.{Of}
use Rattle.batches.specs.Batches.{ListedIn, Selected, Run}

-- ---- a run

pub run_one : (ks : List ℕ) (i end : ℕ) → i < length ks → Run ks i end (i + 1)
run_one ks i end h =
    record {
      some = omega arith;
      within = omega arith;
      next = λ j l. let z : j ≡ 0 = omega arith in rw (z, add-zero i, add-zero (get_or ks i 0));
      below = λ l. omega arith;
    }

pub run_more : (ks : List ℕ) (i end n : ℕ) → Run ks i end (i + n) → n < min (length ks - i) (end - get_or ks i 0)
    → get_or ks (i + n) 0 ≡ get_or ks i 0 + n → Run ks i end (i + (n + 1))
run_more ks i end n r l q =
    record {
      some = omega arith;
      within = omega arith;
      next = λ j m. below_more (λ j. get_or ks (i + j) 0 ≡ get_or ks i 0 + j) n (λ j k. r.next j (omega arith)) q j (omega arith);
      below = λ m. omega arith;
    }

-- consecutive ranks are a page
run_page : (xs ks : List ℕ) (k n : ℕ) → length ks ≡ n → ((j : ℕ) → j < n → get_or ks j 0 ≡ k + j) → k + n ≤ length xs → selects xs ks ≡ page k n xs
run_page xs [] k zero e f h = refl
run_page xs [] k (suc n) e f h = absurd (omega arith)
run_page xs (x ∷ ks) k zero e f h = absurd (omega arith)
run_page xs (x ∷ ks) k (suc n) e f h =
    let first : x ≡ k = f 0 (omega arith) ∙ add-zero k in
    let rest : selects xs ks ≡ page (suc k) n xs =
    run_page xs ks (suc k) n (omega arith) (λ j l. omega (arith, f (suc j) (omega arith))) (omega arith) in
    ap₂ (λ a l. get_or xs a 0 ∷ l) first rest ∙ ap (take (suc n)) (sym (drop-cons xs k 0 (omega arith)))

-- ---- run after run

-- the first i ranks are replaced, and those behind are as they were
pub record Replacing (file directory : List ℕ) (rec : Record) (ks out : List ℕ) (b i : ℕ) : Type 0 where
  pub within : i ≤ length ks
  pub long : length out ≡ length ks
  pub rest : drop i out ≡ drop i ks
  pub one : 0 < count_of_blocks rec.row_count → b < count_of_blocks rec.row_count
  pub exact : Of file directory rec (λ xs. take i out ++ selects xs (drop i ks) ≡ selects xs ks)

module _ (file directory : List ℕ) (rec : Record) (y : AreBytes file) where
  pub replacing_start : (ks : List ℕ) → Replacing file directory rec ks ks 0 0
  replacing_start ks = record { within = omega arith; long = refl; rest = refl; one = λ l. l; exact = λ h gs g. refl }

  module _ (ks out : List ℕ) (b i : ℕ) (inv : Replacing file directory rec ks out b i) where
    -- the ranks that are left are as they were lent
    pub rank_left : (j : ℕ) → get_or out (i + j) 0 ≡ get_or ks (i + j) 0
    rank_left j = sym (get_or-drop i out j 0) ∙ ap (λ l. get_or l j 0) inv.rest ∙ get_or-drop i ks j 0

    pub rank_below : below rec.populated ks ≡ true → i < length ks → get_or out i 0 < rec.populated
    rank_below all h =
        let z : i + 0 ≡ i = add-zero i in
        omega (arith, ap (λ i. get_or out i 0) z, ap (λ i. get_or ks i 0) z, rank_left 0, below_all rec.populated ks all i h)

    pub replacing_more : (b' e : ℕ) (new : List ℕ) → below rec.populated ks ≡ true → i < length ks
        → Bracket directory (count_of_blocks rec.row_count) (get_or out i 0) b' → Run out i (get_or directory (2 * (b' + 1)) 0) e
        → ListedIn file directory rec b' (get_or out i 0) (take (e - i) (drop i out)) new
        → Replacing file directory rec ks (take i out ++ (new ++ drop (e - i) (drop i out))) b' e
    replacing_more b' e new all h found run listed =
        let n = e - i in
        let k = get_or out i 0 in
        let s = run.some in
        let w = run.within in
        let long = inv.long in
        let back : i + n ≡ e = omega arith in
        let part : length (take n (drop i out)) ≡ n = length-take-le n (drop i out) (omega (arith, length-drop i out)) in
        let new-long : length new ≡ n = listed.long ∙ part in
        let fits : i + n ≤ length out = omega arith in
        record {
          within = omega arith;
          long = part_long out new i n new-long fits ∙ long;
          rest = ap (λ e. drop e (take i out ++ (new ++ drop n (drop i out)))) (sym back) ∙ part_rest out new i n new-long fits ks inv.rest
              ∙ ap (λ e. drop e ks) back;
          one = λ l. found.one;
          exact = λ hd gs g.
              let xs = rows_of gs in
              let B = count_of_blocks rec.row_count in
              let up = climbs file directory rec y hd gs g in
              let j : 2 * b' + 2 ≡ 2 * (b' + 1) = omega arith in
              let after = ap (λ j. get_or directory j 0) j in
              let here =
              found.has up (omega (arith, first_word file directory rec hd gs y g))
              (omega (arith, closing_rows file directory rec hd gs y g, rank_below all h)) in
              let upto : k + n ≤ get_or directory (2 * b' + 2) 0 = omega (arith, run.below here.1) in
              let many : k + n ≤ length xs =
              omega (arith, up (b' + 1) B (omega (arith, found.one)) (omega arith), closing_rows file directory rec hd gs y g, given_populated file directory rec hd gs y g) in
              let new_is : new ≡ page k n xs =
              listed.exact here.0 (omega (arith, part)) hd gs g ∙ ap (λ n. page k n xs) part in
              let old : length (take n (drop i ks)) ≡ n = length-take-le n (drop i ks) (omega (arith, length-drop i ks)) in
              let ranks : (j : ℕ) → j < n → get_or (take n (drop i ks)) j 0 ≡ k + j =
              λ j l. get_or-take n (drop i ks) j 0 l ∙ get_or-drop i ks j 0 ∙ sym (rank_left j) ∙ run.next j l in
              let rows : selects xs (take n (drop i ks)) ≡ new = run_page xs (take n (drop i ks)) k n old ranks many ∙ sym new_is in
              let cut : selects xs (drop i ks) ≡ new ++ selects xs (drop e ks) =
              ap (selects xs) (sym (take-append-drop n (drop i ks)) ∙ ap (λ r. take n (drop i ks) ++ r) (drop-drop n i ks ∙ ap (λ e. drop e ks) back))
              ∙ map-append (λ k. get_or xs k 0) (take n (drop i ks)) (drop e ks) ∙ ap (λ l. l ++ selects xs (drop e ks)) rows in
              ap (λ e'. take e' (take i out ++ (new ++ drop n (drop i out))) ++ selects xs (drop e ks)) (sym back)
              ∙ part_front out new i n new-long fits (selects xs ks) (selects xs (drop e ks)) (ap (λ r. take i out ++ r) (sym cut) ∙ inv.exact hd gs g);
        }

    pub replacing_end : length ks ≤ i → Selected file directory rec ks out
    replacing_end h =
        record {
          long = inv.long;
          exact = λ hd gs g.
              let xs = rows_of gs in
              front_end out (selects xs ks) i (selects xs (drop i ks)) (omega (arith, inv.long)) (inv.exact hd gs g)
              ∙ take_all (length out) (selects xs ks) (omega (arith, inv.long, length_selects xs ks));
        }
