-- The turns of a batch lookup: a question, or a run of questions of one block, at once.
use Rattle.std.proofs.Common.{◌≡◌, ℕ, suc, ◌+◌, ◌-◌, ◌*◌, ◌/◌, ◌<◌, ◌≤◌, List, [], ◌++◌, map, length, get_or, take, drop, set, sym, refl, ap, ◌∙◌, append-nil, arith, length-append, length-drop, drop_of_length-le, length-take-le, take_all, drop-drop}
use Rattle.std.proofs.Common.{Option as Maybe, Some, None}
use native.Mathlib.Omega.{by_contra}
use lib.ListN.{length-map}
use lib.Seq.{drop-append-add, sets}
use Rattle.spec.specs.declared.Record.{Record}
use Rattle.spec.specs.Set.{contains, rank, hits, ranks}
use Rattle.spec.specs.Layout.{size, Block, rows_of}
use Rattle.spec.specs.Reading.{AreBytes, part, Head, Given}
use Rattle.spec.proofs.Bytes.{length_part, get_or_part}
use Rattle.spec.proofs.Questions.{lookup_found, lookup_none, contains_past}
use Rattle.spec.proofs.Directory.{given_rise}
use Rattle.words.specs.Part.{placed, NeverFalls, InBlock}
use Rattle.words.proofs.StoreLaws.{part_back}
use Rattle.words.proofs.FillLaws.{Filling, filling_none, filling_hit, filling_miss, filling_run, filling_all}
use Rattle.rows.specs.Runs.{Below}
use Rattle.asking.specs.Members.{Looked}
use Rattle.batches.specs.Batches.{Hits}
use Rattle.batches.proofs.LookupLaws.{hits_none}

-- ---- a list lent from index n on

abbrev pub tail : ℕ → List ℕ → List ℕ
tail n l = take (length l - n) (drop n l)

abbrev pub with_tail : ℕ → List ℕ → List ℕ → List ℕ
with_tail n l new = take n l ++ (new ++ drop (length l - n) (drop n l))

-- what is left of a list, taken whole; std says its length alone
tail_is : (n : ℕ) (l : List ℕ) → take (length l - n) (drop n l) ≡ drop n l
tail_is n l = take_all (length l - n) (drop n l) (omega (arith, length-drop n l))

pub length_tail : (n : ℕ) (l : List ℕ) → length (take (length l - n) (drop n l)) ≡ length l - n
length_tail n l = ap length (tail_is n l) ∙ length-drop n l

with_tail_is : (n : ℕ) (l new : List ℕ) → take n l ++ (new ++ drop (length l - n) (drop n l)) ≡ take n l ++ new
with_tail_is n l new =
    ap (λ r. take n l ++ r) (ap (λ r. new ++ r) (drop_of_length-le (drop n l) {i = length l - n} (omega (arith, length-drop n l))) ∙ append-nil new)

tail_stays : (n m : ℕ) (old new : List ℕ) → n + m ≤ length old → drop m new ≡ drop m (drop n old) → drop (n + m) (take n old ++ new) ≡ drop (n + m) old
tail_stays n m old new h q =
    let k : length (take n old) ≡ n = length-take-le n old (omega arith) in
    ap (λ k. drop (k + m) (take n old ++ new)) (sym k) ∙ drop-append-add (take n old) new m ∙ q ∙ drop-drop m n old

tail_long : (n : ℕ) (old new : List ℕ) → n ≤ length old → length new ≡ length (drop n old) → length (take n old ++ new) ≡ length old
tail_long n old new h q = length-append (take n old) new ∙ omega (arith, length-take-le n old h, length-drop n old)

-- ---- the turns

-- after i questions, of all that opening may have given together
abbrev pub Sought : List ℕ → List ℕ → Record → List ℕ → List ℕ → List ℕ → List ℕ → List ℕ → ℕ → ℕ → Head → List Block → Type 0
Sought file directory rec qs rows₀ ranks₀ rows ranks' n i h gs =
    Filling (Given file directory rec h gs) (rows_of gs) qs (λ q. rank q (rows_of gs)) rows₀ ranks₀ rows ranks' n i

-- and what holds whatever it gave
pub record Seeking (file directory : List ℕ) (rec : Record) (qs rows₀ ranks₀ rows ranks' : List ℕ) (n i : ℕ) : Type 0 where
  pub filled : (h : Head) (gs : List Block) → Sought file directory rec qs rows₀ ranks₀ rows ranks' n i h gs
  pub loose : Sought file directory rec qs rows₀ ranks₀ rows ranks' n i (record { count = 0; start = 0 }) []

seeking : {file directory : List ℕ} {rec : Record} {qs rows₀ ranks₀ rows ranks' : List ℕ} {n i : ℕ}
    → ((h : Head) (gs : List Block) → Sought file directory rec qs rows₀ ranks₀ rows ranks' n i h gs)
    → Seeking file directory rec qs rows₀ ranks₀ rows ranks' n i
seeking f = record { filled = f; loose = f (record { count = 0; start = 0 }) [] }

pub seeking_none : (file directory : List ℕ) (rec : Record) (qs rows ranks' : List ℕ) → Seeking file directory rec qs rows ranks' rows ranks' 0 0
seeking_none file directory rec qs rows ranks' = seeking (λ h gs. filling_none _ _ qs _ rows ranks')

module _ {file directory : List ℕ} {rec : Record} {qs rows₀ ranks₀ rows ranks' : List ℕ} {n i : ℕ}
    (s : Seeking file directory rec qs rows₀ ranks₀ rows ranks' n i) where
  -- ---- one question

  module _ (h : i < length qs) {r : Maybe ℕ} (says : Looked file directory rec (get_or qs i 0) r) where
    pub seeking_hit : (x : ℕ) → r ≡ Some x → Seeking file directory rec qs rows₀ ranks₀ (set rows n (get_or qs i 0)) (set ranks' n x) (n + 1) (i + 1)
    seeking_hit x e =
        seeking (λ hd gs. filling_hit (s.filled hd gs) x h (λ g. lookup_found (get_or qs i 0) x (rows_of gs) (sym (says hd gs g) ∙ ap placed e)))

    pub seeking_miss : r ≡ None → Seeking file directory rec qs rows₀ ranks₀ rows ranks' n (i + 1)
    seeking_miss e =
        seeking (λ hd gs. filling_miss (s.filled hd gs) h (λ g. lookup_none (get_or qs i 0) (rows_of gs) (sym (says hd gs g) ∙ ap placed e)))

  -- ---- no question left

  pub seeking_all : length qs ≤ i → length qs ≤ length rows₀ → length qs ≤ length ranks₀ → Hits file directory rec qs rows₀ ranks₀ rows ranks' n
  seeking_all h room room' =
      record {
        fewer = omega (arith, s.loose.fewer, s.loose.asked);
        rows_stay = s.loose.rows_stay;
        ranks_stay = s.loose.ranks_stay;
        exact = λ hd gs g. filling_all (s.filled hd gs) h room room' g;
      }

  -- or only questions at or past the row count
  past : AreBytes file → NeverFalls qs → i < length qs → rec.row_count ≤ get_or qs i 0 → (h : Head) (gs : List Block) → Given file directory rec h gs
      → hits (rows_of gs) (part i (length qs) qs) ≡ []
  past y order h l hd gs g =
      hits_none (rows_of gs) (part i (length qs) qs) (λ j m.
      let k : j < length qs - i = omega (arith, length_part i (length qs) qs (omega arith) (omega arith)) in
      ap (λ q. contains q (rows_of gs)) (get_or_part i (length qs) qs j k)
      ∙ contains_past 0 rec.row_count (rows_of gs) (given_rise file directory rec hd gs y g) (get_or qs (i + j) 0)
      (omega (arith, order i (i + j) (omega arith) (omega arith))))

  pub seeking_past : AreBytes file → NeverFalls qs → i < length qs → rec.row_count ≤ get_or qs i 0
      → Seeking file directory rec qs rows₀ ranks₀ rows ranks' (n + 0) (length qs)
  seeking_past y order h l =
      seeking (λ hd gs.
      filling_run (s.filled hd gs) (length qs) 0 rows ranks' (omega arith) (omega arith) (omega arith) refl refl refl refl (λ g.
      let none = past y order h l hd gs g in
      (ap length (sym none), ap (sets rows n) (sym none), ap (λ l. sets ranks' n (map (λ q. rank q (rows_of gs)) l)) (sym none))))

  -- ---- a run of questions, with the lists from index n on lent

  module _ (e m : ℕ) (new new' : List ℕ) (from : i ≤ e) (upto : e ≤ length qs) (room : length qs ≤ length rows₀) (room' : length qs ≤ length ranks₀)
    where
      module _ (found : Hits file directory rec (part i e qs) (drop n rows) (drop n ranks') new new' m) where
        few : m ≤ e - i
        few = omega (arith, found.fewer, length_part i e qs from upto)

        run : length new ≡ length (drop n rows) → length new' ≡ length (drop n ranks')
            → Seeking file directory rec qs rows₀ ranks₀ (take n rows ++ new) (take n ranks' ++ new') (n + m) e
        run long long' =
            let f = s.loose in
            let b = few in
            let fits : n + m ≤ length rows = omega (arith, f.fewer, f.rows_long) in
            let fits' : n + m ≤ length ranks' = omega (arith, f.fewer, f.ranks_long) in
            seeking (λ hd gs.
            filling_run (s.filled hd gs) e m (take n rows ++ new) (take n ranks' ++ new') from upto few
            (tail_stays n m rows new fits found.rows_stay) (tail_stays n m ranks' new' fits' found.ranks_stay)
            (tail_long n rows new (omega arith) long) (tail_long n ranks' new' (omega arith) long') (λ g.
            let hs = hits (rows_of gs) (part i e qs) in
            let x = found.exact hd gs g in
            let many : length (ranks (rows_of gs) hs) ≡ length hs = length-map hs (λ q. rank q (rows_of gs)) in (
              x.0,
              ap (λ l. take n rows ++ l) x.1 ∙ part_back hs rows n m (sym x.0) fits,
              ap (λ l. take n ranks' ++ l) x.2 ∙ part_back (ranks (rows_of gs) hs) ranks' n m (many ∙ sym x.0) fits',
            )))

      pub seeking_run : Hits file directory rec (part i e qs) (tail n rows) (tail n ranks') new new' m → length new ≡ length (tail n rows)
          → length new' ≡ length (tail n ranks')
          → Seeking file directory rec qs rows₀ ranks₀ (with_tail n rows new) (with_tail n ranks' new') (n + m) e
      seeking_run found long long' =
          let a = tail_is n rows in
          let b = tail_is n ranks' in
          rw (with_tail_is n rows new, with_tail_is n ranks' new') (run (rw (a, b) at found) (rw a at long) (rw b at long'))

-- ---- a run of questions from i up to e, the first of what is left: they never fall, and are rows of one block

pub record Ran (qs : List ℕ) (i e : ℕ) : Type 0 where
  pub some : i < e
  pub within : e ≤ length qs
  pub many : length (part i e qs) ≡ e - i
  pub falls : NeverFalls (part i e qs)
  pub block : InBlock (65536 * (get_or qs i 0 / size)) (part i e qs)

pub ran : (qs : List ℕ) (i e : ℕ) → i < length qs → NeverFalls qs → Below qs (get_or qs i 0 / size * size + size) e → Ran qs i e
ran qs i e h order below =
    let some : i < e = by_contra (suc i) e (λ l. omega (arith, below.after i (omega arith) h)) in
    let many = length_part i e qs (omega arith) below.within in
    record {
      some = some;
      within = below.within;
      many = many;
      falls = λ a b m k.
          rw (get_or_part i e qs a (omega arith), get_or_part i e qs b (omega arith)) (order (i + a) (i + b) (omega arith) (omega (arith, below.within)));
      block = λ j k.
          rw (get_or_part i e qs j (omega arith))
          (omega (arith, order i (i + j) (omega arith) (omega (arith, below.within)), below.before (i + j) (omega (arith, below.within))));
    }
