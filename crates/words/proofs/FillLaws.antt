-- A batch's two lists, filled from the front: what is written, with what the questions left call for, is the whole batch.
use Prim.Native.Nat.{ℕ, ◌+◌, ◌-◌, ◌%◌, ◌^◌, ◌≤◌, ◌<◌}
use mathlib.Core.Path.{◌≡◌, refl, sym, ap, ◌∙◌}
use mathlib.Core.Bool.{true, false}
use mathlib.Core.List.{List, [], ◌∷◌, ◌++◌, map, map-append}
use native.Mathlib.Nat.{zero-add, add-suc, suc-add}
use native.Mathlib.Numerals.{add-one}
use native.Mathlib.Omega.{arith}
use lib.ListN.{length, get_or, drop, set, length-set, length-map, length-append, take-append-drop, drop_of_length-le}
use lib.Seq.{drop-cons, drop-drop, drop-set-lt, sets, sets-eq}
use Rattle.spec.specs.Set.{contains, rank, hits}
use Rattle.spec.specs.Reading.{part}
use Rattle.spec.proofs.Batches.{hits_le, hits_append}
use Rattle.words.proofs.StoreLaws.{sets_append}

-- the rank of a row, counted on from first in 32 bits
abbrev pub counted : List ℕ → ℕ → ℕ → ℕ
counted xs first q = (first + rank q xs) % 2 ^ 32

-- the count and the two lists, when n hits are written and the questions qs are left; `says` is what is written of a hit's rank
abbrev pub batch : List ℕ → (ℕ → ℕ) → ℕ → List ℕ → List ℕ → List ℕ → ℕ × List ℕ × List ℕ
batch xs says n rows ranks qs = (n + length (hits xs qs), sets rows n (hits xs qs), sets ranks n (map says (hits xs qs)))

-- after i questions: no more hits than questions, and what is past them stays; where `Given` holds, exactly the hits of the set xs
pub record Filling (Given : Type 0) (xs qs : List ℕ) (says : ℕ → ℕ) (rows₀ ranks₀ rows ranks : List ℕ) (n i : ℕ) : Type 0 where
  pub asked : i ≤ length qs
  pub fewer : n ≤ i
  pub rows_stay : drop n rows ≡ drop n rows₀
  pub ranks_stay : drop n ranks ≡ drop n ranks₀
  pub rows_long : length rows ≡ length rows₀
  pub ranks_long : length ranks ≡ length ranks₀
  pub same : Given → batch xs says n rows ranks (drop i qs) ≡ batch xs says 0 rows₀ ranks₀ qs

pub filling_none : (Given : Type 0) (xs qs : List ℕ) (says : ℕ → ℕ) (rows ranks : List ℕ) → Filling Given xs qs says rows ranks rows ranks 0 0
filling_none Given xs qs says rows ranks =
    record { asked = omega arith; fewer = omega arith; rows_stay = refl; ranks_stay = refl; rows_long = refl; ranks_long = refl; same = λ g. refl }

stay : (d d₀ : List ℕ) (n x : ℕ) → drop n d ≡ drop n d₀ → drop (n + 1) (set d n x) ≡ drop (n + 1) d₀
stay d d₀ n x e = drop-set-lt (n + 1) d n x (omega arith) ∙ sym (drop-drop 1 n d) ∙ ap (drop 1) e ∙ drop-drop 1 n d₀

module _ {Given : Type 0} {xs qs rows₀ ranks₀ rows ranks : List ℕ} {says : ℕ → ℕ} {n i : ℕ} (f : Filling Given xs qs says rows₀ ranks₀ rows ranks n i) where
  next_question : i < length qs → drop i qs ≡ get_or qs i 0 ∷ drop (i + 1) qs
  next_question h = rw (add-one i) (drop-cons qs i 0 h)

  pub filling_hit : (r : ℕ) → i < length qs → (Given → (contains (get_or qs i 0) xs ≡ true) × (r ≡ says (get_or qs i 0)))
      → Filling Given xs qs says rows₀ ranks₀ (set rows n (get_or qs i 0)) (set ranks n r) (n + 1) (i + 1)
  unfolding hits
  filling_hit r h is = record {
    asked = omega arith;
    fewer = omega (arith, f.fewer);
    rows_stay = stay rows rows₀ n (get_or qs i 0) f.rows_stay;
    ranks_stay = stay ranks ranks₀ n r f.ranks_stay;
    rows_long = length-set rows n (get_or qs i 0) ∙ f.rows_long;
    ranks_long = length-set ranks n r ∙ f.ranks_long;
    same = λ g.
        let later : ℕ = length (hits xs (drop (i + 1) qs)) in
        rw ((is g).1, add-one n, suc-add n later) (rw (next_question h, (is g).0, add-suc n later) at (f.same g));
  }

  pub filling_miss : i < length qs → (Given → contains (get_or qs i 0) xs ≡ false) → Filling Given xs qs says rows₀ ranks₀ rows ranks n (i + 1)
  unfolding hits
  filling_miss h is = record {
    asked = omega arith;
    fewer = omega (arith, f.fewer);
    rows_stay = f.rows_stay;
    ranks_stay = f.ranks_stay;
    rows_long = f.rows_long;
    ranks_long = f.ranks_long;
    same = λ g. rw (next_question h, is g) at (f.same g);
  }

  -- no question left
  pub filling_all : length qs ≤ i → length qs ≤ length rows₀ → length qs ≤ length ranks₀ → Given
      → (n ≡ length (hits xs qs)) × (rows ≡ hits xs qs ++ drop n rows₀) × (ranks ≡ map says (hits xs qs) ++ drop n ranks₀)
  unfolding hits
  filling_all h room room' g =
      let hs : List ℕ = hits xs qs in
      let end : batch xs says n rows ranks [] ≡ batch xs says 0 rows₀ ranks₀ qs = rw (drop_of_length-le qs {i = i} h) at (f.same g) in
      let count : n ≡ length hs = omega (arith, ap (λ o. o.0) end) in
      let few = hits_le xs qs in
      let many : length (map says hs) ≡ length hs = length-map hs says in (
        count,
        ap (λ o. o.1) end ∙ rw (sets-eq hs rows₀ 0 (omega arith), zero-add, ← count) refl,
        ap (λ o. o.2) end ∙ rw (sets-eq (map says hs) ranks₀ 0 (omega arith), zero-add, many, ← count) refl,
      )

  -- a run of questions up to e at once: m hits, from index n on
  pub filling_run : (e m : ℕ) (rows' ranks' : List ℕ) → i ≤ e → e ≤ length qs → m ≤ e - i
      → drop (n + m) rows' ≡ drop (n + m) rows → drop (n + m) ranks' ≡ drop (n + m) ranks → length rows' ≡ length rows → length ranks' ≡ length ranks
      → (Given → let hs = hits xs (part i e qs) in (m ≡ length hs) × (rows' ≡ sets rows n hs) × (ranks' ≡ sets ranks n (map says hs)))
      → Filling Given xs qs says rows₀ ranks₀ rows' ranks' (n + m) e
  unfolding part
  filling_run e m rows' ranks' l h few stays stays' long long' is = record {
    asked = h;
    fewer = omega (arith, f.fewer);
    rows_stay = stays ∙ further rows rows₀ f.rows_stay;
    ranks_stay = stays' ∙ further ranks ranks₀ f.ranks_stay;
    rows_long = long ∙ f.rows_long;
    ranks_long = long' ∙ f.ranks_long;
    same = λ g.
        let hs = hits xs (part i e qs) in
        let rest = hits xs (drop e qs) in
        let back : i + (e - i) ≡ e = omega arith in
        let cut : hits xs (drop i qs) ≡ hs ++ rest =
        ap (hits xs) (sym (take-append-drop (e - i) (drop i qs)) ∙ ap (λ r. part i e qs ++ r) (drop-drop (e - i) i qs ∙ ap (λ k. drop k qs) back))
        ∙ hits_append xs (part i e qs) (drop e qs) in
        let m-is = (is g).0 in
        let mapped : map says (hits xs (drop i qs)) ≡ map says hs ++ map says rest = ap (map says) cut ∙ map-append says hs rest in
        let front : sets rows' (n + m) rest ≡ sets rows n (hits xs (drop i qs)) =
        ap (λ d. sets d (n + m) rest) (is g).1 ∙ sym (sets_append hs rest rows n (n + m) (omega arith)) ∙ ap (sets rows n) (sym cut) in
        let behind : sets ranks' (n + m) (map says rest) ≡ sets ranks n (map says (hits xs (drop i qs))) =
        ap (λ d. sets d (n + m) (map says rest)) (is g).2
        ∙ sym (sets_append (map says hs) (map says rest) ranks n (n + m) (omega (arith, length-map hs says))) ∙ ap (sets ranks n) (sym mapped) in
        let count : n + m + length rest ≡ n + length (hits xs (drop i qs)) = omega (arith, ap length cut, length-append hs rest) in
        let now : batch xs says (n + m) rows' ranks' (drop e qs) ≡ batch xs says n rows ranks (drop i qs) = λ j. (count j, front j, behind j) in
        now ∙ f.same g;
  }
    where
      further : (d d₀ : List ℕ) → drop n d ≡ drop n d₀ → drop (n + m) d ≡ drop (n + m) d₀
      further d d₀ q = sym (drop-drop m n d) ∙ ap (drop m) q ∙ drop-drop m n d₀
