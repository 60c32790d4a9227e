-- The verdict, from what the phases answer.
use Prim.Native.Nat.{ℕ, ◌+◌, ◌-◌, ◌*◌, ◌≤◌, ◌<◌}
use mathlib.Core.Path.{◌≡◌, refl, sym, ap, ◌∙◌, subst}
use mathlib.Core.Bool.{Bool, true, false}
use mathlib.Core.List.{List}
use mathlib.Core.Option.{Option, none, some}
use native.Mathlib.Nat.{zero-add}
use native.Mathlib.Omega.{arith}
use lib.ListN.{length}
use lib.Dec.{ltb}
use borrow.Author.Tests.{ltb-true, ltb-false}
use Rattle.std.specs.Prelude.{Result, Ok, Err, Some, None}
use Rattle.std.specs.Prelude.{Option as Maybe}
use Rattle.std.specs.Result.{result_ok}
use Rattle.spec.specs.declared.Entry.{Entry}
use Rattle.spec.specs.declared.Refusal.{Refusal}
use Rattle.spec.specs.Reading as R
use Rattle.spec.specs.Reading.{limit, number_in, part, padded, entries_at, entries_ok, data_sizes, contents_ok, blocks_at, entry_count, entry_start, entries_of, verdict}
use Rattle.spec.specs.Layout.{rows_of}
use Rattle.spec.specs.Answers.{value, refused, number}
use Rattle.spec.proofs.Tests.{by_test}
use Rattle.spec.proofs.Bytes.{length_part}
use Rattle.spec.proofs.Verdict.{head_in, unended_5, padded_5, rows_1, overlap_6, entries_6, length_7, content_8, passed_holds}
use Rattle.judging.specs.Phases.{judged, head_says, head_of, row_sum, totals_from, totals}
use Rattle.judging.specs.declared.head.Head.{Head}
use Rattle.judging.specs.declared.entries.Totals.{Totals}
use Rattle.judging.proofs.HeadLaws.{head_within}
use Rattle.judging.proofs.ContentLaws.{contents_many}

-- ---- the head

-- what a file has passed whose row count is right
pub record Headed (file : List ℕ) (h : R.Head) : Type 0 where
  pub read : head_in file ≡ some h
  pub unpadded : padded h file ≡ false
  pub limited : h.count ≤ limit
  pub short : h.start ≤ 5
  pub upto : h.start + 2 ≤ length file

-- the row count of a head
abbrev pub count_read : Head → R.Head
count_read head = record { count = head.row_count; start = head.start }

module _ (file : List ℕ) where
  pub headed : (head : Head) → head_of file ≡ Ok head → Headed file (count_read head)
  unfolding head_says
  headed head e = go (head_in file) refl e
    where
      go : (o : Option R.Head) → head_in file ≡ o → head_says file o ≡ Ok head → Headed file (count_read head)
      go none p q = absurd (let z : ◌≡◌ {A = ℕ} 0 1 = cc in omega arith)
      go (some h) p q =
          by_test (padded h file) (λ u. let r = rw u at q in absurd (let z : ◌≡◌ {A = ℕ} 0 1 = cc in omega arith))
          (λ u. by_test (ltb limit h.count) (λ l. let r = rw (u, l) at q in absurd (let z : ◌≡◌ {A = ℕ} 0 1 = cc in omega arith))
          (λ l.
          let r : Ok (record { row_count = h.count; start = h.start }) ≡ Ok head = rw (u, l) at q in
          let k : record { row_count = h.count; start = h.start } ≡ head = cc in
          let same : h ≡ count_read head = ap count_read k in
          let w = head_within 5 (part 0 (length file - 2) file) h p in
          subst (Headed file) same (record {
            read = p;
            unpadded = u;
            limited = ltb-false limit h.count l;
            short = w.1;
            upto = omega (arith, w.0, w.2, length_part 0 (length file - 2) file (omega arith) (omega arith));
          })))

  pub head_refused : (e : Refusal) → head_of file ≡ Err e → refused (number e) ≡ judged (verdict file)
  unfolding head_says
  head_refused e q = go (head_in file) refl q
    where
      go : (o : Option R.Head) → head_in file ≡ o → head_says file o ≡ Err e → refused (number e) ≡ judged (verdict file)
      go none p q = rw (unended_5 file p) (cc)
      go (some h) p q =
          by_test (padded h file) (λ u. let r = rw u at q in rw (padded_5 file h p u) (cc))
          (λ u. by_test (ltb limit h.count) (λ l. let r = rw (u, l) at q in rw (rows_1 file h p u (ltb-true limit h.count l)) (cc))
          (λ l. let r = rw (u, l) at q in absurd (let z : ◌≡◌ {A = ℕ} 0 1 = cc in omega arith)))

-- ---- the entries' sums

wrong_entries : (count : ℕ) (es : List Entry) → None ≡ totals count es → entries_ok count 0 es ≡ false
unfolding totals_from
wrong_entries count es e =
    by_test (entries_ok count 0 es) (λ o. let r = rw o at e in absurd (let z : ◌≡◌ {A = ℕ} 0 1 = cc in omega arith)) (λ o. o)

right_sums : (count : ℕ) (t : Totals) (es : List Entry) → Some t ≡ totals count es
    → (entries_ok count 0 es ≡ true) × (t.rows ≡ row_sum es) × (t.size ≡ data_sizes es)
unfolding totals_from
right_sums count t es e =
    by_test (entries_ok count 0 es)
    (λ o. let r : Some t ≡ Some (record { rows = 0 + row_sum es; size = 0 + data_sizes es }) = rw o at e in
    let s : t ≡ record { rows = 0 + row_sum es; size = 0 + data_sizes es } = cc in
    (o, ap (λ t. t.rows) s ∙ zero-add (row_sum es), ap (λ t. t.size) s ∙ zero-add (data_sizes es)))
    (λ o. let r = rw o at e in absurd (let z : ◌≡◌ {A = ℕ} 0 1 = cc in omega arith))

-- ---- behind the head

pub entry_count_back : (file : List ℕ) (n : ℕ) → 2 ≤ length file → n ≡ number_in (part (length file - 2) (length file - 2 + 2) file) → n ≡ entry_count file
entry_count_back file n h e = let l : length file - 2 + 2 ≡ length file = omega arith in e ∙ ap (λ to. number_in (part (length file - 2) to file)) l

pub counted : (file : List ℕ) {head : Head} {n : ℕ} → head_of file ≡ Ok head
    → n ≡ number_in (part (length file - 2) (length file - 2 + 2) file) → n ≡ entry_count file
counted file {head} {n} e q = entry_count_back file n (omega (arith, (headed file head e).upto)) q

pub says_overlap : (file : List ℕ) (h : R.Head) → Headed file h → length file < h.start + 4 * entry_count file + 2 → refused 6 ≡ judged (verdict file)
says_overlap file h hd l = rw (overlap_6 file h hd.read hd.unpadded hd.limited l)

-- the entries es fit behind the row count
pub record Fitting (file : List ℕ) (h : R.Head) (es : List Entry) : Type 0 where
  pub head : Headed file h
  pub room : h.start + 4 * entry_count file + 2 ≤ length file
  pub all : es ≡ entries_of file

pub fitting : {file : List ℕ} {head : Head} {es : List Entry} → head_of file ≡ Ok head
    → head.start + 4 * entry_count file + 2 ≤ length file → es ≡ entries_of file → Fitting file (count_read head) es
fitting {file} {head} e l a = record { head = headed file head e; room = l; all = a }

pub says_wrong : {file : List ℕ} {h : R.Head} {es : List Entry} {e : Refusal} {o : Maybe Totals} {r : Result Totals Refusal} → Fitting file h es
    → o ≡ result_ok r → r ≡ Err e → o ≡ totals h.count es → refused 6 ≡ judged (verdict file)
says_wrong {file} {h} f p e q =
    let d = f.head in
    rw (entries_6 file h d.read d.unpadded d.limited f.room (wrong_entries h.count (entries_of file) (rw f.all at (sym (p ∙ ap result_ok e) ∙ q))))

-- and they are right, with these sums
pub record Summed (file : List ℕ) (h : R.Head) (es : List Entry) (t : Totals) : Type 0 where
  pub fit : Fitting file h es
  pub right : entries_ok h.count 0 (entries_of file) ≡ true
  pub rows' : t.rows ≡ row_sum (entries_of file)
  pub size' : t.size ≡ data_sizes (entries_of file)

pub summed : {file : List ℕ} {h : R.Head} {es : List Entry} {t : Totals} {o : Maybe Totals} {r : Result Totals Refusal} → Fitting file h es
    → o ≡ result_ok r → r ≡ Ok t → o ≡ totals h.count es → Summed file h es t
summed {file} {h} {t = t} f p e q =
    let k = right_sums h.count t (entries_of file) (rw f.all at (sym (p ∙ ap result_ok e) ∙ q)) in
    record { fit = f; right = k.0; rows' = k.1; size' = k.2 }

module _ {file : List ℕ} {h : R.Head} {es : List Entry} {t : Totals} (s : Summed file h es t) where
  pub says_length : (entry_start file - h.start ≡ t.size → ⊥) → refused 7 ≡ judged (verdict file)
  says_length k = let d = s.fit.head in rw (length_7 file h d.read d.unpadded d.limited s.fit.room s.right (λ e. k (e ∙ sym s.size')))

  module _ (l : entry_start file - h.start ≡ t.size) where
    pub data_within : h.start + data_sizes es ≤ length file
    data_within = rw s.fit.all (omega (arith, l ∙ s.size', s.fit.room))

    module _ (ok : Bool) (k : ok ≡ contents_ok h.count es h.start file) where
      contents : contents_ok h.count (entries_of file) h.start file ≡ ok
      contents = sym (rw s.fit.all at k)

      pub says_content : ok ≡ false → refused 8 ≡ judged (verdict file)
      says_content o = let d = s.fit.head in rw (content_8 file h d.read d.unpadded d.limited s.fit.room s.right (l ∙ s.size') (contents ∙ o))

      pub says_record : ok ≡ true → value (record { row_count = h.count; populated = t.rows; data_start = h.start }) ≡ judged (verdict file)
      says_record o =
          let d = s.fit.head in
          let many : t.rows ≡ length (rows_of (blocks_at (entries_of file) h.start file)) =
          s.rows' ∙ sym (contents_many h.count h.start file (entries_of file) (contents ∙ o)) in
          rw (passed_holds file h d.read (record {
            unpadded = d.unpadded;
            limited = d.limited;
            fits = s.fit.room;
            entries = s.right;
            sizes = l ∙ s.size';
            contents = contents ∙ o;
          }))
          (ap (λ n. value (record { row_count = h.count; populated = n; data_start = h.start })) many)
