-- Each call's statement has one outcome: two answers that meet it are equal, all lent memory included, and one meets it.
use Prim.Native.Nat.{ℕ, ◌-◌, ◌≤◌, ◌<◌, min}
use mathlib.Core.Path.{◌≡◌, refl, sym, ap, ◌∙◌}
use mathlib.Core.Bool.{false, not, ◌||◌}
use mathlib.Core.List.{List}
use mathlib.Core.Option.{Option, none, some}
use native.Mathlib.Omega.{arith}
use lib.ListN.{length, drop, get_or, length-map}
use lib.Seq.{drop_at, drop-append_seam}
use lib.Dec.{ltb, leb}
use borrow.Author.Tests.{lt-leb, le-ltb}
use Rattle.std.specs.Prelude.{Bool, Result}
use Rattle.std.specs.Prelude.{Option as Maybe}
use Rattle.spec.specs.declared.Record.{Record}
use Rattle.spec.specs.declared.Refusal.{Refusal}
use Rattle.spec.specs.Set.{rank, lookup, next, hits, ranks, selects, below, page}
use Rattle.spec.specs.Layout.{Block, rows_of}
use Rattle.spec.specs.Reading.{Head, Given}
use Rattle.spec.specs.Answers.{Said, value, refused, answered, numbered, found, counted, done, opened, whenever, or_nothing, front, broken, due, Owed, Asked, Free}
use Rattle.spec.specs.Answers.{say_contains, say_rank, say_lookup, say_next, say_select}
use Rattle.spec.specs.Answers.{WriteOwes, OpenOwes, OnceOwes, CallOwes}
use Rattle.spec.specs.Answers.{ContainsOwes, RankOwes, LookupOwes, NextOwes, SelectOwes, LookupBatchOwes, SelectBatchOwes, PageOwes}
use Rattle.spec.specs.Answers.{SomeHits, all_hits, SomeRows, SomePage}
use Rattle.spec.proofs.Tests.{not_none}
use Rattle.spec.proofs.Questions.{all_below}
use Rattle.spec.proofs.Batches.{hits_le, length_selects, length_page}
use Rattle.spec.proofs.Asking.{asked_none}
use Rattle.spec.proofs.Numbers.{Injective, answered_one, numbered_one, found_one, counted_one, done_one, opened_one}

-- ---- write, open, the one-shot forms, the C calls

with_one : {A S B : Type 0} (says : A → S) → Injective says → (a b : A) (x y : B) → ◌≡◌ {A = S × B} (says a, x) (says b, y)
    → (a ≡ b) × (x ≡ y)
with_one says one a b x y e = (one a b (ap (λ p. p.0) e), ap (λ p. p.1) e)

pub one_write : (count : ℕ) (rows out : List ℕ) (a b : Result ℕ Refusal) (x y : List ℕ) → WriteOwes count rows out (counted a, x)
    → WriteOwes count rows out (counted b, y) → (a ≡ b) × (x ≡ y)
one_write count rows out a b x y p q = with_one counted counted_one a b x y (p ∙ sym q)

pub one_open : (file directory : List ℕ) (a b : Result Record Refusal) (x y : List ℕ) → OpenOwes file directory (opened a, x)
    → OpenOwes file directory (opened b, y) → (a ≡ b) × (x ≡ y)
one_open file directory a b x y p q = with_one opened opened_one a b x y (p ∙ sym q)

-- contains by `answered`, rank and select by `numbered`, lookup and next by `found`
pub one_once : {A : Type 0} (says : A → Said ℕ) → Injective says → (file : List ℕ) (question : List ℕ → Said ℕ) (a b : A)
    → OnceOwes file question (says a) → OnceOwes file question (says b) → a ≡ b
one_once says one file question a b p q = one a b (p ∙ sym q)

pub one_call : (file : List ℕ) (question : List ℕ → Said ℕ) (r s : ℕ) → CallOwes file question r → CallOwes file question s → r ≡ s
one_call file question r s p q = p ∙ sym q

-- ---- questions over an opened file

-- outside the listed exception: a refusal is due, or opening gave all three together
pub data Settled (d : Option ℕ) (given : Head → List Block → Type 0) : Type 0 where
  refusal : (k : ℕ) → d ≡ some k → Settled d given
  together : (h : Head) (gs : List Block) → given h gs → Settled d given

pub one_outcome : {O : Type 0} (d : Option ℕ) (given : Head → List Block → Type 0) (refuse : ℕ → O) (loose : O → Type 0)
    (exact : List ℕ → O) (o p : O) → Settled d given → Owed d given refuse loose exact o → Owed d given refuse loose exact p → o ≡ p
one_outcome (some k) given refuse loose exact o p s a b = a ∙ sym b
one_outcome none given refuse loose exact o p (refusal k e) a b = not_none (sym e)
one_outcome none given refuse loose exact o p (together h gs g) a b = a.1 h gs g ∙ sym (b.1 h gs g)

abbrev pub Outside : List ℕ → List ℕ → Record → Option ℕ → Type 0
Outside file directory rec late = Settled (due (broken file directory rec) late) (Given file directory rec)

module _ (file directory : List ℕ) (rec : Record) where
  one_answer : {A : Type 0} (says : A → Said ℕ) → Injective says → (late : Option ℕ) (exact : List ℕ → Said ℕ)
      → Outside file directory rec late → (a b : A) → Asked file directory rec late refused Free exact (says a)
      → Asked file directory rec late refused Free exact (says b) → a ≡ b
  one_answer says one late exact s a b p q = one a b (one_outcome _ _ refused Free exact (says a) (says b) s p q)

  pub one_contains : (d : ℕ) → Outside file directory rec none → (a b : Result Bool Refusal) → ContainsOwes file directory rec d (answered a)
      → ContainsOwes file directory rec d (answered b) → a ≡ b
  one_contains d = one_answer answered answered_one none (say_contains d)

  pub one_rank : (d : ℕ) → Outside file directory rec none → (a b : Result ℕ Refusal) → RankOwes file directory rec d (numbered a)
      → RankOwes file directory rec d (numbered b) → a ≡ b
  one_rank d = one_answer numbered numbered_one none (say_rank d)

  pub one_lookup : (d : ℕ) → Outside file directory rec none → (a b : Result (Maybe ℕ) Refusal) → LookupOwes file directory rec d (found a)
      → LookupOwes file directory rec d (found b) → a ≡ b
  one_lookup d = one_answer found found_one none (say_lookup d)

  pub one_next : (t : ℕ) → Outside file directory rec none → (a b : Result (Maybe ℕ) Refusal) → NextOwes file directory rec t (found a)
      → NextOwes file directory rec t (found b) → a ≡ b
  one_next t = one_answer found found_one none (say_next t)

  pub one_select : (k : ℕ) → Outside file directory rec (whenever (leb rec.populated k) 9) → (a b : Result ℕ Refusal)
      → SelectOwes file directory rec k (numbered a) → SelectOwes file directory rec k (numbered b) → a ≡ b
  one_select k = one_answer numbered numbered_one (whenever (leb rec.populated k) 9) (say_select k)

  pub one_lookups : (questions rows ranks₀ : List ℕ)
      → Outside file directory rec (whenever (ltb (length rows) (length questions) || ltb (length ranks₀) (length questions)) 4)
      → (a b : Result ℕ Refusal) (x y u v : List ℕ) → LookupBatchOwes file directory rec questions rows ranks₀ (counted a, x, u)
      → LookupBatchOwes file directory rec questions rows ranks₀ (counted b, y, v) → (a ≡ b) × (x ≡ y) × (u ≡ v)
  one_lookups questions rows ranks₀ s a b x y u v p q =
      let e : ◌≡◌ {A = Said ℕ × List ℕ × List ℕ} (counted a, x, u) (counted b, y, v) = one_outcome _ _ _ _ _ _ _ s p q in
      (counted_one a b (ap (λ o. o.0) e), ap (λ o. o.1) e, ap (λ o. o.2) e)

  pub one_selects : (ks : List ℕ) → Outside file directory rec (whenever (not (below rec.populated ks)) 9) → (a b : Result (Unit {0}) Refusal) (x y : List ℕ)
      → SelectBatchOwes file directory rec ks (done a, x) → SelectBatchOwes file directory rec ks (done b, y) → (a ≡ b) × (x ≡ y)
  one_selects ks s a b x y p q = with_one done done_one a b x y (one_outcome _ _ _ _ _ _ _ s p q)

  pub one_page : (r : ℕ) (out : List ℕ) → Outside file directory rec (whenever (ltb rec.populated r) 9) → (a b : Result ℕ Refusal) (x y : List ℕ)
      → PageOwes file directory rec r out (counted a, x) → PageOwes file directory rec r out (counted b, y) → (a ≡ b) × (x ≡ y)
  one_page r out s a b x y p q = with_one counted counted_one a b x y (one_outcome _ _ _ _ _ _ _ s p q)

-- ---- and there is one: where opening gave all three together and 10 is not due, what the set says meets the statement

free_or : (n : Option ℕ) → Free (or_nothing n)
free_or none = tt
free_or (some v) = tt

module _ (file directory : List ℕ) (rec : Record) (h : Head) (gs : List Block) (g : Given file directory rec h gs)
    (ok : broken file directory rec ≡ false) where
  met : {O : Type 0} (late : Option ℕ) (refuse : ℕ → O) (loose : O → Type 0) (exact : List ℕ → O) → late ≡ none → loose (exact (rows_of gs))
      → Asked file directory rec late refuse loose exact (exact (rows_of gs))
  met late refuse loose exact e l =
      asked_none file directory rec late refuse loose exact (exact (rows_of gs)) ok e l
      (λ h' gs' g'. let same : gs ≡ gs' = cc (g.accepted, g'.accepted) in ap (λ l. exact (rows_of l)) same)

  pub contains_met : (d : ℕ) → ContainsOwes file directory rec d (say_contains d (rows_of gs))
  contains_met d = met none refused Free (say_contains d) refl tt

  pub rank_met : (d : ℕ) → RankOwes file directory rec d (say_rank d (rows_of gs))
  rank_met d = met none refused Free (say_rank d) refl tt

  pub lookup_met : (d : ℕ) → LookupOwes file directory rec d (say_lookup d (rows_of gs))
  lookup_met d = met none refused Free (say_lookup d) refl (free_or (lookup d (rows_of gs)))

  pub next_met : (t : ℕ) → NextOwes file directory rec t (say_next t (rows_of gs))
  next_met t = met none refused Free (say_next t) refl (free_or (next t (rows_of gs)))

  n_is : rec.populated ≡ length (rows_of gs)
  n_is = ap (λ x. x.populated) g.record'

  pub select_met : (k : ℕ) → k < length (rows_of gs) → SelectOwes file directory rec k (say_select k (rows_of gs))
  select_met k l =
      met (whenever (leb rec.populated k) 9) refused Free (say_select k) (rw (lt-leb rec.populated k (omega (arith, n_is))))
      (rw (lt-leb (length (rows_of gs)) k l) tt)

  pub lookups_met : (questions rows ranks₀ : List ℕ) → length questions ≤ length rows → length questions ≤ length ranks₀
      → LookupBatchOwes file directory rec questions rows ranks₀ (all_hits questions rows ranks₀ (rows_of gs))
  lookups_met questions rows ranks₀ l m =
      let hs = hits (rows_of gs) questions in
      let n = length-map hs (λ q. rank q (rows_of gs)) in
      met (whenever (ltb (length rows) (length questions) || ltb (length ranks₀) (length questions)) 4) (λ k. (refused k, rows, ranks₀))
      (SomeHits questions rows ranks₀) (all_hits questions rows ranks₀)
      (rw (le-ltb (length rows) (length questions) l, le-ltb (length ranks₀) (length questions) m)) (
        length hs,
        refl,
        hits_le (rows_of gs) questions,
        drop-append_seam hs (drop (length hs) rows),
        rw n (drop_at (ranks (rows_of gs) hs) (drop (length hs) ranks₀) (length hs) n),
      )

  pub selects_met : (ks : List ℕ) → ((i : ℕ) → i < length ks → get_or ks i 0 < rec.populated)
      → SelectBatchOwes file directory rec ks (value tt, selects (rows_of gs) ks)
  selects_met ks l =
      met (whenever (not (below rec.populated ks)) 9) (λ k. (refused k, ks)) (SomeRows ks) (λ xs. (value tt, selects xs ks))
      (rw (all_below rec.populated ks l)) (refl, length_selects (rows_of gs) ks)

  pub page_met : (r : ℕ) (out : List ℕ) → r ≤ rec.populated
      → PageOwes file directory rec r out (value (length (page r (length out) (rows_of gs))), front (page r (length out) (rows_of gs)) out)
  page_met r out l =
      let ps = page r (length out) (rows_of gs) in
      let e : length ps ≡ min (length out) (rec.populated - r) = rw n_is (length_page r (length out) (rows_of gs)) in
      met (whenever (ltb rec.populated r) 9) (λ k. (refused k, out)) (SomePage (min (length out) (rec.populated - r)) out)
      (λ xs. (value (length (page r (length out) xs)), front (page r (length out) xs) out))
      (rw (le-ltb rec.populated r l)) (ap value e, rw (← e) (drop-append_seam ps (drop (length ps) out)))
