-- Questions over an opened file: 10 in orders, how a promise is met, and what each call then owes.
use Prim.Native.Nat.{ℕ, ◌+◌, ◌-◌, ◌*◌, ◌≤◌, ◌<◌, min}
use mathlib.Core.Path.{◌≡◌, ap, ap₂, ◌∙◌}
use mathlib.Core.Bool.{true, false}
use mathlib.Core.List.{List, ◌++◌}
use mathlib.Core.Option.{Option, none, some}
use native.Mathlib.Omega.{arith}
use lib.ListN.{length, drop, get_or, length-map}
use lib.Dec.{ltb}
use borrow.Author.Tests.{ltb-false, eqb-true, not-false, lt-ltb, le-ltb, le-leb, lt-leb, eq-eqb}
use Rattle.std.proofs.lemmas.Bool.{or_parts}
use Rattle.spec.specs.declared.Record.{Record}
use Rattle.spec.specs.Set.{bit, contains, rank, lookup, select, next, hits, ranks, selects, page}
use Rattle.spec.specs.Layout.{Block, rows_of}
use Rattle.spec.specs.Reading.{count_of_blocks, Head, Given}
use Rattle.spec.specs.Answers.{Said, value, nothing, refused, or_nothing, broken, Asked, Free}
use Rattle.spec.specs.Answers.{ContainsOwes, RankOwes, LookupOwes, NextOwes, SelectOwes, LookupBatchOwes, SelectBatchOwes, PageOwes}
use Rattle.spec.proofs.Tests.{by_test}
use Rattle.spec.proofs.Questions.{all_below, below_bad}

-- ---- 10: exactly where one of these fails

pub record Unbroken (file directory : List ℕ) (rec : Record) : Type 0 where
  pub count : rec.row_count ≤ 4294901760
  pub populated : rec.populated ≤ rec.row_count
  pub words : 2 * (count_of_blocks rec.row_count + 1) ≤ length directory
  pub total : get_or directory (2 * count_of_blocks rec.row_count) 0 ≡ rec.populated
  pub from : 1 ≤ rec.data_start
  pub upto : rec.data_start ≤ 5
  pub bytes : rec.data_start + get_or directory (2 * count_of_blocks rec.row_count + 1) 0 + 2 ≤ length file

module _ (file directory : List ℕ) (rec : Record) where
  pub unbroken : broken file directory rec ≡ false → Unbroken file directory rec
  unfolding broken
  unbroken e =
      let a = or_parts _ _ e in
      let b = or_parts _ _ a.1 in
      let c = or_parts _ _ b.1 in
      let d = or_parts _ _ c.1 in
      let f = or_parts _ _ d.1 in
      let g = or_parts _ _ f.1 in
      let h = or_parts _ _ g.1 in
      record {
        count = ltb-false _ _ a.0;
        populated = ltb-false _ _ b.0;
        words = ltb-false _ _ c.0;
        total = eqb-true _ _ (not-false _ d.0);
        from = ltb-false _ _ f.0;
        upto = ltb-false _ _ g.0;
        bytes = ltb-false _ _ h.0;
      }

  pub not_broken : Unbroken file directory rec → broken file directory rec ≡ false
  unfolding broken
  not_broken u =
      rw (
        le-ltb _ _ u.count,
        le-ltb _ _ u.populated,
        le-ltb _ _ u.words,
        eq-eqb _ _ u.total,
        le-ltb _ _ u.from,
        le-ltb _ _ u.upto,
        le-ltb _ _ u.bytes,
      )

-- ---- the order: 10 first, then the late refusal, then the answer

module _ {O : Type 0} (file directory : List ℕ) (rec : Record) (late : Option ℕ) (refuse : ℕ → O) (loose : O → Type 0) (exact : List ℕ → O) (o : O)
  where
    -- how the promise is met
    pub asked_broken : broken file directory rec ≡ true → o ≡ refuse 10 → Asked file directory rec late refuse loose exact o
    asked_broken e h = rw e h

    pub asked_late : (k : ℕ) → broken file directory rec ≡ false → late ≡ some k → o ≡ refuse k
        → Asked file directory rec late refuse loose exact o
    asked_late k e f h = rw (e, f) h

    pub asked_none : broken file directory rec ≡ false → late ≡ none → loose o
        → ((h : Head) (gs : List Block) → Given file directory rec h gs → o ≡ exact (rows_of gs)) → Asked file directory rec late refuse loose exact o
    asked_none e f l x = rw (e, f) (l, x)

    -- what the promise says
    pub broken_asked : broken file directory rec ≡ true → Asked file directory rec late refuse loose exact o → o ≡ refuse 10
    broken_asked e a = rw e at a

    pub late_asked : (k : ℕ) → broken file directory rec ≡ false → late ≡ some k → Asked file directory rec late refuse loose exact o
        → o ≡ refuse k
    late_asked k e f a = rw (e, f) at a

    pub none_asked : broken file directory rec ≡ false → late ≡ none → Asked file directory rec late refuse loose exact o
        → loose o × ((h : Head) (gs : List Block) → Given file directory rec h gs → o ≡ exact (rows_of gs))
    none_asked e f a = rw (e, f) at a

-- ---- 10, of each call

module _ (file directory : List ℕ) (rec : Record) (bad : broken file directory rec ≡ true) where
  pub broken_single : (d : ℕ) (s : Said ℕ)
      → (ContainsOwes file directory rec d s → s ≡ refused 10) × (RankOwes file directory rec d s → s ≡ refused 10)
      × (LookupOwes file directory rec d s → s ≡ refused 10) × (NextOwes file directory rec d s → s ≡ refused 10)
      × (SelectOwes file directory rec d s → s ≡ refused 10)
  broken_single d s = (λ a. rw bad at a, λ a. rw bad at a, λ a. rw bad at a, λ a. rw bad at a, λ a. rw bad at a)

  pub broken_lookups : (questions rows ranks₀ : List ℕ) (o : Said ℕ × List ℕ × List ℕ)
      → LookupBatchOwes file directory rec questions rows ranks₀ o → o ≡ (refused 10, rows, ranks₀)
  broken_lookups questions rows ranks₀ o a = rw bad at a

  pub broken_selects : (ks : List ℕ) (o : Said (Unit {0}) × List ℕ) → SelectBatchOwes file directory rec ks o → o ≡ (refused 10, ks)
  broken_selects ks o a = rw bad at a

  pub broken_page : (r : ℕ) (out : List ℕ) (o : Said ℕ × List ℕ) → PageOwes file directory rec r out o → o ≡ (refused 10, out)
  broken_page r out o a = rw bad at a

-- ---- otherwise

-- of a single question, values, "not there" and "none" are free, and no refusal is
pub free_says : ((v : ℕ) → Free (value v)) × Free nothing × ((k : ℕ) → Free (refused k) → ⊥)
free_says = (λ v. tt, tt, λ k f. f)

-- an answer that is no refusal and, where opening gave all three together, the one that the set says
abbrev pub Told : List ℕ → List ℕ → Record → Said ℕ → (List ℕ → Said ℕ) → Type 0
Told file directory rec s exact = Free s × ((h : Head) (gs : List Block) → Given file directory rec h gs → s ≡ exact (rows_of gs))

module _ (file directory : List ℕ) (rec : Record) (ok : broken file directory rec ≡ false) where
  pub contains_owes : (d : ℕ) (s : Said ℕ) → ContainsOwes file directory rec d s → Told file directory rec s (λ xs. value (bit (contains d xs)))
  contains_owes d s a = rw ok at a

  pub rank_owes : (d : ℕ) (s : Said ℕ) → RankOwes file directory rec d s → Told file directory rec s (λ xs. value (rank d xs))
  rank_owes d s a = rw ok at a

  pub lookup_owes : (d : ℕ) (s : Said ℕ) → LookupOwes file directory rec d s → Told file directory rec s (λ xs. or_nothing (lookup d xs))
  lookup_owes d s a = rw ok at a

  pub next_owes : (t : ℕ) (s : Said ℕ) → NextOwes file directory rec t s → Told file directory rec s (λ xs. or_nothing (next t xs))
  next_owes t s a = rw ok at a

  -- 9 exactly where k is at or above n
  pub select_late : (k : ℕ) (s : Said ℕ) → rec.populated ≤ k → SelectOwes file directory rec k s → s ≡ refused 9
  select_late k s l a = rw (ok, le-leb rec.populated k l) at a

  pub select_owes : (k : ℕ) (s : Said ℕ) → k < rec.populated → SelectOwes file directory rec k s
      → Told file directory rec s (λ xs. value (select k xs))
  select_owes k s l a =
      let p = rw (ok, lt-leb rec.populated k l) at a in
      (p.0, λ h gs g. p.1 h gs g ∙ rw (lt-leb (length (rows_of gs)) k (omega (arith, ap (λ x. x.populated) g.record'))))

  -- 4 exactly where an output is shorter than the question list
  module _ (questions rows ranks₀ : List ℕ) (o : Said ℕ × List ℕ × List ℕ) (a : LookupBatchOwes file directory rec questions rows ranks₀ o)
    where
      pub lookups_late_rows : length rows < length questions → o ≡ (refused 4, rows, ranks₀)
      lookups_late_rows l = rw (ok, lt-ltb (length rows) (length questions) l) at a

      pub lookups_late_ranks : length ranks₀ < length questions → o ≡ (refused 4, rows, ranks₀)
      lookups_late_ranks l =
          by_test (ltb (length rows) (length questions)) (λ e. rw (ok, e) at a)
          (λ e. rw (ok, e, lt-ltb (length ranks₀) (length questions) l) at a)

      pub lookups_owe : length questions ≤ length rows → length questions ≤ length ranks₀
          → ((n : ℕ) × (o.0 ≡ value n) × (n ≤ length questions) × (drop n o.1 ≡ drop n rows) × (drop n o.2 ≡ drop n ranks₀))
          × ((h : Head) (gs : List Block) → Given file directory rec h gs
          → (o.0 ≡ value (length (hits (rows_of gs) questions)))
          × (o.1 ≡ hits (rows_of gs) questions ++ drop (length (hits (rows_of gs) questions)) rows)
          × (o.2 ≡ ranks (rows_of gs) (hits (rows_of gs) questions) ++ drop (length (hits (rows_of gs) questions)) ranks₀))
      lookups_owe l m =
          let p = rw (ok, le-ltb (length rows) (length questions) l, le-ltb (length ranks₀) (length questions) m) at a in (
            p.0,
            λ h gs g.
                let e = p.1 h gs g in
                (ap (λ p. p.0) e, ap (λ p. p.1) e, ap (λ p. p.2) e ∙ rw (length-map (hits (rows_of gs) questions) (λ q. rank q (rows_of gs)))),
          )

  -- 9 exactly where one rank is at or above n
  module _ (ks : List ℕ) (o : Said (Unit {0}) × List ℕ) (a : SelectBatchOwes file directory rec ks o) where
    pub selects_late : (i : ℕ) → i < length ks → rec.populated ≤ get_or ks i 0 → o ≡ (refused 9, ks)
    selects_late i l m = rw (ok, below_bad rec.populated ks i l m) at a

    pub selects_owe : ((i : ℕ) → i < length ks → get_or ks i 0 < rec.populated)
        → (o.0 ≡ value tt) × (length o.1 ≡ length ks)
        × ((h : Head) (gs : List Block) → Given file directory rec h gs → o.1 ≡ selects (rows_of gs) ks)
    selects_owe f =
        let p = rw (ok, all_below rec.populated ks f) at a in (p.0.0, p.0.1, λ h gs g. ap (λ p. p.1) (p.1 h gs g))

  -- 9 exactly where r is above n
  module _ (r : ℕ) (out : List ℕ) (o : Said ℕ × List ℕ) (a : PageOwes file directory rec r out o) where
    pub page_late : rec.populated < r → o ≡ (refused 9, out)
    page_late l = rw (ok, lt-ltb rec.populated r l) at a

    pub page_owes : r ≤ rec.populated
        → (o.0 ≡ value (min (length out) (rec.populated - r)))
        × (drop (min (length out) (rec.populated - r)) o.1 ≡ drop (min (length out) (rec.populated - r)) out)
        × ((h : Head) (gs : List Block) → Given file directory rec h gs
        → o.1 ≡ page r (length out) (rows_of gs) ++ drop (length (page r (length out) (rows_of gs))) out)
    page_owes l = let p = rw (ok, le-ltb rec.populated r l) at a in (p.0.0, p.0.1, λ h gs g. ap (λ p. p.1) (p.1 h gs g))

    page_none : r ≤ rec.populated → min (length out) (rec.populated - r) ≡ 0 → o ≡ (value 0, out)
    page_none l e = let p = page_owes l in ap₂ (λ x y. (x, y)) (p.0 ∙ ap value e) (rw e at p.1)

    -- r = n or L = 0 gives 0, and the list stays
    pub page_end : r ≡ rec.populated → o ≡ (value 0, out)
    page_end e = page_none (omega arith) (omega arith)

    pub page_no_room : r ≤ rec.populated → length out ≡ 0 → o ≡ (value 0, out)
    page_no_room l e = page_none l (omega arith)
