-- The verdict of opening, test by test: each refusal of the bytes in its place in the order, and what an accepted file has passed.
use Prim.Native.Nat.{ℕ, ◌+◌, ◌-◌, ◌*◌, ◌≤◌, ◌<◌}
use mathlib.Core.Path.{◌≡◌, refl, ap, ◌∙◌}
use mathlib.Core.Bool.{true, false}
use mathlib.Core.List.{List, [], ◌∷◌}
use mathlib.Core.Option.{Option, none, some}
use lib.ListN.{length}
use lib.Dec.{ltb, eqb}
use borrow.Author.Tests.{ltb-true, ltb-false, lt-ltb, le-ltb, eqb-true, eqb-false, eq-eqb, ne_eqb}
use Rattle.spec.specs.Set.{contains}
use Rattle.spec.specs.Reading.{limit, part, Head, ungroups, padded, entries_ok, data_sizes, contents_ok, blocks_at, Verdict, fault, holds, entry_count, entry_start, entries_of, judge, verdict}
use Rattle.spec.proofs.Tests.{by_test}

-- the row count at the front, as far as it may reach
abbrev pub head_in : List ℕ → Option Head
head_in file = ungroups 5 (part 0 (length file - 2) file)

-- what an accepted file has passed
pub record Passed (file : List ℕ) (h : Head) : Type 0 where
  pub unpadded : padded h file ≡ false
  pub limited : h.count ≤ limit
  pub fits : h.start + 4 * entry_count file + 2 ≤ length file
  pub entries : entries_ok h.count 0 (entries_of file) ≡ true
  pub sizes : entry_start file - h.start ≡ data_sizes (entries_of file)
  pub contents : contents_ok h.count (entries_of file) h.start file ≡ true

-- ---- the order: 5, 1, 6, 7, 8

module _ (file : List ℕ) where
  pub unended_5 : head_in file ≡ none → verdict file ≡ fault 5
  unfolding verdict judge
  unended_5 p = ap (judge file) p

  module _ (h : Head) (p : head_in file ≡ some h) where
    pub padded_5 : padded h file ≡ true → verdict file ≡ fault 5
    unfolding verdict judge
    padded_5 u = ap (judge file) p ∙ rw u

    module _ (u : padded h file ≡ false) where
      pub rows_1 : 4294901760 < h.count → verdict file ≡ fault 1
      unfolding verdict judge
      rows_1 l = ap (judge file) p ∙ rw (u, lt-ltb limit h.count l)

      module _ (l : h.count ≤ 4294901760) where
        pub overlap_6 : length file < h.start + 4 * entry_count file + 2 → verdict file ≡ fault 6
        unfolding verdict judge
        overlap_6 f = ap (judge file) p ∙ rw (u, le-ltb limit h.count l, lt-ltb (length file) _ f)

        module _ (f : h.start + 4 * entry_count file + 2 ≤ length file) where
          pub entries_6 : entries_ok h.count 0 (entries_of file) ≡ false → verdict file ≡ fault 6
          unfolding verdict judge
          entries_6 o = ap (judge file) p ∙ rw (u, le-ltb limit h.count l, le-ltb (length file) _ f, o)

          module _ (o : entries_ok h.count 0 (entries_of file) ≡ true) where
            pub length_7 : (entry_start file - h.start ≡ data_sizes (entries_of file) → ⊥) → verdict file ≡ fault 7
            unfolding verdict judge
            length_7 s = ap (judge file) p ∙ rw (u, le-ltb limit h.count l, le-ltb (length file) _ f, o, ne_eqb _ _ s)

            module _ (s : entry_start file - h.start ≡ data_sizes (entries_of file)) where
              pub content_8 : contents_ok h.count (entries_of file) h.start file ≡ false → verdict file ≡ fault 8
              unfolding verdict judge
              content_8 c = ap (judge file) p ∙ rw (u, le-ltb limit h.count l, le-ltb (length file) _ f, o, eq-eqb _ _ s, c)

    pub passed_holds : Passed file h → verdict file ≡ holds h (blocks_at (entries_of file) h.start file)
    unfolding verdict judge
    passed_holds t =
        ap (judge file) p
        ∙ rw (t.unpadded, le-ltb limit h.count t.limited, le-ltb (length file) _ t.fits, t.entries, eq-eqb _ _ t.sizes, t.contents)

-- ---- a verdict is a refusal with one of these numbers, or all tests are passed

pub data View (file : List ℕ) : Verdict → Type 0 where
  refuses : (k : ℕ) → contains k (5 ∷ 1 ∷ 6 ∷ 7 ∷ 8 ∷ []) ≡ true → View file (fault k)
  accepts : (h : Head) → head_in file ≡ some h → Passed file h → View file (holds h (blocks_at (entries_of file) h.start file))

pub view : (file : List ℕ) → View file (verdict file)
unfolding contains
view file = go (head_in file) refl
  where
    go : (o : Option Head) → head_in file ≡ o → View file (verdict file)
    go none p = rw (unended_5 file p) (refuses 5 refl)
    go (some h) p =
        by_test (padded h file) (λ u. rw (padded_5 file h p u) (refuses 5 refl)) (λ u.
        by_test (ltb limit h.count) (λ l. rw (rows_1 file h p u (ltb-true _ _ l)) (refuses 1 refl)) (λ l.
        let l = ltb-false limit h.count l in
        by_test (ltb (length file) (h.start + 4 * entry_count file + 2)) (λ f. rw (overlap_6 file h p u l (ltb-true _ _ f)) (refuses 6 refl)) (λ f.
        let f = ltb-false _ _ f in
        by_test (entries_ok h.count 0 (entries_of file))
        (λ o. by_test (eqb (entry_start file - h.start) (data_sizes (entries_of file)))
        (λ s. let s = eqb-true _ _ s in
        by_test (contents_ok h.count (entries_of file) h.start file)
        (λ c. let t : Passed file h = record { unpadded = u; limited = l; fits = f; entries = o; sizes = s; contents = c } in rw (passed_holds file h p t) (accepts h p t))
        (λ c. rw (content_8 file h p u l f o s c) (refuses 8 refl)))
        (λ s. rw (length_7 file h p u l f o (eqb-false _ _ s)) (refuses 7 refl)))
        (λ o. rw (entries_6 file h p u l f o) (refuses 6 refl)))))
