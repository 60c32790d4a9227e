-- The rows of a block that begins at row base: what a row asks of them, its place asks of the block's places.
use Prim.Native.Nat.{ℕ, ◌+◌, ◌-◌, ◌≤◌}
use mathlib.Core.Path.{◌≡◌, refl, ap, sym, ◌∙◌}
use mathlib.Core.List.{List, [], ◌∷◌, map}
use native.Mathlib.Omega.{arith}
use lib.Dec.{ltb, eqb}
use borrow.Author.Tests.{lt-ltb, le-ltb, eq-eqb, ne_eqb, ltb-true, ltb-false, eqb-true, eqb-false}
use Rattle.spec.specs.Set.{contains, rank}
use Rattle.spec.proofs.Tests.{by_test}

abbrev pub rows_from : ℕ → List ℕ → List ℕ
rows_from base ps = map (λ p. base + p) ps

contains_from : (base t : ℕ) (ps : List ℕ) → contains (base + t) (rows_from base ps) ≡ contains t ps
unfolding contains
contains_from base t [] = refl
contains_from base t (p ∷ ps) =
    rw (contains_from base t ps) (by_test (eqb p t) (λ q. rw (q, eq-eqb (base + p) (base + t) (omega (arith, eqb-true p t q))))
    (λ q. rw (q, ne_eqb (base + p) (base + t) (λ e. eqb-false p t q (omega arith)))))

rank_from : (base t : ℕ) (ps : List ℕ) → rank (base + t) (rows_from base ps) ≡ rank t ps
unfolding rank
rank_from base t [] = refl
rank_from base t (p ∷ ps) =
    rw (rank_from base t ps) (by_test (ltb p t) (λ q. rw (q, lt-ltb (base + p) (base + t) (omega (arith, ltb-true p t q))))
    (λ q. rw (q, le-ltb (base + p) (base + t) (omega (arith, ltb-false p t q)))))

module _ (base row : ℕ) (ps : List ℕ) (h : base ≤ row) where
  is : base + (row - base) ≡ row
  is = omega arith

  pub row_contains : contains row (rows_from base ps) ≡ contains (row - base) ps
  row_contains = ap (λ d. contains d (rows_from base ps)) (sym is) ∙ contains_from base (row - base) ps

  pub row_rank : rank row (rows_from base ps) ≡ rank (row - base) ps
  row_rank = ap (λ d. rank d (rows_from base ps)) (sym is) ∙ rank_from base (row - base) ps
