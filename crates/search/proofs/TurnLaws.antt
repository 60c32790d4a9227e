-- The turns of the searches' loops: a block is halved, and a block is probed.
use Prim.Native.Nat.{ℕ, ◌+◌, ◌-◌, ◌*◌, ◌/◌, ◌≤◌, ◌<◌}
use mathlib.Core.Path.{◌≡◌}
use mathlib.Core.Bool.{true, cond}
use mathlib.Core.List.{List}
use native.Mathlib.Omega.{arith}
use lib.ListN.{length, get_or}
use lib.Dec.{leb, eqb}
use borrow.Author.Tests.{leb-true, leb-false}
use Rattle.spec.specs.Set.{bit, rising}
use Rattle.spec.specs.Layout.{size}
use Rattle.spec.proofs.Tests.{by_test}
use Rattle.search.specs.Search.{places_said, Near, Finds, Probed}
use Rattle.std.specs.Prelude.{Result, Ok, Err}
use Rattle.search.proofs.PlaceLaws.{length_places}
use Rattle.search.proofs.SearchLaws.{near_all, near_from, near_to, finds, finds_at}

-- ---- halves

-- the target is or would go among the many places from base on
pub record Halving (bs : List ℕ) (t base many : ℕ) : Type 0 where
  pub some : 1 ≤ many
  pub inside : base + many ≤ length bs / 2
  pub near : rising 0 size (places_said bs) ≡ true → Near (places_said bs) t base (base + many)

pub halving_all : (bs : List ℕ) (t : ℕ) → 2 ≤ length bs → Halving bs t 0 (length bs / 2)
halving_all bs t h =
    record { some = omega arith; inside = omega arith; near = λ rises. near_all (places_said bs) t _ (omega (arith, length_places bs)) }

module _ {bs : List ℕ} {t base many : ℕ} (s : Halving bs t base many) (p : ℕ) where
  -- the place in the middle is not above the target: the target is not before it
  halving_up : 1 < many → p ≡ get_or (places_said bs) (base + many / 2) 0 → p ≤ t → Halving bs t (base + many / 2) (many - many / 2)
  halving_up m e h = record {
    some = omega arith;
    inside = omega (arith, s.inside);
    near = λ rises.
        near_from (places_said bs) rises (s.near rises) (base + many / 2) (omega (arith, s.inside, length_places bs)) (base + many / 2)
        (base + many / 2 + (many - many / 2)) (omega arith) (omega arith) (omega arith);
  }

  -- it is above: the target is before it
  halving_down : 1 < many → p ≡ get_or (places_said bs) (base + many / 2) 0 → t < p → Halving bs t base (many - many / 2)
  halving_down m e h = record {
    some = omega arith;
    inside = omega (arith, s.inside);
    near = λ rises.
        near_to (places_said bs) rises (s.near rises) (base + many / 2) (omega (arith, s.inside, length_places bs)) (base + (many - many / 2))
        (omega arith) (omega arith);
  }

  pub halving_more : (m : ℕ) → 1 < many → p ≡ get_or (places_said bs) (base + many / 2) 0 → m ≡ bit (leb p t)
      → Halving bs t (base + many / 2 * m) (many - many / 2)
  halving_more m h e is =
      by_test (leb p t)
      (λ q. let on : base + many / 2 * m ≡ base + many / 2 = rw (is, q) (omega arith) in rw on (halving_up h e (leb-true p t q)))
      (λ q. let on : base + many / 2 * m ≡ base = rw (is, q) (omega arith) in rw on (halving_down h e (leb-false p t q)))

  -- one place is left
  pub halved_below : many ≤ 1 → p ≡ get_or (places_said bs) base 0 → p < t → Finds bs t 0 (Err (base + 1))
  halved_below m e h =
      let l : base < length (places_said bs) = omega (arith, s.some, s.inside, length_places bs) in
      finds (omega (arith, s.some, s.inside)) (λ rises known. (omega arith, near_from (places_said bs) rises (s.near rises) base l (base + 1) (base + 1) (omega arith) (omega arith) (omega arith)))

  pub halved_at : (r : Result ℕ ℕ) → p ≡ get_or (places_said bs) base 0 → t ≤ p → r ≡ cond (eqb p t) (Ok base) (Err base) → Finds bs t 0 r
  halved_at r e h = finds_at base p r (omega (arith, s.some, s.inside)) e h (λ rises known. (s.near rises).before)

-- ---- probes

-- left places are known to be below the target
pub record Probing (bs : List ℕ) (t left : ℕ) : Type 0 where
  pub inside : left ≤ length bs / 2
  pub near : rising 0 size (places_said bs) ≡ true → Near (places_said bs) t left (length bs / 2)

pub probing_none : (bs : List ℕ) (t : ℕ) → Probing bs t 0
probing_none bs t = record { inside = omega arith; near = λ rises. near_all (places_said bs) t (length bs / 2) (omega (arith, length_places bs)) }

module _ {bs : List ℕ} {t left : ℕ} (s : Probing bs t left) where
  -- the probe is below the target
  pub probing_more : (p : ℕ) → 2 * left < length bs / 2 → p ≡ get_or (places_said bs) (2 * left) 0 → p < t → Probing bs t (2 * left + 1)
  probing_more p l e h = record {
    inside = omega arith;
    near = λ rises.
        near_from (places_said bs) rises (s.near rises) (2 * left) (omega (arith, length_places bs)) (2 * left + 1) (length bs / 2) (omega arith) (omega arith)
        (omega arith);
  }

  -- it is not
  pub probed : (p : ℕ) → 2 * left < length bs / 2 → p ≡ get_or (places_said bs) (2 * left) 0 → t ≤ p → Probed bs t left
  probed p l e h = record {
    inside = s.inside;
    exact = λ rises. near_to (places_said bs) rises (s.near rises) (2 * left) (omega (arith, length_places bs)) (2 * left + 1) (omega arith) (omega arith);
  }

  -- there is none left
  pub probed_all : length bs / 2 ≤ 2 * left → Probed bs t left
  probed_all l = record {
    inside = s.inside;
    exact = λ rises. record { before = (s.near rises).before; after = λ k j j'. absurd (omega (arith, length_places bs)) };
  }
