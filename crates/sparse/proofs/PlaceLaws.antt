-- The places of a block's data, which are not 10,240 bytes long and so are sparse.
use Prim.Native.Nat.{ℕ, ◌*◌, ◌/◌, ◌≤◌}
use mathlib.Core.Path.{◌≡◌, ap, ◌∙◌}
use mathlib.Core.List.{List}
use native.Mathlib.Omega.{arith}
use lib.ListN.{length}
use lib.Dec.{leb}
use borrow.Author.Tests.{leb-true, leb-false}
use Rattle.spec.specs.Layout.{size}
use Rattle.spec.specs.Reading as reading
use Rattle.spec.proofs.Tests.{by_test}
use Rattle.spec.proofs.Rising.{rising_facts}
use Rattle.spec.proofs.Content.{length_data, data_sparse, data_dense, places_back}
use Rattle.words.specs.Part.{Holds}
use Rattle.search.specs.Search.{places_said}

-- the places that they say are those that the block holds
pub held : (bs ps : List ℕ) → (length bs ≡ 10240 → ⊥) → Holds bs ps → places_said bs ≡ ps
unfolding places_said reading.places_in
held bs ps h d =
    by_test (leb 5120 (length ps))
    (λ q. absurd (h (ap length d.bytes ∙ length_data ps ∙ (data_dense ps (leb-true 5120 (length ps) q)).1)))
    (λ q.
    let few : length ps ≤ 5119 = omega (arith, leb-false 5120 (length ps) q) in
    let long : length bs ≡ 2 * length ps = ap length d.bytes ∙ length_data ps ∙ (data_sparse ps few).1 in
    let half : length bs / 2 ≡ length ps = omega arith in
    rw (half, d.bytes) (rw q at (places_back size ps (omega arith) (rising_facts 0 size ps d.rises))))
