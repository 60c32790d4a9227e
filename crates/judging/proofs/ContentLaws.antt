-- The contents of blocks, one block after the other, and how many rows right contents have.
use Prim.Native.Nat.{ℕ, ◌+◌, ◌*◌, ◌≤◌, ◌<◌}
use mathlib.Core.Path.{◌≡◌, refl, sym, ap₂, ◌∙◌}
use mathlib.Core.Bool.{Bool, true, false, ◌&&◌, cond}
use mathlib.Core.List.{List, [], ◌∷◌, map, flat_map}
use native.Mathlib.Omega.{arith}
use lib.ListN.{length, get_or, length-append, length-map}
use lib.Dec.{eqb, ltb}
use borrow.Author.Tests.{eqb-true, ltb-true, ltb-false}
use Rattle.std.proofs.lemmas.List.{at_drop_all}
use Rattle.std.proofs.lemmas.Bool.{and_parts}
use Rattle.spec.specs.declared.Entry.{Entry}
use Rattle.spec.specs.Set.{rising}
use Rattle.spec.specs.Layout.{size, dense, rows_of}
use Rattle.spec.specs.Reading.{rows_at, part, entry_in, size_of_data, data_sizes, places_in, counts_ok, is_content, contents_ok, blocks_at}
use Rattle.spec.proofs.Content.{size_sparse}
use Rattle.spec.proofs.Tests.{by_test}
use Rattle.judging.specs.Phases.{row_sum}
use Rattle.judging.proofs.TableLaws.{left, left_some}

-- ---- block after block

-- what the contents left say, whose data begin at `here` and end inside the file, is what all say
pub record Checking (file : List ℕ) (count : ℕ) (table : List (List ℕ)) (good : Bool) (here i : ℕ) : Type 0 where
  pub walk : contents_ok count (left table i) here file ≡ good
  pub ends : here + data_sizes (left table i) ≤ length file

module _ {file : List ℕ} {count : ℕ} {table : List (List ℕ)} {good : Bool} {here i : ℕ} (c : Checking file count table good here i) where
  pub checking_end : length table ≤ i → true ≡ good
  unfolding contents_ok
  checking_end h = sym (at_drop_all (λ l. contents_ok count (map entry_in l) here file) table i h) ∙ c.walk

  module _ (x : Entry) (h : i < length table) (e : x ≡ entry_in (get_or table i [])) (n : ℕ) (q : n ≡ size_of_data x.rows) where
    next : left table i ≡ x ∷ left table (i + 1)
    next = left_some table i x h e

    ends' : here + n + data_sizes (left table (i + 1)) ≤ length file
    unfolding data_sizes
    ends' = let t = rw next at c.ends in omega (arith, t, q)

    pub checking_within : here + n ≤ length file
    checking_within = omega (arith, ends')

    module _ (ok : Bool) (end : ℕ) (r : end ≡ rows_at count x.number) (k : ok ≡ is_content x.rows end (part here (here + n) file)) where
      said : ok && contents_ok count (left table (i + 1)) (here + n) file ≡ good
      unfolding contents_ok
      said = rw (k, r, q) (rw next at c.walk)

      pub checking_wrong : ok ≡ false → false ≡ good
      checking_wrong o = rw o at said

      pub checking_more : ok ≡ true → Checking file count table good (here + n) (i + 1)
      checking_more o = record { walk = rw o at said; ends = ends' }

-- ---- as many rows as the entries say

content_many : (n end : ℕ) (bs : List ℕ) → is_content n end bs ≡ true → length (places_in n bs) ≡ n
unfolding is_content
content_many n end bs e =
    let ps = places_in n bs in
    let p = and_parts (rising 0 end ps && eqb (length ps) n) (cond (dense n) (counts_ok 1024 0 ps bs) true) e in
    eqb-true (length ps) n (and_parts (rising 0 end ps) (eqb (length ps) n) p.0).1

pub contents_many : (count at : ℕ) (file : List ℕ) (es : List Entry) → contents_ok count es at file ≡ true → length (rows_of (blocks_at es at file)) ≡ row_sum es
unfolding contents_ok blocks_at rows_of row_sum flat_map
contents_many count at file [] e = refl
contents_many count at file (x ∷ es) e =
    let bs = part at (at + size_of_data x.rows) file in
    let p = and_parts (is_content x.rows (rows_at count x.number) bs) (contents_ok count es (at + size_of_data x.rows) file) e in
    let ps = places_in x.rows bs in
    length-append (map (λ p. x.number * size + p) ps) (rows_of (blocks_at es (at + size_of_data x.rows) file))
    ∙ ap₂ (λ a b. a + b) (length-map ps (λ p. x.number * size + p) ∙ content_many x.rows (rows_at count x.number) bs p.0)
    (contents_many count (at + size_of_data x.rows) file es p.1)

-- 10,240 bytes are the data of 5,120 rows at least
pub dense_rows : (n : ℕ) → size_of_data n ≡ 10240 → 5120 ≤ n
dense_rows n e =
    by_test (ltb n 5120) (λ t. let few = ltb-true n 5120 t in absurd (omega (arith, size_sparse n few))) (λ t. ltb-false n 5120 t)
