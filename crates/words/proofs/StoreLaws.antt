-- Lists stored at an index: one behind another, two that do not meet, and a part that was lent and comes back.
use Prim.Native.Nat.{ℕ, suc, ◌+◌, ◌≤◌, ◌<◌}
use mathlib.Core.Path.{◌≡◌, refl, sym, ap, ◌∙◌}
use mathlib.Core.List.{List, [], ◌∷◌, ◌++◌, append_assoc, append-nil}
use native.Mathlib.Nat.{add-zero}
use native.Mathlib.Omega.{arith}
use lib.ListN.{length, set, take, drop, drop_of_length-le}
use lib.Seq.{sets, sets-eq, set_comm, drop-drop}

pub sets_append : (x y l : List ℕ) (i j : ℕ) → i + length x ≡ j → sets l i (x ++ y) ≡ sets (sets l i x) j y
sets_append [] y l i j e = ap (λ k. sets l k y) (sym (add-zero i) ∙ e)
sets_append (a ∷ x) y l i j e = sets_append x y (set l i a) (suc i) j (omega arith)

set_sets : (y l : List ℕ) (i j a : ℕ) → i < j → sets (set l i a) j y ≡ set (sets l j y) i a
set_sets [] l i j a h = refl
set_sets (b ∷ y) l i j a h =
    ap (λ d. sets d (suc j) y) (set_comm l i j a b (λ e. absurd (omega (arith, e)))) ∙ set_sets y (set l j b) i (suc j) a (omega arith)

-- the one in front is stored first, or last
pub sets_apart : (x y l : List ℕ) (i j : ℕ) → i + length x ≤ j → sets (sets l j y) i x ≡ sets (sets l i x) j y
sets_apart [] y l i j h = refl
sets_apart (a ∷ x) y l i j h = ap (λ d. sets d (suc i) x) (sym (set_sets y l i j a (omega arith))) ∙ sets_apart x y (set l i a) (suc i) j (omega arith)

-- a part that was lent comes back: another list in its place, as long
pub part_back : (x l : List ℕ) (a k : ℕ) → length x ≡ k → a + k ≤ length l → take a l ++ (x ++ drop k (drop a l)) ≡ sets l a x
part_back x l a k e h =
    ap (λ r. take a l ++ (x ++ r)) (drop-drop k a l ∙ ap (λ n. drop (a + n) l) (sym e)) ∙ sym (append_assoc (take a l) x (drop (a + length x) l))
    ∙ sym (sets-eq x l a (omega arith))

-- a list stored at the front
pub sets_front : (x l : List ℕ) → length x ≤ length l → sets l 0 x ≡ x ++ drop (length x) l
sets_front x l h = let e : 0 + length x ≡ length x = omega arith in sets-eq x l 0 (omega arith) ∙ ap (λ k. x ++ drop k l) e

-- a list stored over another that is as long
pub sets_whole : (x l : List ℕ) → length x ≡ length l → sets l 0 x ≡ x
sets_whole x l h = sets_front x l (omega arith) ∙ ap (λ r. x ++ r) (drop_of_length-le l (omega arith)) ∙ append-nil x
