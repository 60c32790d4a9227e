-- A list filled from its front: what is filled, with what is still to come, is the whole.
use Prim.Native.Nat.{ℕ, ◌+◌, ◌≤◌, ◌<◌}
use mathlib.Core.Path.{◌≡◌, sym, ap, ◌∙◌}
use mathlib.Core.List.{List, ◌∷◌, ◌++◌, append_assoc}
use native.Mathlib.Numerals.{add-one}
use native.Mathlib.Omega.{arith}
use lib.ListN.{length, take, drop, set, length-append, length-drop}
use lib.Seq.{take-suc-set, append_snoc, take-append_seam, take_all, length-take-le, take_at, drop_at, drop-drop}

module _ (out all : List ℕ) (j : ℕ) where
  -- one more element
  pub front_more : (x : ℕ) (left : List ℕ) → j < length out → take j out ++ (x ∷ left) ≡ all → take (j + 1) (set out j x) ++ left ≡ all
  front_more x left h e = rw (add-one j, take-suc-set out j x h) (append_snoc (take j out) x left ∙ e)

  -- filled to its end, it is as much of the whole as it is long
  pub front_end : (left : List ℕ) → length out ≤ j → take j out ++ left ≡ all → out ≡ take (length out) all
  front_end left h e = sym (take-append_seam out left) ∙ ap (take (length out)) (ap (λ o. o ++ left) (sym (take_all j out h)) ∙ e)

-- ---- a part of it that was lent, filled

module _ (out new : List ℕ) (j n : ℕ) (long : length new ≡ n) (room : j + n ≤ length out) where
  front_long : length (take j out) ≡ j
  front_long = length-take-le j out (omega arith)

  -- the part, and the rest as it was
  abbrev lent : List ℕ
  lent = take j out ++ (new ++ drop n (drop j out))

  apart : lent ≡ (take j out ++ new) ++ drop n (drop j out)
  apart = sym (append_assoc (take j out) new (drop n (drop j out)))

  both_long : length (take j out ++ new) ≡ j + n
  both_long = length-append (take j out) new ∙ omega (arith, front_long)

  pub part_long : length (take j out ++ (new ++ drop n (drop j out))) ≡ length out
  part_long =
      ap length apart ∙ length-append (take j out ++ new) (drop n (drop j out))
      ∙ omega (arith, both_long, length-drop n (drop j out), length-drop j out)

  pub part_front : (all left : List ℕ) → take j out ++ (new ++ left) ≡ all → take (j + n) (take j out ++ (new ++ drop n (drop j out))) ++ left ≡ all
  part_front all left e =
      ap (λ l. l ++ left) (ap (take (j + n)) apart ∙ take_at (take j out ++ new) (drop n (drop j out)) (j + n) both_long)
      ∙ append_assoc (take j out) new left ∙ e

  pub part_rest : (old : List ℕ) → drop j out ≡ drop j old → drop (j + n) (take j out ++ (new ++ drop n (drop j out))) ≡ drop (j + n) old
  part_rest old e =
      ap (drop (j + n)) apart ∙ drop_at (take j out ++ new) (drop n (drop j out)) (j + n) both_long ∙ ap (drop n) e ∙ drop-drop n j old
