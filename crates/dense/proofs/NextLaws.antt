-- The first place at or after one, looked for from mini-block to mini-block.
use Rattle.std.proofs.Common.{◌≡◌, ℕ, ◌+◌, ◌*◌, ◌/◌, ◌%◌, ◌<◌, ◌≤◌, List, length, sym, ap, ◌∙◌, add-zero, arith}
use Rattle.std.specs.Prelude.{Some, None}
use Rattle.std.specs.Prelude.{Option as Maybe}
use mathlib.Core.Option.{some, none}
use Rattle.spec.specs.Set.{next}
use Rattle.spec.specs.Layout.{size, word}
use Rattle.spec.specs.Reading.{bits, word_at}
use Rattle.spec.proofs.Questions.{next_past}
use Rattle.words.specs.Part.{Of, placed}
use Rattle.dense.proofs.PlaceLaws.{next_found, next_none}
use Rattle.dense.proofs.DenseLaws.{rises, stored_word}

-- it is the first at or after place n of mini-block m
pub record Seeking (bs : List ℕ) (place m n : ℕ) : Type 0 where
  pub small : n < 64
  pub exact : Of bs (λ ps. next place ps ≡ next (64 * m + n) ps)

pub seek_first : (bs : List ℕ) (place : ℕ) → Seeking bs place (place / 64) (place % 64)
seek_first bs place =
    let e : place ≡ 64 * (place / 64) + place % 64 = omega arith in
    record { small = omega arith; exact = λ ps o. ap (λ p. next p ps) e }

module _ {bs : List ℕ} (long : length bs ≡ 10240) {place m n : ℕ} (s : Seeking bs place m n) where
  -- no mini-block is left
  pub seek_none : 1024 ≤ m → Of bs (λ ps. none ≡ next place ps)
  seek_none l ps o = sym (s.exact ps o ∙ next_past 0 size ps (rises bs ps long o) (64 * m + n) (omega arith))

  module _ (l : m < 1024) {w : ℕ} (e : w ≡ word_at m bs) (r : Maybe ℕ) (says : placed r ≡ next n (bits 64 0 w)) where
    stored : Of bs (λ ps. next n (bits 64 0 (word m ps)) ≡ placed r)
    stored ps o = ap (λ w. next n (bits 64 0 w)) (sym (e ∙ stored_word bs ps long o m l)) ∙ sym says

    -- one is there
    pub seek_found : (at : ℕ) → r ≡ Some at → Of bs (λ ps. some (64 * m + at) ≡ next place ps)
    seek_found at q ps o =
        sym (s.exact ps o ∙ next_found ps (rises bs ps long o) m n at (omega (arith, s.small)) (stored ps o ∙ ap placed q))

    -- none is there
    pub seek_more : r ≡ None → Seeking bs place (m + 1) 0
    seek_more q = record {
      small = omega arith;
      exact = λ ps o.
          s.exact ps o ∙ next_none ps (rises bs ps long o) m n (omega (arith, s.small)) (stored ps o ∙ ap placed q)
          ∙ ap (λ p. next p ps) (sym (add-zero (64 * (m + 1))));
    }
