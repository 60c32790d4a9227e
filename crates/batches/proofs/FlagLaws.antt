-- The two flags: questions that never fall, as their neighbours say, and ranks below n, where what was seen so far, with what is left
-- of the list, decides the whole.
use Rattle.std.proofs.Common.{◌≡◌, ℕ, ◌+◌, ◌<◌, ◌≤◌, Bool, true, false, ◌&&◌, List, length, get_or, sym, refl, ◌∙◌, arith, le-ltb, lt-ltb}
use Rattle.spec.specs.Set.{below}
use Rattle.spec.proofs.Tests.{by_test}
use Rattle.spec.proofs.Steps.{Left, left_more, left_all}
use Rattle.words.specs.Part.{NeverFalls}
use Rattle.words.proofs.TestLaws.{and_no, and_yes}
use Rattle.words.proofs.FlagLaws.{Climbing, climbs_apart}
use Rattle.rows.proofs.NeighbourLaws.{climbs_all}
use Rattle.batches.specs.Batches.{climbing}

-- ---- questions that never fall

-- each question asks the next to be no less
pub never_falling : Climbing (λ x. x) climbing
unfolding climbing
never_falling = record { none = λ low. refl; more = λ low x xs. refl }

pub never_falls : (low : ℕ) (qs : List ℕ) → climbing low qs ≡ true → NeverFalls qs
never_falls low qs e i j l h = climbs_apart never_falling (λ x. omega arith) low i j qs e l h

-- as the neighbours say
pub climb : (qs : List ℕ) → ((k : ℕ) → k + 1 < length qs → get_or qs k 0 ≤ get_or qs (k + 1) 0) → true ≡ climbing 0 qs
climb qs h = sym (climbs_all never_falling qs h)

pub fall : (qs : List ℕ) (k : ℕ) → k + 1 < length qs → get_or qs (k + 1) 0 < get_or qs k 0 → false ≡ climbing 0 qs
fall qs k l h = sym (by_test (climbing 0 qs) (λ e. absurd (omega (arith, never_falls 0 qs e k (k + 1) (omega arith) l))) (λ e. e))

-- ---- ranks below n

abbrev pub Seen : ℕ → List ℕ → Bool → ℕ → Type 0
Seen n ks ok i = Left (λ l. ok && below n l) (below n ks) ks i

pub seen_start : (n : ℕ) (ks : List ℕ) → Seen n ks true 0
seen_start n ks = record { within = omega arith; same = refl }

module _ (n : ℕ) (ks : List ℕ) (ok : Bool) (i : ℕ) (s : Seen n ks ok i) (h : i < length ks) where
  pub seen_bad : n ≤ get_or ks i 0 → Seen n ks false (i + 1)
  unfolding below
  seen_bad l = left_more s (λ l. false && below n l) h (λ ys. rw (le-ltb (get_or ks i 0) n l) (and_no ok))

  pub seen_more : get_or ks i 0 < n → Seen n ks ok (i + 1)
  unfolding below
  seen_more l = left_more s (λ l. ok && below n l) h (λ ys. rw (lt-ltb (get_or ks i 0) n l))

pub seen_end : (n : ℕ) (ks : List ℕ) (ok : Bool) (i : ℕ) → Seen n ks ok i → length ks ≤ i → ok ≡ below n ks
unfolding below
seen_end n ks ok i s h = sym (and_yes ok) ∙ left_all s h
