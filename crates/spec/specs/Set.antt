-- The questions' meanings. A set of rows is the strictly increasing list of its members.
use Rattle.std.specs.Prelude.{ℕ, suc, ◌+◌, Bool, true, false, ◌&&◌, ◌||◌, cond, List, [], ◌∷◌, map, get_or, take, drop, leb, ltb, eqb}
use Rattle.std.proofs.Math.Option.{Option, none, some}

-- 1 for yes, 0 for no
abbrev pub bit : Bool → ℕ
bit true = 1
bit false = 0

-- strictly increasing, from `low` on and below `end`
unfoldable pub rising : ℕ → ℕ → List ℕ → Bool
rising low end [] = true
rising low end (x ∷ xs) = leb low x && ltb x end && rising (suc x) end xs

-- contains: yes exactly when the row is in the set
unfoldable pub contains : ℕ → List ℕ → Bool
contains d [] = false
contains d (x ∷ xs) = eqb x d || contains d xs

-- rank(d): the number of members below d
unfoldable pub rank : ℕ → List ℕ → ℕ
rank d [] = 0
rank d (x ∷ xs) = bit (ltb x d) + rank d xs

-- lookup(d): rank(d) if d is a member, otherwise not there
abbrev pub lookup : ℕ → List ℕ → Option ℕ
lookup d xs = cond (contains d xs) (some (rank d xs)) none

-- select(k): the member with exactly k members below it, which is element k
abbrev pub select : ℕ → List ℕ → ℕ
select k xs = get_or xs k 0

-- next(t): the smallest member at or after t
unfoldable pub next : ℕ → List ℕ → Option ℕ
next t [] = none
next t (x ∷ xs) = cond (leb t x) (some x) (next t xs)

-- q before the others, if the test says so
abbrev pub keep : Bool → ℕ → List ℕ → List ℕ
keep true q qs = q ∷ qs
keep false q qs = qs

-- batch lookup: the questions that are members, in question order, repeats included
unfoldable pub hits : List ℕ → List ℕ → List ℕ
hits xs [] = []
hits xs (q ∷ qs) = keep (contains q xs) q (hits xs qs)

-- the ranks of rows
abbrev pub ranks : List ℕ → List ℕ → List ℕ
ranks xs qs = map (λ q. rank q xs) qs

-- batch select: the rows of ranks
abbrev pub selects : List ℕ → List ℕ → List ℕ
selects xs ks = map (λ k. select k xs) ks

-- every one is below n
unfoldable pub below : ℕ → List ℕ → Bool
below n [] = true
below n (k ∷ ks) = ltb k n && below n ks

-- page: from rank r, into a list of length `room`
abbrev pub page : ℕ → ℕ → List ℕ → List ℕ
page r room xs = take room (drop r xs)
