-- Bytes, little-endian numbers (once over the width), and parts.
use Prim.Native.Nat.{ℕ, zero, suc, ◌+◌, ◌-◌, ◌*◌, ◌/◌, ◌%◌, ◌^◌, ◌≤◌, ◌<◌}
use mathlib.Core.Path.{◌≡◌, refl, sym, ap, ap₂, ◌∙◌, subst}
use mathlib.Core.Bool.{Bool, true, false}
use mathlib.Core.List.{List, [], ◌∷◌, ◌++◌, append_assoc}
use native.Mathlib.Nat.{pow-suc, div-lt_iff_lt-mul, zero-lt-suc, div-add-mod'}
use native.Mathlib.Omega.{arith}
use lib.ListN.{length, get_or, take, drop, length-append, length-take, get_or-eq_default}
use lib.Seq.{take_at, drop_at, take_all, take-add, drop-drop, length-take-le, get_or-take, get_or-drop}
use lib.Dec.{ltb}
use borrow.Author.Tests.{ltb-true, ltb-false}
use Rattle.spec.specs.declared.Entry.{Entry}
use Rattle.spec.specs.Layout.{bytes_of, entry_bytes}
use Rattle.spec.specs.Reading.{AreBytes, number_in, part, entry_in}

-- ---- numbers

pub length_bytes : (w n : ℕ) → length (bytes_of w n) ≡ w
unfolding bytes_of
length_bytes zero n = refl
length_bytes (suc w) n = ap suc (length_bytes w (n / 256))

pub number_bytes : (w n : ℕ) → n < 256 ^ w → number_in (bytes_of w n) ≡ n
unfolding bytes_of number_in
number_bytes zero n h = omega (arith, h)
number_bytes (suc w) n h =
    ap (λ q. n % 256 + 256 * q) (number_bytes w (n / 256) ((div-lt_iff_lt-mul (zero-lt-suc 255)).1 (rw pow-suc at h)))
    ∙ omega (arith, div-add-mod' n 256)

pub bytes_number : (w : ℕ) (bs : List ℕ) → AreBytes bs → length bs ≡ w → bytes_of w (number_in bs) ≡ bs
unfolding bytes_of number_in
bytes_number zero [] y e = refl
bytes_number zero (b ∷ bs) y e = absurd (omega arith)
bytes_number (suc w) [] y e = absurd (omega arith)
bytes_number (suc w) (b ∷ bs) y e =
    let l = y 0 in
    ap₂ (λ x l. x ∷ l) (low b (number_in bs) l) (ap (bytes_of w) (high b (number_in bs) l) ∙ bytes_number w bs (λ i. y (suc i)) (omega arith))
  where
    low : (b u : ℕ) → b < 256 → (b + 256 * u) % 256 ≡ b
    low b u h = omega arith

    high : (b u : ℕ) → b < 256 → (b + 256 * u) / 256 ≡ u
    high b u h = omega arith

pub number_lt : (bs : List ℕ) → AreBytes bs → number_in bs < 256 ^ length bs
unfolding number_in
number_lt [] y = omega arith
number_lt (b ∷ bs) y = let i = number_lt bs (λ i. y (suc i)) in let l = y 0 in let p = pow-suc 256 (length bs) in omega arith

-- ---- parts

pub length_part : (a b : ℕ) (bs : List ℕ) → a ≤ b → b ≤ length bs → length (part a b bs) ≡ b - a
unfolding part
length_part a b bs h k = length-take-le (b - a) (drop a bs) (omega (arith, lib.ListN.length-drop a bs))

-- what stands behind `pre`
pub part_at : (pre x rest : List ℕ) (a b : ℕ) → length pre ≡ a → a + length x ≡ b → part a b (pre ++ (x ++ rest)) ≡ x
unfolding part
part_at pre x rest a b p q = ap (take (b - a)) (drop_at pre (x ++ rest) a p) ∙ take_at x rest (b - a) (omega arith)

pub part_all : (bs : List ℕ) → part 0 (length bs) bs ≡ bs
unfolding part
part_all bs = take_all (length bs - 0) bs (omega arith)

pub part_join : (a b c : ℕ) (bs : List ℕ) → a ≤ b → b ≤ c → part a b bs ++ part b c bs ≡ part a c bs
unfolding part
part_join a b c bs h k =
    let e : a + (b - a) ≡ b = omega arith in
    let f : b - a + (c - b) ≡ c - a = omega arith in
    sym (ap (λ n. take n (drop a bs)) (sym f) ∙ take-add (b - a) (c - b) (drop a bs)
    ∙ ap (λ l. take (b - a) (drop a bs) ++ take (c - b) l) (drop-drop (b - a) a bs ∙ ap (λ n. drop n bs) e))

pub get_or_part : (a b : ℕ) (bs : List ℕ) (i : ℕ) → i < b - a → get_or (part a b bs) i 0 ≡ get_or bs (a + i) 0
unfolding part
get_or_part a b bs i h = get_or-take (b - a) (drop a bs) i 0 h ∙ get_or-drop a bs i 0

pub bytes_part : (a b : ℕ) (bs : List ℕ) → AreBytes bs → AreBytes (part a b bs)
unfolding part
bytes_part a b bs y i = go (ltb i (b - a)) refl
  where
    go : (t : Bool) → ltb i (b - a) ≡ t → get_or (part a b bs) i 0 < 256
    go true e = rw (get_or_part a b bs i (ltb-true i (b - a) e)) (y (a + i))
    go false e =
        let l : length (part a b bs) ≤ i = omega (arith, length-take (b - a) (drop a bs), ltb-false i (b - a) e) in
        rw (get_or-eq_default (part a b bs) 0 l) (omega arith)

pub part_none : (a b : ℕ) (bs : List ℕ) → b ≤ a → part a b bs ≡ []
unfolding part
part_none a b bs h = let e : b - a ≡ 0 = omega arith in ap (λ n. take n (drop a bs)) e

-- the number in w bytes of a list
pub part_number : (w a b : ℕ) (bs : List ℕ) → AreBytes bs → a + w ≡ b → b ≤ length bs → bytes_of w (number_in (part a b bs)) ≡ part a b bs
part_number w a b bs y e l = bytes_number w (part a b bs) (bytes_part a b bs y) (length_part a b bs (omega arith) l ∙ omega arith)

pub part_number_lt : (w a b : ℕ) (bs : List ℕ) → AreBytes bs → a + w ≡ b → b ≤ length bs → number_in (part a b bs) < 256 ^ w
part_number_lt w a b bs y e l =
    let n : length (part a b bs) ≡ w = length_part a b bs (omega arith) l ∙ omega arith in
    subst (λ n. number_in (part a b bs) < 256 ^ n) n (number_lt (part a b bs) (bytes_part a b bs y))

-- ---- reading one thing after another: `pre` has been read, and x is next

pub regroup : (pre x y rest : List ℕ) → pre ++ ((x ++ y) ++ rest) ≡ (pre ++ x) ++ (y ++ rest)
regroup pre x y rest = simp append_assoc

pub next_part : (pre x y rest : List ℕ) (a b : ℕ) → length pre ≡ a → a + length x ≡ b → part a b (pre ++ ((x ++ y) ++ rest)) ≡ x
next_part pre x y rest a b p q = rw (append_assoc x y rest) (part_at pre x (y ++ rest) a b p q)

pub longer : (pre x : List ℕ) (a b : ℕ) → length pre ≡ a → a + length x ≡ b → length (pre ++ x) ≡ b
longer pre x a b p q = length-append pre x ∙ omega arith

-- ---- an entry and its four bytes: each gives the other back

-- an entry is read back as it was written: 65,536 rows fit, stored as 65535
pub entry_back : (e : Entry) → e.number < 65536 → 1 ≤ e.rows → e.rows ≤ 65536 → entry_in (entry_bytes e) ≡ e
unfolding entry_in part bytes_of
entry_back e n l h =
    let number : number_in (bytes_of 2 e.number) ≡ e.number = number_bytes 2 e.number n in
    let rows : number_in (bytes_of 2 (e.rows - 1)) + 1 ≡ e.rows = ap (λ r. r + 1) (number_bytes 2 (e.rows - 1) (omega arith)) ∙ omega arith in
    λ i. record { number = number i; rows = rows i }

-- four bytes are those of the entry that they say
pub bytes_back : (bs : List ℕ) → AreBytes bs → length bs ≡ 4 → entry_bytes (entry_in bs) ≡ bs
unfolding entry_in
bytes_back bs y h =
    let rows : number_in (part 2 4 bs) + 1 - 1 ≡ number_in (part 2 4 bs) = omega arith in
    ap₂ ◌++◌ (part_number 2 0 2 bs y (omega arith) (omega arith)) (ap (bytes_of 2) rows ∙ part_number 2 2 4 bs y (omega arith) (omega arith))
    ∙ part_join 0 2 4 bs (omega arith) (omega arith)
    ∙ rw h at (part_all bs)
