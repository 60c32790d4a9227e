-- What each call owes: its answer, by document 01's numbers and values, and every lent buffer afterwards.
use Rattle.std.specs.Prelude.{ℕ, suc, ◌+◌, ◌-◌, ◌*◌, ◌≤◌, min, ◌≡◌, Bool, true, false, not, ◌||◌, cond, List, [], ◌∷◌, ◌++◌, length, drop, get_or, leb, ltb, eqb}
use Rattle.std.specs.Prelude.{Result, Ok, Err, Some, None}
use Rattle.std.specs.Prelude.{Option as Maybe}
use Rattle.std.proofs.Math.Option.{Option, none, some}
use Rattle.spec.specs.declared.Record.{Record}
use Rattle.spec.specs.declared.Refusal.{Refusal}
use Rattle.spec.specs.declared.Refusal.TheVariants.{Rows, Order, Range, Room, Header, Entries, Length, Content, Rank, Broken}
use Rattle.spec.specs.Set.{bit, contains, rank, lookup, select, next, hits, ranks, selects, below, page}
use Rattle.spec.specs.Layout.{Block, rows_of, file_of}
use Rattle.spec.specs.Reading.{limit, count_of_blocks, Head, Verdict, fault, holds, verdict, record_of, directory_of, directory_length, Given}

-- ---- each answer's number and values, by a definition for each of the calls' types: each can be wrong by itself

-- a refusal's number
abbrev pub number : Refusal → ℕ
number Rows = 1
number Order = 2
number Range = 3
number Room = 4
number Header = 5
number Entries = 6
number Length = 7
number Content = 8
number Rank = 9
number Broken = 10

-- what an answer says: a value, nothing ("not there", "none"), or a refusal by its number
pub data Said (A : Type 0) : Type 0 where
  value : A → Said A
  nothing : Said A
  refused : ℕ → Said A

-- contains: 1 for yes, 0 for no
abbrev pub answered : Result Bool Refusal → Said ℕ
answered (Ok b) = value (bit b)
answered (Err e) = refused (number e)

-- rank and select
abbrev pub numbered : Result ℕ Refusal → Said ℕ
numbered (Ok v) = value v
numbered (Err e) = refused (number e)

-- lookup and next
abbrev pub found : Result (Maybe ℕ) Refusal → Said ℕ
found (Ok (Some v)) = value v
found (Ok None) = nothing
found (Err e) = refused (number e)

-- write, batch lookup and page
abbrev pub counted : Result ℕ Refusal → Said ℕ
counted (Ok v) = value v
counted (Err e) = refused (number e)

-- batch select, which has no value but that it is done
abbrev pub done : Result (Unit {0}) Refusal → Said (Unit {0})
done (Ok u) = value u
done (Err e) = refused (number e)

-- open
abbrev pub opened : Result Record Refusal → Said Record
opened (Ok rec) = value rec
opened (Err e) = refused (number e)

-- the C calls' number: the value, or 4,294,967,296 plus the refusal number, with 4,294,967,296 itself for "none"
abbrev pub code : Said ℕ → ℕ
code (value v) = v
code nothing = 4294967296
code (refused k) = 4294967296 + k

-- a refusal, if one is due, before the rest
abbrev pub unless : {A : Type 0} → Option ℕ → Said A → Said A
unless none s = s
unless (some k) s = refused k

-- the number as a refusal, where the test says so
abbrev pub whenever : Bool → ℕ → Option ℕ
whenever b k = cond b (some k) none

-- a lent buffer after a call: on success the new front and the rest as it was; otherwise unchanged
abbrev pub front : List ℕ → List ℕ → List ℕ
front new old = new ++ drop (length new) old

abbrev pub kept : {A : Type 0} → Said A → List ℕ → List ℕ → List ℕ
kept (value v) new old = front new old
kept nothing new old = old
kept (refused k) new old = old

-- ---- the questions, asked of a set

-- a value, if there is one
abbrev pub or_nothing : Option ℕ → Said ℕ
or_nothing none = nothing
or_nothing (some v) = value v

-- yes exactly when the row is in the set
abbrev pub say_contains : ℕ → List ℕ → Said ℕ
say_contains d xs = value (bit (contains d xs))

-- the number of members below d
abbrev pub say_rank : ℕ → List ℕ → Said ℕ
say_rank d xs = value (rank d xs)

-- the rank of a member, otherwise not there
abbrev pub say_lookup : ℕ → List ℕ → Said ℕ
say_lookup d xs = or_nothing (lookup d xs)

-- the member with exactly k members below it; 9 where k is at or above n
abbrev pub say_select : ℕ → List ℕ → Said ℕ
say_select k xs = unless (whenever (leb (length xs) k) 9) (value (select k xs))

-- the smallest member at or after t, otherwise none
abbrev pub say_next : ℕ → List ℕ → Said ℕ
say_next t xs = or_nothing (next t xs)

-- ---- write: 1; then rows from the first, the first faulty row deciding, 2 before 3; then 4

-- the fault of the first faulty row, where `low` is one more than the row before: 2, a row not larger; 3, a row at or past the row count
unfoldable pub row_fault : ℕ → ℕ → List ℕ → Option ℕ
row_fault count low [] = none
row_fault count low (r ∷ rs) = cond (ltb r low) (some 2) (cond (leb count r) (some 3) (row_fault count (suc r) rs))

-- the file's length, into an output of length `room`
unfoldable pub say_write : ℕ → List ℕ → ℕ → Said ℕ
say_write count rows room =
    unless (whenever (ltb limit count) 1)
    (unless (row_fault count 0 rows)
    (unless (whenever (ltb room (length (file_of count rows))) 4)
    (value (length (file_of count rows)))))

-- the answer and the output: the file lies at the front, the rest stays
abbrev pub WriteOwes : ℕ → List ℕ → List ℕ → Said ℕ × List ℕ → Type 0
WriteOwes count rows out o =
    o ≡ (say_write count rows (length out), kept (say_write count rows (length out)) (file_of count rows) out)

-- ---- open: 5, 1, 6, 7, 8, 4

-- the record, with a directory of length `room`
abbrev pub open_with : Verdict → ℕ → Said Record
open_with (fault k) room = refused k
open_with (holds h gs) room = unless (whenever (ltb room (directory_length h.count)) 4) (value (record_of h gs))

-- the directory of an accepted file
abbrev pub directory_in : Verdict → List ℕ
directory_in (fault k) = []
directory_in (holds h gs) = directory_of h.count gs

-- 5, 1, 6, 7, 8 by the verdict, then 4
unfoldable pub say_open : List ℕ → ℕ → Said Record
say_open file room = open_with (verdict file) room

-- the answer and the directory: further words stay
abbrev pub OpenOwes : List ℕ → List ℕ → Said Record × List ℕ → Type 0
OpenOwes file directory o =
    o ≡ (say_open file (length directory), kept (say_open file (length directory)) (directory_in (verdict file)) directory)

-- ---- one-shot forms, and the C calls: opening's checks 5, 1, 6, 7, 8, and then the answer

-- the verdict's refusal, or what the set says
abbrev pub once_with : Verdict → (List ℕ → Said ℕ) → Said ℕ
once_with (fault k) question = refused k
once_with (holds h gs) question = question (rows_of gs)

-- a one-shot form's answer
unfoldable pub once : List ℕ → (List ℕ → Said ℕ) → Said ℕ
once file question = once_with (verdict file) question

-- contains_once, rank_once, lookup_once, select_once, next_once: no lent memory
abbrev pub OnceOwes : List ℕ → (List ℕ → Said ℕ) → Said ℕ → Type 0
OnceOwes file question s = s ≡ once file question

-- the C calls: contains, rank, select, next
abbrev pub CallOwes : List ℕ → (List ℕ → Said ℕ) → ℕ → Type 0
CallOwes file question r = r ≡ code (once file question)

-- ---- questions over an opened file: 10 first, then 4 or 9

-- one of the tests says so
abbrev pub any : List Bool → Bool
any [] = false
any (t ∷ ts) = t || any ts

-- 10: record's row count above the limit, or its n above its row count; directory under 2(B+1) words; closing pair's total not n; data
-- start not 1 to 5; data start + closing data length + 2 above the byte length
unfoldable pub broken : List ℕ → List ℕ → Record → Bool
broken file directory rec =
    any
    (ltb limit rec.row_count
    ∷ ltb rec.row_count rec.populated
    ∷ ltb (length directory) (directory_length rec.row_count)
    ∷ not (eqb (get_or directory (2 * count_of_blocks rec.row_count) 0) rec.populated)
    ∷ ltb rec.data_start 1
    ∷ ltb 5 rec.data_start
    ∷ ltb (length file) (rec.data_start + get_or directory (2 * count_of_blocks rec.row_count + 1) 0 + 2)
    ∷ [])

-- the refusal that is due: 10, or else the late one
abbrev pub due : Bool → Option ℕ → Option ℕ
due true late = some 10
due false late = late

-- What comes out, an answer with the buffers. The refusal that is due; else what the listed exception fixes, `loose`, and, where
-- opening gave all three together, exactly what the set says.
abbrev pub Owed : {O : Type 0} → Option ℕ → (Head → List Block → Type 0) → (ℕ → O) → (O → Type 0) → (List ℕ → O) → O → Type 0
Owed (some k) given refuse loose exact o = o ≡ refuse k
Owed none given refuse loose exact o = loose o × ((h : Head) (gs : List Block) → given h gs → o ≡ exact (rows_of gs))

-- the same, of these bytes, directory and record, with the refusal that may come late
abbrev pub Asked : {O : Type 0} → List ℕ → List ℕ → Record → Option ℕ → (ℕ → O) → (O → Type 0) → (List ℕ → O) → O → Type 0
Asked file directory rec late refuse loose exact o =
    Owed (due (broken file directory rec) late) (Given file directory rec) refuse loose exact o

-- the listed exception, of a single question: an answer that is no refusal
abbrev pub Free : Said ℕ → Type 0
Free (value v) = Unit {0}
Free nothing = Unit {0}
Free (refused k) = ⊥

-- what each single question owes
abbrev pub ContainsOwes : List ℕ → List ℕ → Record → ℕ → Said ℕ → Type 0
ContainsOwes file directory rec d s = Asked file directory rec none refused Free (say_contains d) s

abbrev pub RankOwes : List ℕ → List ℕ → Record → ℕ → Said ℕ → Type 0
RankOwes file directory rec d s = Asked file directory rec none refused Free (say_rank d) s

abbrev pub LookupOwes : List ℕ → List ℕ → Record → ℕ → Said ℕ → Type 0
LookupOwes file directory rec d s = Asked file directory rec none refused Free (say_lookup d) s

abbrev pub NextOwes : List ℕ → List ℕ → Record → ℕ → Said ℕ → Type 0
NextOwes file directory rec t s = Asked file directory rec none refused Free (say_next t) s

-- 9: k at or above n
abbrev pub SelectOwes : List ℕ → List ℕ → Record → ℕ → Said ℕ → Type 0
SelectOwes file directory rec k s = Asked file directory rec (whenever (leb rec.populated k) 9) refused Free (say_select k) s

-- ---- batch lookup: the answer, rows and ranks; 4: either output shorter than the question list

-- the exception: no more hits than questions, places past them stay
abbrev pub SomeHits : List ℕ → List ℕ → List ℕ → Said ℕ × List ℕ × List ℕ → Type 0
SomeHits questions rows ranks₀ o =
    (n : ℕ) × (o.0 ≡ value n) × (n ≤ length questions) × (drop n o.1 ≡ drop n rows) × (drop n o.2 ≡ drop n ranks₀)

-- all hits of a set, in question order
abbrev pub all_hits : List ℕ → List ℕ → List ℕ → List ℕ → Said ℕ × List ℕ × List ℕ
all_hits questions rows ranks₀ xs =
    (value (length (hits xs questions)), front (hits xs questions) rows, front (ranks xs (hits xs questions)) ranks₀)

-- 10, then 4
abbrev pub LookupBatchOwes : List ℕ → List ℕ → Record → List ℕ → List ℕ → List ℕ → Said ℕ × List ℕ × List ℕ → Type 0
LookupBatchOwes file directory rec questions rows ranks₀ o =
    Asked file directory rec
    (whenever (ltb (length rows) (length questions) || ltb (length ranks₀) (length questions)) 4)
    (λ k. (refused k, rows, ranks₀)) (SomeHits questions rows ranks₀) (all_hits questions rows ranks₀) o

-- ---- batch select: the answer, and the ranks replaced in place by their rows; 9: one bad rank refuses all

-- the exception: done, and the list as long as it was
abbrev pub SomeRows : List ℕ → Said (Unit {0}) × List ℕ → Type 0
SomeRows ks o = (o.0 ≡ value tt) × (length o.1 ≡ length ks)

-- 10, then 9
abbrev pub SelectBatchOwes : List ℕ → List ℕ → Record → List ℕ → Said (Unit {0}) × List ℕ → Type 0
SelectBatchOwes file directory rec ks o =
    Asked file directory rec (whenever (not (below rec.populated ks)) 9)
    (λ k. (refused k, ks)) (SomeRows ks) (λ xs. (value tt, selects xs ks)) o

-- ---- page: the answer and the list; min(L, n - r) rows; 9: r above n

-- the exception: the page's count, and places past it stay
abbrev pub SomePage : ℕ → List ℕ → Said ℕ × List ℕ → Type 0
SomePage n out o = (o.0 ≡ value n) × (drop n o.1 ≡ drop n out)

-- 10, then 9
abbrev pub PageOwes : List ℕ → List ℕ → Record → ℕ → List ℕ → Said ℕ × List ℕ → Type 0
PageOwes file directory rec r out o =
    Asked file directory rec (whenever (ltb rec.populated r) 9)
    (λ k. (refused k, out)) (SomePage (min (length out) (rec.populated - r)) out)
    (λ xs. (value (length (page r (length out) xs)), front (page r (length out) xs) out)) o
