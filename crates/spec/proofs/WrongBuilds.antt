-- Wrong programs, each refuted by what its call owes. Most are tried on P2: rows 1, 5 of 10.
use Prim.Native.Nat.{ℕ, suc, ◌+◌}
use mathlib.Core.Path.{◌≡◌, refl, sym, ap, ◌∙◌}
use mathlib.Core.List.{List, [], ◌∷◌, ◌++◌, flat_map}
use mathlib.Core.Option.{Option, none}
use native.Mathlib.Omega.{arith}
use lib.ListN.{length, get_or, replicate}
use Rattle.spec.specs.declared.Record.{Record}
use Rattle.spec.specs.Set.{contains, rank, next, hits, below}
use Rattle.spec.specs.Layout.{bytes_of, groups, blocks, rows_of, all_data, all_entries, written, file_of}
use Rattle.spec.specs.Reading.{part, ungroups, judge, verdict, bytes_before, pairs, directory_of}
use Rattle.spec.specs.Answers.{Said, value, nothing, refused, code, row_fault, say_write, WriteOwes, say_open, OpenOwes, once, OnceOwes, CallOwes, or_nothing, say_contains, say_rank, say_lookup, say_select, say_next, Asked}
use Rattle.spec.specs.Answers.{ContainsOwes, RankOwes, LookupOwes, NextOwes, SelectOwes, LookupBatchOwes, SelectBatchOwes, PageOwes}
use Rattle.spec.proofs.Questions.{below_all}
use Rattle.spec.proofs.Asking.{select_late, lookups_owe, selects_late, selects_owe, page_owes}
use Rattle.spec.proofs.Cases.{p2, directory, rec, head, block, p2_accepted, p2_given, p2_unbroken, p2_once}

-- ---- how they are refuted

-- what a question of P2 owes
owed : {O : Type 0} (late : Option ℕ) (refuse : ℕ → O) (loose : O → Type 0) (exact : List ℕ → O) (o : O) → late ≡ none
    → Asked p2 directory rec late refuse loose exact o → o ≡ exact (1 ∷ 5 ∷ [])
unfolding flat_map rows_of
owed late refuse loose exact o e a = (let b = rw (p2_unbroken, e) at a in b.1 head (block ∷ []) p2_given)

-- two things that a number tells apart
apart : {O : Type 0} (f : O → ℕ) (a b : O) → a ≡ b → (f a ≡ f b → ⊥) → ⊥
apart f a b e n = n (ap f e)

kind : {A : Type 0} → Said A → ℕ
kind (value v) = 0
kind nothing = 1
kind (refused k) = k + 2

-- ---- write: no rows of 300 into five bytes

abbrev sevens : List ℕ
sevens = 7 ∷ 7 ∷ 7 ∷ 7 ∷ 7 ∷ []

write_owed : (o : Said ℕ × List ℕ) → WriteOwes 300 [] sevens o → o ≡ (value 4, 0x2C ∷ 0x82 ∷ 0x00 ∷ 0x00 ∷ 7 ∷ [])
unfolding flat_map bytes_of groups blocks all_data all_entries written file_of row_fault say_write
write_owed o w = w

-- answers the length without writing
wrong_write_nothing : ((count : ℕ) (rows out : List ℕ) → WriteOwes count rows out (say_write count rows (length out), out)) → ⊥
wrong_write_nothing w = apart (λ (o : Said ℕ × List ℕ). get_or o.1 0 0) _ _ (write_owed _ (w 300 [] sevens)) (λ e. omega arith)

-- clears the rest of the output
wrong_write_clears : ((count : ℕ) (rows out : List ℕ) → WriteOwes count rows out (say_write count rows (length out), file_of count rows ++ replicate (length out) 0)) → ⊥
unfolding flat_map bytes_of groups blocks all_data all_entries written file_of
wrong_write_clears w = apart (λ (o : Said ℕ × List ℕ). get_or o.1 4 0) _ _ (write_owed _ (w 300 [] sevens)) (λ e. omega arith)

-- refuses everything with 4
wrong_write_room : ((count : ℕ) (rows out : List ℕ) → WriteOwes count rows out (refused 4, out)) → ⊥
unfolding kind
wrong_write_room w = apart (λ (o : Said ℕ × List ℕ). kind o.0) _ _ (write_owed _ (w 300 [] sevens)) (λ e. omega arith)

-- gives 3 where 2 is due
wrong_write_order : ((count : ℕ) (rows out : List ℕ) → WriteOwes count rows out (refused 3, out)) → ⊥
unfolding kind row_fault say_write
wrong_write_order w = apart (λ (o : Said ℕ × List ℕ). kind o.0) _ _ (w 10 (4 ∷ 4 ∷ []) []) (λ e. omega arith)

-- ---- open

open_owed : (o : Said Record × List ℕ) → OpenOwes p2 (7 ∷ 7 ∷ 7 ∷ 7 ∷ 7 ∷ []) o → o ≡ (value rec, 0 ∷ 0 ∷ 2 ∷ 4 ∷ 7 ∷ [])
unfolding say_open flat_map rank rows_of bytes_before pairs directory_of
open_owed o w = w ∙ rw p2_accepted

-- answers HEADER to all bytes
wrong_open_header : ((file directory : List ℕ) → OpenOwes file directory (refused 5, directory)) → ⊥
unfolding kind
wrong_open_header w = apart (λ (o : Said Record × List ℕ). kind o.0) _ _ (open_owed _ (w p2 sevens)) (λ e. omega arith)

-- accepts all bytes, as an empty set
wrong_open_empty : ((file directory : List ℕ) → OpenOwes file directory (value (record { row_count = 0; populated = 0; data_start = 1 }), directory)) → ⊥
unfolding kind say_open verdict judge ungroups part
wrong_open_empty w = apart (λ (o : Said Record × List ℕ). kind o.0) _ _ (w [] []) (λ e. omega arith)

-- leaves the directory as it was
wrong_open_words : ((file directory : List ℕ) → OpenOwes file directory (say_open file (length directory), directory)) → ⊥
wrong_open_words w = apart (λ (o : Said Record × List ℕ). get_or o.1 0 0) _ _ (open_owed _ (w p2 sevens)) (λ e. omega arith)

-- writes the words for which there is room before it refuses with 4
wrong_open_early : ((file : List ℕ) → OpenOwes file (7 ∷ 7 ∷ 7 ∷ []) (say_open file 3, 0 ∷ 0 ∷ 7 ∷ [])) → ⊥
unfolding say_open
wrong_open_early w =
    let e : ◌≡◌ {A = Said Record × List ℕ} (say_open p2 3, 0 ∷ 0 ∷ 7 ∷ []) (refused 4, 7 ∷ 7 ∷ 7 ∷ []) = w p2 ∙ rw p2_accepted in
    apart (λ (o : Said Record × List ℕ). get_or o.1 0 0) _ _ e (λ e. omega arith)

-- ---- contains

-- says yes always
wrong_contains_yes : ((file directory : List ℕ) (rec : Record) (d : ℕ) → ContainsOwes file directory rec d (value 1)) → ⊥
unfolding contains
wrong_contains_yes w = apart code _ _ (owed none refused _ (say_contains 2) _ refl (w p2 directory rec 2)) (λ e. omega arith)

-- says no always
wrong_contains_no : ((file directory : List ℕ) (rec : Record) (d : ℕ) → ContainsOwes file directory rec d (value 0)) → ⊥
unfolding contains
wrong_contains_no w = apart code _ _ (owed none refused _ (say_contains 5) _ refl (w p2 directory rec 5)) (λ e. omega arith)

-- ---- rank

-- counts members at or below d
wrong_rank_upto : ((file directory : List ℕ) (rec : Record) (d : ℕ) → RankOwes file directory rec d (value (rank (suc d) (1 ∷ 5 ∷ [])))) → ⊥
unfolding rank
wrong_rank_upto w = apart code _ _ (owed none refused _ (say_rank 5) _ refl (w p2 directory rec 5)) (λ e. omega arith)

-- says 0 always
wrong_rank_zero : ((file directory : List ℕ) (rec : Record) (d : ℕ) → RankOwes file directory rec d (value 0)) → ⊥
unfolding rank
wrong_rank_zero w = apart code _ _ (owed none refused _ (say_rank 10) _ refl (w p2 directory rec 10)) (λ e. omega arith)

-- ---- lookup

-- says "not there" always
wrong_lookup_absent : ((file directory : List ℕ) (rec : Record) (d : ℕ) → LookupOwes file directory rec d nothing) → ⊥
unfolding contains rank
wrong_lookup_absent w = apart code _ _ (owed none refused _ (say_lookup 5) _ refl (w p2 directory rec 5)) (λ e. omega arith)

-- finds every row, with its rank
wrong_lookup_found : ((file directory : List ℕ) (rec : Record) (d : ℕ) → LookupOwes file directory rec d (value (rank d (1 ∷ 5 ∷ [])))) → ⊥
unfolding contains rank
wrong_lookup_found w = apart code _ _ (owed none refused _ (say_lookup 2) _ refl (w p2 directory rec 2)) (λ e. omega arith)

-- ---- select

-- counts ranks from one
wrong_select_one : ((file directory : List ℕ) (rec : Record) (k : ℕ) → SelectOwes file directory rec (suc k) (value (get_or (1 ∷ 5 ∷ []) k 0))) → ⊥
wrong_select_one w = apart code _ _ (owed none refused _ (say_select 1) _ refl (w p2 directory rec 0)) (λ e. omega arith)

-- answers the last row to k = n
wrong_select_end : ((file directory : List ℕ) (rec : Record) (k : ℕ) → SelectOwes file directory rec k (value 5)) → ⊥
wrong_select_end w = apart code _ _ (select_late p2 directory rec p2_unbroken 2 (value 5) (omega arith) (w p2 directory rec 2)) (λ e. omega arith)

-- ---- next

-- reads next as "after" and not "at or after"
wrong_next_after : ((file directory : List ℕ) (rec : Record) (t : ℕ) → NextOwes file directory rec t (or_nothing (next (suc t) (1 ∷ 5 ∷ [])))) → ⊥
unfolding next
wrong_next_after w = apart code _ _ (owed none refused _ (say_next 1) _ refl (w p2 directory rec 1)) (λ e. omega arith)

-- says "none" always
wrong_next_none : ((file directory : List ℕ) (rec : Record) (t : ℕ) → NextOwes file directory rec t nothing) → ⊥
unfolding next
wrong_next_none w = apart code _ _ (owed none refused _ (say_next 2) _ refl (w p2 directory rec 2)) (λ e. omega arith)

-- ---- batch lookup: 5, 5, 9

abbrev asked : List ℕ
asked = 5 ∷ 5 ∷ 9 ∷ []

abbrev rows₀ : List ℕ
rows₀ = 7 ∷ 7 ∷ 7 ∷ []

abbrev ranks₀ : List ℕ
ranks₀ = 8 ∷ 8 ∷ 8 ∷ []

batch_owed : (o : Said ℕ × List ℕ × List ℕ) → LookupBatchOwes p2 directory rec asked rows₀ ranks₀ o
    → (o.0 ≡ value 2) × (o.1 ≡ 5 ∷ 5 ∷ 7 ∷ []) × (o.2 ≡ 1 ∷ 1 ∷ 8 ∷ [])
unfolding hits contains rank flat_map rows_of
batch_owed o w =
    (lookups_owe p2 directory rec p2_unbroken asked rows₀ ranks₀ o w (omega arith) (omega arith)).1 head (block ∷ []) p2_given

-- writes nothing
wrong_batch_nothing : ((file directory : List ℕ) (rec : Record) (questions rows ranks' : List ℕ) → LookupBatchOwes file directory rec questions rows ranks' (value 0, rows, ranks')) → ⊥
wrong_batch_nothing w = apart code _ _ (batch_owed (value 0, rows₀, ranks₀) (w p2 directory rec asked rows₀ ranks₀)).0 (λ e. omega arith)

-- counts the hits, but writes nothing
wrong_batch_unwritten : ((n : ℕ) → LookupBatchOwes p2 directory rec asked rows₀ ranks₀ (value n, rows₀, ranks₀)) → ⊥
wrong_batch_unwritten w = apart (λ l. get_or l 0 0) _ _ (batch_owed _ (w 2)).1 (λ e. omega arith)

-- makes a hit count up
wrong_batch_count : ((file directory : List ℕ) (rec : Record) (questions rows ranks' : List ℕ) → LookupBatchOwes file directory rec questions rows ranks' (value (length questions), rows, ranks')) → ⊥
wrong_batch_count w = apart code _ _ (batch_owed (value 3, rows₀, ranks₀) (w p2 directory rec asked rows₀ ranks₀)).0 (λ e. omega arith)

-- loses a repeated question
wrong_batch_repeat : LookupBatchOwes p2 directory rec asked rows₀ ranks₀ (value 1, 5 ∷ 7 ∷ 7 ∷ [], 1 ∷ 8 ∷ 8 ∷ []) → ⊥
wrong_batch_repeat w = apart code _ _ (batch_owed _ w).0 (λ e. omega arith)

-- ---- batch select: ranks 1, 0

-- leaves the ranks where they are
wrong_selects_nothing : ((file directory : List ℕ) (rec : Record) (ks : List ℕ) → SelectBatchOwes file directory rec ks (value tt, ks)) → ⊥
unfolding below flat_map rows_of
wrong_selects_nothing w =
    let o = selects_owe p2 directory rec p2_unbroken (1 ∷ 0 ∷ []) _ (w p2 directory rec (1 ∷ 0 ∷ [])) (below_all 2 (1 ∷ 0 ∷ []) refl) in
    apart (λ l. get_or l 0 0) _ _ (o.2 head (block ∷ []) p2_given) (λ e. omega arith)

-- replaces the good ranks and passes over a bad one
wrong_selects_some : SelectBatchOwes p2 directory rec (1 ∷ 2 ∷ []) (value tt, 5 ∷ 2 ∷ []) → ⊥
unfolding kind
wrong_selects_some w =
    apart (λ (o : Said (Unit {0}) × List ℕ). kind o.0) _ _ (selects_late p2 directory rec p2_unbroken (1 ∷ 2 ∷ []) _ w 1 (omega arith) (omega arith)) (λ e. omega arith)

-- ---- page

-- lists everything on the first call and repeats it
wrong_page_repeats : ((file directory : List ℕ) (rec : Record) (r : ℕ) → PageOwes file directory rec r (7 ∷ 7 ∷ []) (value 2, 1 ∷ 5 ∷ [])) → ⊥
wrong_page_repeats w = apart code _ _ (page_owes p2 directory rec p2_unbroken 1 (7 ∷ 7 ∷ []) _ (w p2 directory rec 1) (omega arith)).0 (λ e. omega arith)

-- counts the page, but writes the first rows again
wrong_page_first : PageOwes p2 directory rec 1 (7 ∷ 7 ∷ []) (value 1, 1 ∷ 7 ∷ []) → ⊥
unfolding flat_map rows_of
wrong_page_first w =
    apart (λ l. get_or l 0 0) _ _ ((page_owes p2 directory rec p2_unbroken 1 (7 ∷ 7 ∷ []) _ w (omega arith)).2 head (block ∷ []) p2_given) (λ e. omega arith)

-- refuses r = n
wrong_page_end : PageOwes p2 directory rec 2 (7 ∷ 7 ∷ []) (refused 9, 7 ∷ 7 ∷ []) → ⊥
unfolding kind
wrong_page_end w = apart kind _ _ (page_owes p2 directory rec p2_unbroken 2 (7 ∷ 7 ∷ []) _ w (omega arith)).0 (λ e. omega arith)

-- ---- one-shot forms, each with its question

-- answers HEADER to all bytes
wrong_once_header : (question : List ℕ → Said ℕ) → (kind (question (1 ∷ 5 ∷ [])) ≡ 7 → ⊥) → ((file : List ℕ) → OnceOwes file question (refused 5)) → ⊥
unfolding kind
wrong_once_header question v w = apart kind _ _ (w p2 ∙ p2_once question) (λ e. v (sym e))

-- answers all bytes as the empty set
wrong_once_empty : (question : List ℕ → Said ℕ) → (kind (question []) ≡ 7 → ⊥) → ((file : List ℕ) → OnceOwes file question (question [])) → ⊥
unfolding kind once verdict judge ungroups part
wrong_once_empty question v w = apart kind _ _ (w []) v

-- ---- C calls, each with its question

-- gives the refusal number alone
wrong_call_number : (question : List ℕ → Said ℕ) → ((file : List ℕ) → CallOwes file question 5) → ⊥
unfolding once verdict judge ungroups part
wrong_call_number question w = let e : ◌≡◌ {A = ℕ} 5 4294967301 = w [] in omega arith

-- gives 0 for what it refuses
wrong_call_zero : (question : List ℕ → Said ℕ) → ((file : List ℕ) → CallOwes file question 0) → ⊥
unfolding once verdict judge ungroups part
wrong_call_zero question w = let e : ◌≡◌ {A = ℕ} 0 4294967301 = w [] in omega arith

-- gives 0 for "none"
wrong_call_none : ((file : List ℕ) (t : ℕ) → CallOwes file (say_next t) 0) → ⊥
unfolding next
wrong_call_none w = let e : ◌≡◌ {A = ℕ} 0 4294967296 = w p2 6 ∙ ap code (p2_once (say_next 6)) in omega arith
