-- What a call of `open` leaves, of any bytes and any directory: r is its answer, directory' the directory afterwards.
use Prim.Native.Nat.{ℕ, ◌≤◌}
use mathlib.Core.Path.{◌≡◌, sym, ap, ◌∙◌}
use mathlib.Core.List.{List}
use lib.ListN.{length}
use Rattle.std.specs.Prelude.{Result, Ok}
use Rattle.spec.specs.declared.Record.{Record}
use Rattle.spec.specs.declared.Refusal.{Refusal}
use Rattle.spec.specs.Layout.{Block, blocks, rows_of, file_of}
use Rattle.spec.specs.Reading.{Permitted, AreBytes, Head, verdict, record_of, directory_length, Given}
use Rattle.spec.specs.Answers.{value, opened, OpenOwes}
use Rattle.spec.proofs.Numbers.{opened_one}
use Rattle.spec.proofs.RowCount.{head_of}
use Rattle.spec.proofs.Promises.{open_index, open_given}
use Rattle.spec.proofs.Demands.{written_accepted, accepted_written}

-- the bytes are the file of a set, and record and directory are theirs
pub record Opens (bytes directory : List ℕ) (rec : Record) : Type 0 where
  pub head : Head
  pub set : List Block
  pub together : Given bytes directory rec head set
  pub permitted : Permitted head.count (rows_of set)
  pub written' : bytes ≡ file_of head.count (rows_of set)

module _ (bytes directory directory' : List ℕ) (r : Result Record Refusal) (w : OpenOwes bytes directory (opened r, directory')) where
  -- only what was written is accepted, and the answer is given together with the directory
  pub only_written : AreBytes bytes → (rec : Record) → r ≡ Ok rec → Opens bytes directory' rec
  only_written y rec e =
      let o : OpenOwes bytes directory (value rec, directory') = sym (ap (λ r. (opened r, directory')) e) ∙ w in
      let g = open_given bytes directory directory' rec o in
      let a = accepted_written bytes g.0 g.1 y g.2.accepted in
      record { head = g.0; set = g.1; together = g.2; permitted = a.0; written' = a.1 }

  -- and all that was written, given room: the answer is the record of its row count and set
  pub all_written : (count : ℕ) (rows : List ℕ) → Permitted count rows → bytes ≡ file_of count rows → directory_length count ≤ length directory
      → (r ≡ Ok (record_of (head_of count) (blocks rows))) × (rows_of (blocks rows) ≡ rows)
  all_written count rows p e h =
      let a = written_accepted count rows p in
      let o = open_index bytes directory (opened r, directory') w (head_of count) (blocks rows) (ap verdict e ∙ a.0) h in
      (opened_one r (Ok (record_of (head_of count) (blocks rows))) (ap (λ o. o.0) o), a.1)
