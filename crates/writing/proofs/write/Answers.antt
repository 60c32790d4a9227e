-- `writing::write` meets its contract: 1, then the first faulty row, then 4 or the file. Assumes nothing.
use native.Mathlib.Omega.{arith}
use Rattle.std.proofs.lemmas.Result.{err_from_is_err_and}
use Rattle.writing.proofs.FileLaws.{too_many, faulty, permitted}
use Rattle.writing.proofs.write.Goals as goal

pub returns-then-row_count-gt-LIMIT : goal.returns-then-row_count-gt-LIMIT
returns-then-row_count-gt-LIMIT c = too_many _ _ _ c.if-row_count-gt-LIMIT.true

pub returns-in_err-fault : goal.returns-in_err-fault
returns-in_err-fault c =
    let p = err_from_is_err_and c.from_residual.result c.from_residual.ensures.1 in
    rw (p.1, p.2) (faulty _ _ _ _ (omega arith) c.in_err-fault.ensures)

pub put_file-requires : goal.put_file-requires
put_file-requires c = permitted c.args.row_count c.args.rows.now (omega arith) c.in_ok-fault.ensures
