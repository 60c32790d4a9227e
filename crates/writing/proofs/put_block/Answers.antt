-- `writing::put_block` meets its contract: its data are laid, then its entry. Assumes nothing.
use mathlib.Core.Path.{◌∙◌}
use native.Mathlib.Omega.{arith}
use lib.Seq.{length-sets}
use Rattle.writing.proofs.BlockLaws.{rows_fit, data_laid, entry_laid}
use Rattle.writing.proofs.put_block.Goals as goal

pub overflow_cast-n : goal.overflow_cast-n
overflow_cast-n c = let l = rows_fit c.args.rows.now c.requires.rows_there.1 in omega (arith, l)

pub to_bytes-entry-requires : goal.to_bytes-entry-requires
to_bytes-entry-requires c = (omega (arith, c.requires.rows_there.0), rows_fit c.args.rows.now c.requires.rows_there.1)

pub returns : goal.returns
returns c =
    entry_laid c.args.rows.now _ _ _ _ c.args.to
    (data_laid c.args.rows.now c.args.out.now _ c.args.at _ c.put_data.ensures c.data_size.ensures (omega (arith, c.requires.room)))
    (simp length-sets c.requires.room.1) (c.copy_from_slice.ensures.after ∙ c.to_bytes-entry.ensures)
