-- `content_ok` meets its contract: data of 10,240 bytes have 5,120 rows at least. Assumes nothing.
use Rattle.std.proofs.Common.{sym, ◌∙◌}
use Rattle.judging.proofs.ContentLaws.{dense_rows}
use Rattle.judging.proofs.contents.content_ok.Goals as goal

pub content_ok-requires : goal.content_ok-requires
content_ok-requires c = (dense_rows c.args.rows (sym c.requires.0 ∙ (c.in-Some.ensures {u = tt}).1), c.requires.1)
