use Rattle.std.proofs.Common.{◌∙◌, arith}
use Rattle.tg_keep.proofs.TableLaws.{table_at}
use Rattle.tg_keep.proofs.sum.byte_out.Goals as goal

pub returns : goal.returns
returns c = c.entry_of.ensures ∙ table_at c.args.byte (omega arith)
