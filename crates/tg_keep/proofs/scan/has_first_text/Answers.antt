use Rattle.std.proofs.Common.{sym}
use Rattle.tg_keep.proofs.Scanning.{begins_none}
use Rattle.tg_keep.proofs.scan.has_first_text.Goals as goal

pub returns-in-None : goal.returns-in-None
returns-in-None c =
    let reader = c.new-reader.result in
    sym (begins_none c.args.file.now reader.sum.digits reader.left.now c.new-reader.ensures.left c.new-reader.ensures.sum c.in-None.ensures.end)
