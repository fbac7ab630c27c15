use Rattle.tg_kept.proofs.KeepingLaws.{keeps_first, leaves_store}
use Rattle.tg_kept.proofs.kept.Kept.begin.Goals as goal

pub returns-in-Ok-clause-left : goal.returns-in-Ok-clause-left
returns-in-Ok-clause-left g c =
    let begun = c.in-Ok.ensures.begun in
    leaves_store g.D.Disk c.args.store c.begin_history.new.file begun.settled
    (keeps_first g.D.Disk c.opening.result.now c.args.store c.new-file.result c.begin_history.new.file c.opening.ensures c.requires.first.none begun)
