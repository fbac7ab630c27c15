use Rattle.tg_kept.specs.Runs.{LeavesAnsweredBatches}
use Rattle.tg_kept.proofs.RunLaws.{comes_back}
use Rattle.tg_kept.proofs.kept.Kept.serve_until_crash.Goals as goal

pub returns-in-Ok : goal.returns-in-Ok
returns-in-Ok g c =
    let batches = c.args.batches.now in
    let answered = c.serve_on.new.answered in
    let file = c.new-file.result in
    let left : LeavesAnsweredBatches g.D.Disk batches answered c.args.self.store file.disk = rw c.new-file.ensures c.serve_on.ensures in
    let back = c.in-Ok.ensures.back in
    record { back = comes_back g.D.Disk batches answered c.args.self.store file.disk c.crash_and_open.new.self left c.crash_and_open.ensures.clean back.settled back.says }
