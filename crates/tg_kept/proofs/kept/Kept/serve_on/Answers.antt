use Rattle.tg_kept.proofs.RunLaws.{leaves_all}
use Rattle.tg_kept.proofs.kept.Kept.serve_on.Goals as goal

pub returns-in-Ok : goal.returns-in-Ok
returns-in-Ok g c =
    let kept = c.in-Ok.kept in
    let ended = c.in-Ok.ensures in
    rw c.into_file.ensures (leaves_all g.D.Disk c.args.batches.now c.serve_all.new.answered c.args.self.store kept.store kept.file.disk ended.all ended.served ended.left)
