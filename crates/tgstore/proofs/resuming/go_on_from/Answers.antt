use Rattle.tgstore.proofs.ResumedLaws.{resumed}
use Rattle.tgstore.proofs.resuming.go_on_from.Goals as goal

pub returns-in-Ok-clause-resumed : goal.returns-in-Ok-clause-resumed
returns-in-Ok-clause-resumed g c =
    resumed (g.F.Read.remaining c.args.file) c.args.start.now c.in-Ok.history c.onward_after.result c.in-Ok.ensures.text c.in-Ok.ensures.met c.onward_after.ensures.after
