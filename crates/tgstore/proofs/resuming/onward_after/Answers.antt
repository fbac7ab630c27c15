use Rattle.tgstore.proofs.ResumedLaws.{placed}
use Rattle.tgstore.proofs.resuming.onward_after.Goals as goal

pub returns-in-Ok-run_after-clause-ready : goal.returns-in-Ok-run_after-clause-ready
returns-in-Ok-run_after-clause-ready g = placed g.args.start.now g.args.history g.in-Ok-run_after.from g.in-Ok-run_after.ensures
