use Rattle.tgstore.proofs.ResumedLaws.{race_ready, race_run}
use Rattle.tgstore.proofs.resuming.race_of.Goals as goal

pub returns-in-Ok-clause-after : goal.returns-in-Ok-clause-after
returns-in-Ok-clause-after g = race_run g.args.start.now g.args.history g.in-Ok.from g.in_ok-auditor.auditor g.race_after.result g.in-Ok.ensures g.race_after.ensures.on

pub returns-in-Ok-clause-ready : goal.returns-in-Ok-clause-ready
returns-in-Ok-clause-ready g =
    race_ready g.args.start.now g.args.history g.in-Ok.from g.in_ok-auditor.auditor g.race_after.result g.in-Ok.ensures g.in_ok-auditor.ensures.stands g.in_ok-auditor.ensures.place g.race_after.ensures.on g.race_after.ensures.acts
