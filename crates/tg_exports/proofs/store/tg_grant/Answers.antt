use Rattle.tg_model.specs.declared.command.Command.TheVariants as command
use Rattle.tg_c.specs.Statuses.{TellsDone}
use Rattle.tg_c.proofs.CallLaws.{asks_told}
use Rattle.tg_exports.proofs.store.tg_grant.Goals as goal

pub returns-in-Ok : goal.returns-in-Ok
returns-in-Ok c = record {
  asked = asks_told (λ label. command.Grant label c.args.via c.args.target) c.args.store.now c.ask.new.place c.args.worker c.args.rights c.in-Ok.rights c.ask.result
      (TellsDone c.tell_done.result c.args.denial.now c.tell_done.new.denial) c.in-Ok.ensures.label c.ask.ensures.asked c.tell_done.ensures;
}
