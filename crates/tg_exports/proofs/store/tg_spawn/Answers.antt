use Rattle.tg_model.specs.declared.making.Making.TheVariants.{Subject}
use Rattle.tg_c.specs.Statuses.{TellsNumber}
use Rattle.tg_c.proofs.CallLaws.{makes_told}
use Rattle.tg_exports.proofs.store.tg_spawn.Goals as goal

pub returns : goal.returns
returns c = record {
  made = makes_told Subject c.args.store.now c.make.new.place c.args.worker c.args.rights c.args.value.now c.make.result
      (TellsNumber c.tell_number.result c.args.name.now c.tell_number.new.out) c.make.ensures.made c.tell_number.ensures;
}
