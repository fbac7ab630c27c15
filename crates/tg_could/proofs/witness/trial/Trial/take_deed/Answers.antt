use Rattle.tg_model.specs.declared.making.Making.TheVariants.{Object, Subject}
use Rattle.tg_could.proofs.TurnLaws.{made-by}
use Rattle.tg_could.proofs.witness.trial.Trial.take_deed.Goals as goal

pub returns-in-Create : goal.returns-in-Create
returns-in-Create c =
    made-by c.make.result c.args.edges.now c.args.self.now c.make.new.self c.args.worker Object c.in-Create.label (record { law = c.in-Create.law; state = c.in-Create.state })
    c.args.asked.now c.in-Create.is c.make.ensures

pub returns-in-Spawn : goal.returns-in-Spawn
returns-in-Spawn c =
    made-by c.make-in-Spawn.result c.args.edges.now c.args.self.now c.make-in-Spawn.new.self c.args.worker Subject c.in-Spawn.label (record { law = c.in-Spawn.law; state = c.in-Spawn.state })
    c.args.asked.now c.in-Spawn.is c.make-in-Spawn.ensures
