use Rattle.std.proofs.Common.{refl}
use Rattle.tg_script.proofs.run.Run.answer.Goals as goal

pub returns-in-Create : goal.returns-in-Create
returns-in-Create g c = rw c.in-Create.is (record { answered = c.make.ensures.answered; entered = record { entry = c.make.ensures.entered.entry; held = λ holds. c.make.ensures.entered.held refl } })

pub returns-in-Spawn : goal.returns-in-Spawn
returns-in-Spawn g c = rw c.in-Spawn.is (record { answered = c.make-in-Spawn.ensures.answered; entered = record { entry = c.make-in-Spawn.ensures.entered.entry; held = λ holds. c.make-in-Spawn.ensures.entered.held refl } })

pub returns-in-Plain : goal.returns-in-Plain
returns-in-Plain g c = rw c.in-Plain.is (record { answered = c.apply.ensures.answered; entered = c.apply.ensures.entered })

pub returns-in-Full : goal.returns-in-Full
returns-in-Full g c = rw c.in-Full.is (record { answered = c.collect_all.ensures.answered; entered = record { entry = c.collect_all.ensures.entered.entry; held = λ holds. c.collect_all.ensures.entered.held refl } })

pub returns-in-Minor : goal.returns-in-Minor
returns-in-Minor g c = rw c.in-Minor.is (record { answered = c.collect_nurseries.ensures.answered; entered = record { entry = c.collect_nurseries.ensures.entered.entry; held = λ holds. c.collect_nurseries.ensures.entered.held refl } })
