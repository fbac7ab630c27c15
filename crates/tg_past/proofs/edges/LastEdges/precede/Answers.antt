use Rattle.std.proofs.Common.{◌∙◌, refl, sym}
use Rattle.std.proofs.lemmas.Result.{on_ok_weaker}
use Rattle.tg_past.specs.declared.change.Change.TheVariants.{Adds, Loses, Nothing}
use Rattle.tg_past.proofs.ChangeLaws.{preceded}
use Rattle.tg_past.proofs.edges.LastEdges.precede.Goals as goal

pub returns-in-Adds : goal.returns-in-Adds
returns-in-Adds c =
    on_ok_weaker c.add.result
    (preceded c.args.self.now c.add.new.self c.args.entry.now (Adds c.in-Adds.edge) (sym c.in-Adds.is ∙ c.change_of.ensures)) c.add.ensures

pub returns-in-Loses : goal.returns-in-Loses
returns-in-Loses c =
    on_ok_weaker c.lose.result
    (preceded c.args.self.now c.lose.new.self c.args.entry.now (Loses c.in-Loses.edge) (sym c.in-Loses.is ∙ c.change_of.ensures)) c.lose.ensures

pub returns-in-Nothing : goal.returns-in-Nothing
returns-in-Nothing c = preceded c.args.self.now c.args.self.now c.args.entry.now Nothing (sym c.in-Nothing.is ∙ c.change_of.ensures) (λ label a b. refl)
