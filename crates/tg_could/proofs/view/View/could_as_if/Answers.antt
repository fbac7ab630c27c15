use Rattle.std.proofs.Common.{List, subst, sym}
use Rattle.tg_model.specs.declared.edge.Edge.{Edge}
use Rattle.tg_could.specs.View.{IsCheckedSince}
use Rattle.tg_could.proofs.view.View.could_as_if.Goals as goal

pub returns : goal.returns
returns c silent shown g view picture never =
    c.could.ensures silent shown g
    (subst (λ (es : List Edge). IsCheckedSince silent shown c.args.self.now.facts es) (sym c.as_slice.ensures.value) (view c.if-not-self.false))
    picture never
