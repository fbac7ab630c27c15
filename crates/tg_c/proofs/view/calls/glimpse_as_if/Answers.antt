use Rattle.std.proofs.Common.{◌∙◌, List, IfOk, IfErr, subst}
use Rattle.tg_model.specs.declared.edge.Edge.{Edge}
use Rattle.tg_c.specs.View.{IsGlimpseAsIf, IsNoGlimpse}
use Rattle.tg_c.proofs.view.calls.glimpse_as_if.Goals as goal

pub returns-clause-told : goal.returns-clause-told
returns-clause-told c =
    subst (λ (es : List Edge). IfOk c.could_as_if.result (IsGlimpseAsIf c.args.sight.now es c.args.asked.x c.args.asked.right c.args.asked.y))
    (c.as_slice.ensures.value ∙ c.in_ok-edges.ensures.edges.1) c.could_as_if.ensures.told

pub returns-clause-refused : goal.returns-clause-refused
returns-clause-refused c =
    subst (λ (es : List Edge). IfErr c.could_as_if.result (IsNoGlimpse c.args.sight.now es)) (c.as_slice.ensures.value ∙ c.in_ok-edges.ensures.edges.1) c.could_as_if.ensures.refused
