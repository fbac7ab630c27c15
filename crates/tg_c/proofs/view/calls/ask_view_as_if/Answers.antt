use Rattle.std.proofs.Common.{◌≡◌, ◌∙◌, List, inr, map, subst, sym, ap, is_some}
use Rattle.std.proofs.lemmas.Result.{IfErr-weaker, IfOk-weaker}
use Rattle.tg_model.specs.declared.edge.Edge.{Edge}
use Rattle.tg_c.specs.Calls.{AreMet}
use Rattle.tg_c.specs.Forms.{edge_in}
use Rattle.tg_c.specs.View.{IsGlimpseAsIf, IsNoGlimpse, IsRefusedAsIf, IsSeenAsIf, asked_of_view}
use Rattle.tg_c.proofs.PolicyLaws.{same_right}
use Rattle.tg_c.proofs.view.calls.ask_view_as_if.Goals as goal

pub returns-clause-told : goal.returns-clause-told
returns-clause-told c =
    let s = c.deref.result.now in
    let asked = c.args.asked in
    let edges : List Edge = map edge_in c.args.as_if.now in
    let same : s ≡ c.args.view.now.handle.opened = c.deref.ensures ∙ c.in-Some-take.ensures.taken.1 in
    let met : AreMet (asked_of_view c.args.view.now c.args.as_if.now asked.right) =
    (ap is_some (sym c.in-Some.ensures), (c.in_ok-check_rights.ensures, (c.in-Some-take.ensures.taken.0, tt))) in
    IfOk-weaker c.glimpse_as_if-told.result (IsGlimpseAsIf s edges asked.x c.in-Some.right asked.y)
    (IsSeenAsIf c.args.view.now c.args.as_if.now asked.x asked.right asked.y)
    (λ glimpse is. record {
      met = met;
      glimpse_of = λ right of.
          subst (λ t. IsGlimpseAsIf t edges asked.x right asked.y glimpse) same
          (subst (λ r. IsGlimpseAsIf s edges asked.x r asked.y glimpse) (same_right asked.right c.in-Some.right right (sym c.in-Some.ensures) of) is);
    })
    c.glimpse_as_if-told.ensures.told

pub returns-clause-refused : goal.returns-clause-refused
returns-clause-refused c =
    let s = c.deref.result.now in
    let asked = c.args.asked in
    let edges : List Edge = map edge_in c.args.as_if.now in
    let same : s ≡ c.args.view.now.handle.opened = c.deref.ensures ∙ c.in-Some-take.ensures.taken.1 in
    let met : AreMet (asked_of_view c.args.view.now c.args.as_if.now asked.right) =
    (ap is_some (sym c.in-Some.ensures), (c.in_ok-check_rights.ensures, (c.in-Some-take.ensures.taken.0, tt))) in
    IfErr-weaker c.glimpse_as_if-told.result (IsNoGlimpse s edges) (IsRefusedAsIf c.args.view.now c.args.as_if.now asked.right)
    (λ why is. inr (met, subst (λ t. IsNoGlimpse t edges why) same is))
    c.glimpse_as_if-told.ensures.refused
