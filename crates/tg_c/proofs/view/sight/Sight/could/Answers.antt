use Rattle.std.proofs.Common.{◌⊎◌, ◌<◌, ◌≤◌, IfSome, refl, sym, ◌∙◌, subst}
use Rattle.std.proofs.lemmas.Bool.{false≢true}
use Rattle.tg_model.specs.Graph.{IsReachable}
use Rattle.tg_could.specs.View.{IsViewOf}
use Rattle.tg_could.proofs.ReachedLaws.{unreached_row}
use Rattle.tg_c.proofs.SightLaws.{known_by, never_by_nobody}
use Rattle.tg_c.proofs.view.sight.Sight.could.Goals as goal

pub returns-then-is_unreached : goal.returns-then-is_unreached
returns-then-is_unreached c silent g sight =
    let is = c.is_unreached.ensures.0 c.if-is_unreached.true in
    let made : c.args.x < g.made = subst (λ n. c.args.x < n) sight.made is.0 in
    let unreached : ¬ IsReachable g c.args.x = λ reached. false≢true (sym is.1 ∙ (sight.reached c.args.x).1 reached) in
    (made, unreached, λ turns are y. unreached_row (λ p. ⊥) turns g c.args.x sight.sound made unreached are y)

pub returns-in_default : goal.returns-in_default
returns-in_default c silent g sight =
    let known : IsReachable g c.args.x ⊎ (g.made ≤ c.args.x) =
    known_by silent g c.args.self.now sight c.args.x (λ is. false≢true (sym c.if-is_unreached.false ∙ c.is_unreached.ensures.1 is)) in
    (known, never_by_nobody silent g sight.sound (sight.nobody c.in_default.is) c.args.x known c.args.right c.args.y)

pub returns-in-Never : goal.returns-in-Never
returns-in-Never c silent g sight =
    let known : IsReachable g c.args.x ⊎ (g.made ≤ c.args.x) =
    known_by silent g c.args.self.now sight c.args.x (λ is. false≢true (sym c.if-is_unreached.false ∙ c.is_unreached.ensures.1 is)) in
    let viewed = subst (λ o. IfSome o (λ seen. IsViewOf silent sight.shown seen.view)) c.in-Some.is sight.view in
    (known, sight.back c.args.x c.args.right c.args.y known (c.in-Never.ensures silent sight.shown sight.other viewed sight.picture refl))
