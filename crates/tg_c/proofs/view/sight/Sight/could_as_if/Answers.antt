use Rattle.std.proofs.Common.{◌⊎◌, ◌<◌, ◌≤◌, inl, inr, ⊎_elim, IfSome, refl, sym, ◌∙◌, subst}
use Rattle.std.proofs.lemmas.Bool.{false≢true}
use Rattle.tg_model.specs.Graph.{IsReachable}
use Rattle.tg_could.specs.View.{IsViewOf}
use Rattle.tg_could.specs.Reached.{JoinReached, with_edges}
use Rattle.tg_could.proofs.AsIfLaws.{reached_before, reached_then, supposed_sound}
use Rattle.tg_could.proofs.ReachedLaws.{unreached_row}
use Rattle.tg_c.proofs.SightLaws.{joined_seen, known_by, never_by_nobody, seen_joined}
use Rattle.tg_c.proofs.view.sight.Sight.could_as_if.Goals as goal

pub returns-then-not-join_seen-clause-refused : goal.returns-then-not-join_seen-clause-refused
returns-then-not-join_seen-clause-refused c silent g sight =
    inr (refl, λ all. false≢true (sym c.if-not-join_seen.true ∙ c.join_seen.ensures.1 (seen_joined silent g c.args.self.now sight c.args.supposed.now all)))

pub returns-then-is_unreached-clause-told : goal.returns-then-is_unreached-clause-told
returns-then-is_unreached-clause-told c silent g sight =
    let es = c.args.supposed.now in
    let all : JoinReached g es = joined_seen silent g c.args.self.now sight es (c.join_seen.ensures.0 c.if-not-join_seen.false) in
    let is = c.is_unreached.ensures.0 c.if-is_unreached.true in
    let made : c.args.x < g.made = subst (λ n. c.args.x < n) sight.made is.0 in
    let unreached : ¬ IsReachable (with_edges g es) c.args.x =
    λ reached. false≢true (sym is.1 ∙ (sight.reached c.args.x).1 (reached_before g sight.sound es all c.args.x reached)) in
    (all, (made, unreached, λ turns are y. unreached_row (λ p. ⊥) turns (with_edges g es) c.args.x (supposed_sound g sight.sound es all) made unreached are y))

pub returns-in_default-clause-told : goal.returns-in_default-clause-told
returns-in_default-clause-told c silent g sight =
    let es = c.args.supposed.now in
    let all : JoinReached g es = joined_seen silent g c.args.self.now sight es (c.join_seen.ensures.0 c.if-not-join_seen.false) in
    let known : IsReachable g c.args.x ⊎ (g.made ≤ c.args.x) =
    known_by silent g c.args.self.now sight c.args.x (λ is. false≢true (sym c.if-is_unreached.false ∙ c.is_unreached.ensures.1 is)) in
    let then : IsReachable (with_edges g es) c.args.x ⊎ (g.made ≤ c.args.x) = ⊎_elim (λ reached. inl (reached_then g sight.sound es all c.args.x reached)) inr known in
    (all, (then, never_by_nobody silent (with_edges g es) (supposed_sound g sight.sound es all) (sight.nobody c.in_default.is) c.args.x then c.args.right c.args.y))

pub returns-in-Never-clause-told : goal.returns-in-Never-clause-told
returns-in-Never-clause-told c silent g sight =
    let es = c.args.supposed.now in
    let all : JoinReached g es = joined_seen silent g c.args.self.now sight es (c.join_seen.ensures.0 c.if-not-join_seen.false) in
    let known : IsReachable g c.args.x ⊎ (g.made ≤ c.args.x) =
    known_by silent g c.args.self.now sight c.args.x (λ is. false≢true (sym c.if-is_unreached.false ∙ c.is_unreached.ensures.1 is)) in
    let then : IsReachable (with_edges g es) c.args.x ⊎ (g.made ≤ c.args.x) = ⊎_elim (λ reached. inl (reached_then g sight.sound es all c.args.x reached)) inr known in
    let viewed = subst (λ o. IfSome o (λ seen. IsViewOf silent sight.shown seen.view)) c.in-Some.is sight.view in
    (all, (then, sight.back_with es all c.args.x c.args.right c.args.y known (c.in-Never.ensures silent sight.shown sight.other viewed sight.picture refl)))

pub returns-in-Perhaps-clause-told : goal.returns-in-Perhaps-clause-told
returns-in-Perhaps-clause-told c silent g sight =
    let es = c.args.supposed.now in
    let all : JoinReached g es = joined_seen silent g c.args.self.now sight es (c.join_seen.ensures.0 c.if-not-join_seen.false) in
    let known : IsReachable g c.args.x ⊎ (g.made ≤ c.args.x) =
    known_by silent g c.args.self.now sight c.args.x (λ is. false≢true (sym c.if-is_unreached.false ∙ c.is_unreached.ensures.1 is)) in
    (all, ⊎_elim (λ reached. inl (reached_then g sight.sound es all c.args.x reached)) inr known)
