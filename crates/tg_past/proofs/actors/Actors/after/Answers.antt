use Rattle.std.proofs.Common.{◌≡◌, ◌∙◌, ◌++◌, ◌∷◌, ◌+◌, ◌<◌, ◌^◌, [], ap, sym, subst, take, arith}
use Rattle.std.proofs.lemmas.List.{take_all, take_more}
use Rattle.tg_journal.specs.History.{graph_after}
use Rattle.tg_journal.proofs.HistoryLaws.{IsLegal-take}
use Rattle.tg_past.specs.Inner.{HasActors}
use Rattle.tg_past.proofs.ActorLaws.{actors_more}
use Rattle.tg_past.proofs.actors.Actors.after.Goals as goal

pub loop-entry-preserved : goal.loop-entry-preserved
loop-entry-preserved c = λ g subjects made limit legal.
    let es = c.args.entries.now in
    let i = c.loop-entry.entry-index in
    let e = c.entry-item.result in
    let more : take (i + 1) es ≡ take i es ++ e ∷ [] =
    take_more es i e c.loop-entry-test.true ∙ ap (λ y. take i es ++ y ∷ []) (sym c.entry-item.is) in
    let fits : g.limit < 2 ^ 64 = omega (arith, limit, c.limit-limit.ensures, c.limit-limit.type_inv) in
    actors_more g (take i es) (take (i + 1) es) e c.loop-entry.actors c.follow.new.self more fits (IsLegal-take g es (i + 1) legal)
    (c.loop-entry.invariant g subjects made limit legal) c.in_ok-follow.ensures

pub returns : goal.returns
returns c = λ g subjects made limit legal.
    subst (λ es. HasActors (graph_after g es) c.loop-entry.actors) (take_all _ _ c.loop-entry-test.false) (c.loop-entry.invariant g subjects made limit legal)
