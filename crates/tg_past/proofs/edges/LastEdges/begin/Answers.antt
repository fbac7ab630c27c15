use Rattle.std.proofs.Common.{◌≡◌, ◌∙◌, ◌++◌, ◌∷◌, ◌+◌, [], ap, sym, take}
use Rattle.std.proofs.lemmas.List.{take_all, take_more}
use Rattle.tg_past.specs.Inner.{left_after}
use Rattle.tg_past.proofs.ChangeLaws.{begins_more, begins_none, joined}
use Rattle.tg_past.proofs.edges.LastEdges.begin.Goals as goal

pub loop-edge-init : goal.loop-edge-init
loop-edge-init c = begins_none c.args.self.now

pub loop-edge-preserved : goal.loop-edge-preserved
loop-edge-preserved c =
    let es = c.args.first.now in
    let i = c.loop-edge.edge-index in
    let e = c.edge-item.result in
    let more : take (i + 1) es ≡ take i es ++ e ∷ [] =
    take_more es i e c.loop-edge-test.true ∙ ap (λ y. take i es ++ y ∷ []) (sym c.edge-item.is) in
    begins_more c.args.self.now c.loop-edge.self c.add.new.self (take i es) (take (i + 1) es) e more c.in_ok-add.ensures c.loop-edge.invariant

pub returns : goal.returns
returns c = λ label a b.
    c.loop-edge.invariant label a b ∙ ap (λ es. left_after c.args.self.now (joined label es) a b) (take_all _ _ c.loop-edge-test.false)
