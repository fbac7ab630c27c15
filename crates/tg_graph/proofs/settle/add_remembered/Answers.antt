use Rattle.std.proofs.Common.{◌∷◌, ◌++◌, [], List, map, take, sym, ap, ◌∙◌}
use Rattle.std.proofs.lemmas.List.{append_assoc}
use Rattle.tg_space.specs.declared.root.Root.{Root}
use Rattle.tg_space.specs.declared.root.Root.TheVariants.{Remembered}
use Rattle.tg_graph.proofs.KeptWritten.{mapped_more}
use Rattle.tg_graph.proofs.settle.add_remembered.Goals as goal

pub loop-i-preserved : goal.loop-i-preserved
loop-i-preserved c =
    let places = c.args.remembered.now.places in
    let done = map (λ p. Remembered p) (take c.loop-i.i places) in
    let one : List Root = Remembered c.nth.result ∷ [] in
    c.in_ok-push.ensures.items
    ∙ ap (λ (roots : List Root). roots ++ one) c.loop-i.invariant
    ∙ append_assoc c.args.roots.now.items done one
    ∙ ap (λ (roots : List Root). c.args.roots.now.items ++ roots) (sym (mapped_more (λ p. Remembered p) places c.loop-i.i c.nth.result c.nth.ensures))
