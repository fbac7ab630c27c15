use Rattle.std.proofs.Common.{ℕ, subst}
use Rattle.std.specs.Prelude.{OnOk}
use Rattle.tg_model.specs.Graph.{with_rights}
use Rattle.tg_rows.specs.Content.{IsContent, IsNamed}
use Rattle.tg_graph.specs.Heap.{content_of, name_of}
use Rattle.tg_store.proofs.pouring.give_edge.Goals as goal

pub returns-clause-given : goal.returns-clause-given
returns-clause-given g c =
    let old = content_of c.args.heap.now in
    let new = content_of c.add_edge_as.new.self in
    subst (λ (x : ℕ). OnOk c.add_edge_as.result (IsContent new (IsNamed old) (with_rights old.label x c.args.edge.0 c.args.edge.1) old.value)) c.requires.to.named
    (subst (λ (y : ℕ). OnOk c.add_edge_as.result (IsContent new (IsNamed old) (with_rights old.label (name_of c.args.heap.now c.args.pouring.now.to.place) y c.args.edge.1) old.value))
    c.in-Some.ensures.place.named c.add_edge_as.ensures.added)
