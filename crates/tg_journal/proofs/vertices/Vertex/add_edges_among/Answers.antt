use Rattle.std.proofs.Common.{◌≡◌, ◌∙◌, ◌++◌, ◌∷◌, ◌+◌, [], ℕ, ap, sym, take}
use Rattle.std.proofs.lemmas.List.{take_more}
use Rattle.tg_rights.specs.RightSet.{RightSet}
use Rattle.tg_model.specs.Plain.{Edges}
use Rattle.tg_journal.specs.Inner.Showing.{edges_from}
use Rattle.tg_journal.proofs.ShowingLaws.{edges_from-push, put_behind}
use Rattle.tg_journal.proofs.vertices.Vertex.add_edges_among.Goals as goal

pub loop-edge-preserved : goal.loop-edge-preserved
loop-edge-preserved c =
    let row : Edges = c.as_slice-edge-items.result.now in
    let i : ℕ = c.loop-edge.edge-index in
    let e : ℕ × RightSet = c.edge-item.result in
    let name : ℕ = c.args.self.now.name in
    let more : take (i + 1) row ≡ take i row ++ e ∷ [] =
    take_more row i e c.loop-edge-test.true ∙ ap (λ (f : ℕ × RightSet). take i row ++ f ∷ []) (sym c.edge-item.is) in
    put_behind c.args.edges.now.items (edges_from name (take i row)) (record { from = name; to = e.0; label = e.1 }) (edges_from name (take (i + 1) row)) c.loop-edge.edges.items c.push.new.self.items
    c.loop-edge.invariant c.in_ok-push.ensures.items
    (ap (edges_from name) more ∙ edges_from-push name (take i row) e)
