use Rattle.std.proofs.Common.{◌≡◌, ◌∙◌, ◌++◌, ◌∷◌, ◌+◌, [], ℕ, ap, sym, take}
use Rattle.std.proofs.lemmas.List.{take_all, take_more}
use Rattle.tg_rights.specs.RightSet.{RightSet}
use Rattle.tg_model.specs.Graph.{listing_of}
use Rattle.tg_model.specs.Plain.{Edges}
use Rattle.tg_journal.specs.Inner.Showing.{edges_from}
use Rattle.tg_journal.proofs.ShowingLaws.{edges_from-push, put_behind}
use Rattle.tg_graph.specs.Heap.{content_of}
use Rattle.tg_store.proofs.PictureLaws.{all_below}
use Rattle.tg_store.proofs.store.snapshot.add_row.Goals as goal

pub loop-edge-preserved : goal.loop-edge-preserved
loop-edge-preserved g c =
    let row : Edges = c.as_slice-edge-items.result.now in
    let i : ℕ = c.loop-edge.edge-index in
    let e : ℕ × RightSet = c.edge-item.result in
    let from : ℕ = c.args.from in
    let more : take (i + 1) row ≡ take i row ++ e ∷ [] =
    take_more row i e c.loop-edge-test.true ∙ ap (λ (f : ℕ × RightSet). take i row ++ f ∷ []) (sym c.edge-item.is) in
    put_behind c.args.edges.now.items (edges_from from (take i row)) (record { from = from; to = e.0; label = e.1 }) (edges_from from (take (i + 1) row)) c.loop-edge.edges.items c.push.new.self.items
    c.loop-edge.invariant c.in_ok-push.ensures.items
    (ap (edges_from from) more ∙ edges_from-push from (take i row) e)

pub returns : goal.returns
returns g c made below =
    let row : Edges = c.as_slice-edge-items.result.now in
    let content = content_of c.args.heap.now in
    let is : row ≡ listing_of content.label made c.args.from =
    c.as_slice-edge-items.ensures ∙ c.in_ok-row.ensures made (all_below content made below) ∙ ap (λ (x : ℕ). listing_of content.label made x) c.requires.named in
    c.loop-edge.invariant ∙ ap (λ (r : Edges). c.args.edges.now.items ++ edges_from c.args.from r) (take_all c.loop-edge.edge-index row c.loop-edge-test.false ∙ is)
