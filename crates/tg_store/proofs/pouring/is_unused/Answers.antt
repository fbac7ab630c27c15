-- A row without an edge is that of a vertex that holds nothing.
use Rattle.std.proofs.Common.{◌∙◌, inl, inr, ℕ, ap, refl, sym, subst}
use Rattle.tg_model.specs.Graph.{HasEdge}
use Rattle.tg_graph.specs.Heap.{content_of}
use Rattle.tg_store.specs.Inner.Parking.{IsRowOf}
use Rattle.tg_store.proofs.ParkLaws.{listed_edges, nothing_listed, row_empty, row_some, something_listed}
use Rattle.tg_store.proofs.pouring.is_unused.Goals as goal

pub returns-then-not-is_empty-clause-in_use : goal.returns-then-not-is_empty-clause-in_use
returns-then-not-is_empty-clause-in_use g c =
    let content = content_of c.args.heap.now in
    let to = c.args.pouring.now.to.name in
    let row : IsRowOf content to c.in_ok-row.row = subst (λ (x : ℕ). IsRowOf content x c.in_ok-row.row) c.requires.to.named c.in_ok-row.ensures in
    λ _. inl (something_listed (content.label to) c.in_ok-row.row (listed_edges content to c.in_ok-row.row row) (row_some c.as_slice.result.now c.in_ok-row.row c.as_slice.ensures c.is_empty.result c.is_empty.ensures c.if-not-is_empty.true))

pub returns-in-Some-clause-in_use : goal.returns-in-Some-clause-in_use
returns-in-Some-clause-in_use g c = λ _. inr (subst (λ (x : ℕ). HasEdge (content_of c.args.heap.now).label x c.args.pouring.now.to.name) c.requires.from.named (c.in-Some.ensures.some.0 refl))

pub returns-clause-unused : goal.returns-clause-unused
returns-clause-unused g c =
    let content = content_of c.args.heap.now in
    let to = c.args.pouring.now.to.name in
    let row : IsRowOf content to c.in_ok-row.row = subst (λ (x : ℕ). IsRowOf content x c.in_ok-row.row) c.requires.to.named c.in_ok-row.ensures in
    λ _. record {
      empty = nothing_listed content to c.in_ok-row.row row (row_empty c.as_slice.result.now c.in_ok-row.row c.as_slice.ensures c.is_empty.result c.is_empty.ensures c.if-not-is_empty.false);
      apart = ap (λ (x : ℕ). content.label x to) (sym c.requires.from.named) ∙ sym c.in-None.ensures.rights;
    }
