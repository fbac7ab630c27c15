use Rattle.std.proofs.Common.{◌≡◌, ◌∙◌, ◌++◌, ◌∷◌, ◌+◌, [], ℕ, List, cond, false, nat_eq, ap, sym, subst, take}
use Rattle.std.proofs.lemmas.List.{take_more, take_all}
use Rattle.std.proofs.lemmas.List.Elements.{All-push}
use Rattle.std.specs.Prelude.{EachIndex, IsTrue}
use Rattle.std.specs.List.{All}
use Rattle.indexmap.specs.IndexSet.{contains}
use Rattle.tg_rights.specs.RightSet.{is_none_held}
use Rattle.tg_model.specs.declared.edge.Edge.{Edge}
use Rattle.tg_model.specs.Opened.{label_in}
use Rattle.tg_model.specs.Plain.{IsRisingRow}
use Rattle.tg_snapshot.specs.Snapshot.{ComesAfter, EdgePrecedes}
use Rattle.tg_journal.specs.declared.vertices.Vertex.{Vertex}
use Rattle.tg_journal.specs.Inner.Showing.{edges_from}
use Rattle.tg_journal.specs.Live.{NamesFrom}
use Rattle.tg_journal.proofs.ShowingLaws.{RowsRise, among-push, edges_among, ends_follow, ends_held, labels_among}
use Rattle.tg_journal.proofs.vertices.Vertices.edges.Goals as goal

pub loop-vertex-preserved : goal.loop-vertex-preserved
loop-vertex-preserved c =
    let vs : List Vertex = c.as_slice-vertex-items.result.now in
    let i : ℕ = c.loop-vertex.vertex-index in
    let v : Vertex = c.vertex-item.result in
    let names = contains nat_eq c.args.names.now in
    let more : take (i + 1) vs ≡ take i vs ++ v ∷ [] =
    take_more vs i v c.loop-vertex-test.true ∙ ap (λ (u : Vertex). take i vs ++ u ∷ []) (sym c.vertex-item.is) in
    record {
      edges =
          c.in_ok-add_edges_among.ensures.edges
          ∙ ap (λ (us : List Edge). us ++ cond (names v.name) (edges_from v.name v.row) []) c.loop-vertex.invariant.edges
          ∙ sym (among-push (λ v. edges_from v.name v.row) names (take i vs) v)
          ∙ ap (edges_among names) (sym more);
      rows = subst (RowsRise names) (sym more)
          (All-push (λ (v : Vertex). IsTrue (names v.name) → IsRisingRow v.row) (take i vs) v c.loop-vertex.invariant.rows c.in_ok-add_edges_among.ensures.row);
    }

pub returns-clause-labels : goal.returns-clause-labels
returns-clause-labels c = λ x y.
    let names = contains nat_eq c.args.names.now in
    let all = take_all _ _ c.loop-vertex-test.false ∙ c.as_slice-vertex-items.ensures.value ∙ c.self.view_is in
    let is : c.loop-vertex.edges.items ≡ edges_among names c.args.self.now = c.loop-vertex.invariant.edges ∙ ap (edges_among names) all in
    let rise = subst (NamesFrom 0) c.self.view_is c.self.invariant in
    let rows = subst (RowsRise names) all c.loop-vertex.invariant.rows in
    ap (λ (es : List Edge). label_in es x y) is ∙ labels_among names 0 c.args.self.now x y rise rows

pub returns-clause-rise : goal.returns-clause-rise
returns-clause-rise c =
    let names = contains nat_eq c.args.names.now in
    let all = take_all _ _ c.loop-vertex-test.false ∙ c.as_slice-vertex-items.ensures.value ∙ c.self.view_is in
    let is : c.loop-vertex.edges.items ≡ edges_among names c.args.self.now = c.loop-vertex.invariant.edges ∙ ap (edges_among names) all in
    let rise = subst (NamesFrom 0) c.self.view_is c.self.invariant in
    let rows = subst (RowsRise names) all c.loop-vertex.invariant.rows in
    subst (λ (es : List Edge). EachIndex es (ComesAfter EdgePrecedes es)) (sym is) (ends_follow names c.args.self.now rise rows)

pub returns-clause-held : goal.returns-clause-held
returns-clause-held c =
    let names = contains nat_eq c.args.names.now in
    let all = take_all _ _ c.loop-vertex-test.false ∙ c.as_slice-vertex-items.ensures.value ∙ c.self.view_is in
    let is : c.loop-vertex.edges.items ≡ edges_among names c.args.self.now = c.loop-vertex.invariant.edges ∙ ap (edges_among names) all in
    let rise = subst (NamesFrom 0) c.self.view_is c.self.invariant in
    let rows = subst (RowsRise names) all c.loop-vertex.invariant.rows in
    subst (λ (es : List Edge). All (λ (e : Edge). is_none_held e.label ≡ false) es) (sym is) (ends_held names c.args.self.now rise rows)
