use Rattle.std.proofs.Common.{◌≡◌, ◌∙◌, ◌++◌, ◌∷◌, ◌+◌, [], ℕ, List, cond, nat_eq, ap, sym, subst, take}
use Rattle.std.proofs.lemmas.List.{take_more, take_all}
use Rattle.std.specs.Prelude.{EachIndex}
use Rattle.indexmap.specs.IndexSet.{contains}
use Rattle.tg_snapshot.specs.declared.vertex.ShownVertex.{ShownVertex}
use Rattle.tg_snapshot.specs.Snapshot.{ComesAfter, NamePrecedes, value_shown}
use Rattle.tg_journal.specs.declared.vertices.Vertex.{Vertex}
use Rattle.tg_journal.specs.Inner.Showing.{shown_if_stored}
use Rattle.tg_journal.specs.Live.{NamesFrom}
use Rattle.tg_journal.proofs.ShowingLaws.{among-push, names_rise, shown_among, values_among}
use Rattle.tg_journal.proofs.vertices.Vertices.shown.Goals as goal

pub loop-vertex-preserved : goal.loop-vertex-preserved
loop-vertex-preserved c =
    let vs : List Vertex = c.as_slice-vertex-items.result.now in
    let i : ℕ = c.loop-vertex.vertex-index in
    let v : Vertex = c.vertex-item.result in
    let names = contains nat_eq c.args.names.now in
    let more : take (i + 1) vs ≡ take i vs ++ v ∷ [] =
    take_more vs i v c.loop-vertex-test.true ∙ ap (λ (u : Vertex). take i vs ++ u ∷ []) (sym c.vertex-item.is) in
    c.in_ok-show_among.ensures
    ∙ ap (λ (us : List ShownVertex). us ++ cond (names v.name) (shown_if_stored v.name v.value) []) c.loop-vertex.invariant
    ∙ sym (among-push (λ v. shown_if_stored v.name v.value) names (take i vs) v)
    ∙ ap (shown_among names) (sym more)

pub returns-clause-values : goal.returns-clause-values
returns-clause-values c = λ y.
    let names = contains nat_eq c.args.names.now in
    let all = take_all _ _ c.loop-vertex-test.false ∙ c.as_slice-vertex-items.ensures.value ∙ c.self.view_is in
    let is : c.loop-vertex.shown.items ≡ shown_among names c.args.self.now = c.loop-vertex.invariant ∙ ap (shown_among names) all in
    ap (λ (us : List ShownVertex). value_shown us y) is ∙ values_among names 0 c.args.self.now y (subst (NamesFrom 0) c.self.view_is c.self.invariant)

pub returns-clause-rise : goal.returns-clause-rise
returns-clause-rise c =
    let names = contains nat_eq c.args.names.now in
    let all = take_all _ _ c.loop-vertex-test.false ∙ c.as_slice-vertex-items.ensures.value ∙ c.self.view_is in
    let is : c.loop-vertex.shown.items ≡ shown_among names c.args.self.now = c.loop-vertex.invariant ∙ ap (shown_among names) all in
    subst (λ (us : List ShownVertex). EachIndex us (ComesAfter NamePrecedes us)) (sym is)
    (names_rise names c.args.self.now (subst (NamesFrom 0) c.self.view_is c.self.invariant))
