use Rattle.std.proofs.Common.{◌∙◌, ℕ, List, ap, get_or, sym, subst}
use Rattle.std.proofs.lemmas.List.{get_or_default, take_all}
use Rattle.tg_word.specs.declared.Place.{Place}
use Rattle.tg_graph.specs.Heap.{content_of}
use Rattle.tg_store.specs.Inner.Reaching.{names_found}
use Rattle.tg_store.specs.Inner.Saving.{ShowsEdges}
use Rattle.tg_store.proofs.SavedLaws.{edges_shown, edges_shown-more, nobody, shows_edges}
use Rattle.tg_store.proofs.store.snapshot.edges_of.Goals as goal

pub add_row-requires : goal.add_row-requires
add_row-requires g c = c.requires.placed c.loop-vertex.vertex-index nobody c.loop-vertex-test.true

pub loop-vertex-preserved : goal.loop-vertex-preserved
loop-vertex-preserved g c made below =
    let vs : List (ℕ × Place) = c.args.vertices.now in
    let i : ℕ = c.loop-vertex.vertex-index in
    let v : ℕ × Place = get_or vs i nobody in
    edges_shown-more (content_of c.args.heap.now) vs i v c.loop-vertex-test.true (get_or_default vs i nobody v c.loop-vertex-test.true)
    made c.loop-vertex.edges.items c.add_row.new.edges.items (c.loop-vertex.invariant made below) (c.in_ok-add_row.ensures made below)

pub returns : goal.returns
returns g c made below =
    let content = content_of c.args.heap.now in
    let all = take_all c.loop-vertex.vertex-index c.args.vertices.now c.loop-vertex-test.false in
    subst (ShowsEdges content (names_found c.args.vertices.now)) (sym (c.loop-vertex.invariant made below ∙ ap (λ (vs : List (ℕ × Place)). edges_shown content made (names_found vs)) all))
    (shows_edges content c.args.vertices.now c.requires.rise made below)
