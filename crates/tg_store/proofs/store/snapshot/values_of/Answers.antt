use Rattle.std.proofs.Common.{◌∙◌, ℕ, List, ap, get_or, sym, subst}
use Rattle.std.proofs.lemmas.List.{get_or_default, take_all}
use Rattle.tg_word.specs.declared.Place.{Place}
use Rattle.tg_graph.specs.Heap.{content_of}
use Rattle.tg_store.specs.Inner.Reaching.{names_found}
use Rattle.tg_store.specs.Inner.Saving.{ShowsValues}
use Rattle.tg_store.proofs.SavedLaws.{nobody, shows_values, values_shown, values_shown-more}
use Rattle.tg_store.proofs.store.snapshot.values_of.Goals as goal

pub shown_at-requires : goal.shown_at-requires
shown_at-requires g c = c.requires.placed c.loop-vertex.vertex-index nobody c.loop-vertex-test.true

pub loop-vertex-preserved : goal.loop-vertex-preserved
loop-vertex-preserved g c =
    let vs : List (ℕ × Place) = c.args.vertices.now in
    let i : ℕ = c.loop-vertex.vertex-index in
    let v : ℕ × Place = get_or vs i nobody in
    values_shown-more (content_of c.args.heap.now) vs i v c.loop-vertex-test.true (get_or_default vs i nobody v c.loop-vertex-test.true)
    c.in_ok-shown_at.field-0 c.loop-vertex.shown.items c.push.new.self.items
    c.in_ok-shown_at.ensures.name c.in_ok-shown_at.ensures.value c.loop-vertex.invariant c.in_ok-push.ensures.items

pub returns : goal.returns
returns g c =
    let content = content_of c.args.heap.now in
    let all = take_all c.loop-vertex.vertex-index c.args.vertices.now c.loop-vertex-test.false in
    subst (ShowsValues content (names_found c.args.vertices.now)) (sym (c.loop-vertex.invariant ∙ ap (λ (vs : List (ℕ × Place)). values_shown content (names_found vs)) all))
    (shows_values content c.args.vertices.now c.requires.rise)
