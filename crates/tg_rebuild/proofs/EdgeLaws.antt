-- One edge more, and the graph that all vertices and edges make.
use Rattle.std.proofs.Common.{◌≡◌, ⊎_elim, ◌∙◌, ◌+◌, ◌<◌, ◌≤◌, ◌++◌, ◌∷◌, [], ℕ, List, length, get_or, take, refl, sym, ap, subst, arith}
use Rattle.std.proofs.lemmas.Bool.{cases_lt}
use Rattle.std.proofs.lemmas.List.{get_or_append_left, get_or_push}
use Rattle.tg_model.specs.declared.edge.Edge.{Edge}
use Rattle.tg_model.specs.Graph.{with_rights}
use Rattle.tg_model.specs.Opened.{label_in}
use Rattle.tg_model.specs.Walks.{Walk-within}
use Rattle.tg_model.proofs.LabelLaws.{label_in-push}
use Rattle.tg_word.specs.declared.Place.{Place}
use Rattle.tg_space.specs.SpaceList.{SpaceList}
use Rattle.tg_space.specs.SpaceTable.{IsSpaceTable}
use Rattle.tg_space.proofs.Tables.{table_list}
use Rattle.tg_rows.specs.Content.{Content, IsContent, IsNamed}
use Rattle.tg_rows.specs.Rows.{IsVertexAt}
use Rattle.tg_rows.proofs.Lookups.{name_of_vertex}
use Rattle.tg_graph.specs.Heap.{HeapState, KeepsPlaces, content_of}
use Rattle.tg_graph.specs.Standing.{IsContentOf}
use Rattle.tg_snapshot.specs.declared.vertex.ShownVertex.{ShownVertex}
use Rattle.tg_snapshot.specs.Snapshot.{Saved, IsSnapshot, JoinsShown, ShowsName, graph_shown, stored_in, value_shown}
use Rattle.tg_snapshot.proofs.GraphLaws.{shown_subject, shown_target}
use Rattle.tg_snapshot.proofs.ShownLaws.{nobody}
use Rattle.tg_rebuild.specs.Inner.Bare.{IsBare}
use Rattle.tg_rebuild.specs.Inner.Lines.{ArePlaced, IsLineOf}
use Rattle.tg_rebuild.specs.Inner.Raising.{AreMadeUpTo}
use Rattle.tg_rebuild.proofs.LineLaws.{line_in, line_there, stored_shown}

pub kept_self : (s : HeapState) → KeepsPlaces s s
kept_self s = record { subjects = refl; limits = refl; vertices = λ x p is. is }

pub kept_both : (old mid new : HeapState) → KeepsPlaces old mid → KeepsPlaces mid new → KeepsPlaces old new
kept_both old mid new first second = record {
  subjects = second.subjects ∙ first.subjects;
  limits = second.limits ∙ first.limits;
  vertices = λ x p is. second.vertices x p (first.vertices x p is);
}

-- no edge was added yet
pub joined_none : (c : Content) → IsBare c → IsContent c (IsNamed c) (label_in []) c.value
joined_none c bare = record { names = λ x. (λ is. is, λ is. is); labels = bare; values = λ x. refl }

-- one more was
pub joined_more : (es : List Edge) (at : ℕ) (e : Edge) (old mid new : Content) (x y : ℕ) → IsContent mid (IsNamed old) (label_in (take at es)) old.value → x ≡ e.from → y ≡ e.to → IsContent new (IsNamed mid) (with_rights mid.label x y e.label) mid.value → take (at + 1) es ≡ take at es ++ e ∷ [] → IsContent new (IsNamed old) (label_in (take (at + 1) es)) old.value
joined_more es at e old mid new x y was from to added more = record {
  names = λ a. (λ named. (was.names a).0 ((added.names a).0 named), λ is. (added.names a).1 ((was.names a).1 is));
  labels = λ a b.
      added.labels a b
      ∙ (λ i. with_rights (λ c d. was.labels c d i) (from i) (to i) e.label a b)
      ∙ sym (label_in-push (take at es) e a b)
      ∙ ap (λ (fs : List Edge). label_in fs a b) (sym more);
  values = λ a. added.values a ∙ was.values a;
}

-- an edge of the list joins vertices that are shown
pub shown_ends : (p : Saved) → IsSnapshot p → (es : List Edge) → es ≡ p.picture.edges → (k : ℕ) (e : Edge) → k < length es → e ≡ get_or es k e → JoinsShown p.vertices e
shown_ends p is es same k e inside here =
    let within : k < length p.picture.edges = omega (arith, inside, ap length same) in
    subst (JoinsShown p.vertices) (sym (here ∙ ap (λ (fs : List Edge). get_or fs k e) same)) ((is.edges k within).joins e)

-- a vertex is still where it was placed
pub vertex_at : (p : Saved) → IsSnapshot p → (old mid : HeapState) (vs : List ShownVertex) → vs ≡ p.vertices → (places : List Place) (name at : ℕ) (q : Place) → ArePlaced old.table.spaces p.vertices places → KeepsPlaces old mid → IsLineOf vs name at → IsVertexAt mid.table.spaces name (get_or places at q)
vertex_at p is old mid vs same places name at q placed kept line =
    let mine = line_in p is vs same name at line in
    kept.vertices name (get_or places at q)
    (subst (λ (n : ℕ). IsVertexAt old.table.spaces n (get_or places at q)) (mine.named nobody) (placed.each at nobody q mine.inside))

-- a content with all that is shown, and nothing but what was made, represents the graph that is shown
pub shown_stands : (p : Saved) → IsSnapshot p → (c : Content) → ((x : ℕ) → IsNamed c x → x < p.picture.made) → ((y : ℕ) → ShowsName p.vertices y → IsNamed c y) → ((x y : ℕ) → c.label x y ≡ label_in p.picture.edges x y) → ((x : ℕ) → IsNamed c x → c.value x ≡ stored_in p x) → IsContentOf c (graph_shown p)
shown_stands p is c made shown labels values = record {
  made = made;
  reachable = λ x reachable. shown x (Walk-within (ShowsName p.vertices) (shown_subject p is) (λ b d from edge. shown_target p is b d edge) x reachable);
  closed = λ x y named edge. shown y (shown_target p is x y edge);
  labels = λ x y named. labels x y;
  values = values;
}

-- one vertex more is where it is reported
pub place_more : (vs : List ShownVertex) (old new : SpaceList) (at : ℕ) (ps qs : List Place) (place : Place) → qs ≡ ps ++ place ∷ [] → length ps ≡ at → ((k : ℕ) (d : ShownVertex) (q : Place) → k < at → IsVertexAt old (get_or vs k d).name (get_or ps k q)) → ((x : ℕ) (q : Place) → IsVertexAt old x q → IsVertexAt new x q) → ((d : ShownVertex) → IsVertexAt new (get_or vs at d).name place) → (k : ℕ) (d : ShownVertex) (q : Place) → k < at + 1 → IsVertexAt new (get_or vs k d).name (get_or qs k q)
place_more vs old new at ps qs place more long before kept here k d q low =
    subst (λ (rs : List Place). IsVertexAt new (get_or vs k d).name (get_or rs k q)) (sym more)
    (⊎_elim
    (λ (below : k < at).
    let within : k < length ps = omega (arith, below, long) in
    subst (IsVertexAt new (get_or vs k d).name) (sym (get_or_append_left ps (place ∷ []) q k within)) (kept (get_or vs k d).name (get_or ps k q) (before k d q below)))
    (λ (above : at ≤ k).
    let same : at ≡ k = omega (arith, above, low) in
    subst (λ (j : ℕ). IsVertexAt new (get_or vs j d).name (get_or (ps ++ place ∷ []) j q)) same
    (subst (IsVertexAt new (get_or vs at d).name) (sym (get_or_push ps place q at long)) (here d)))
    (cases_lt k at))

module _ (p : Saved) (is : IsSnapshot p) (before mid : HeapState) (madeup : AreMadeUpTo p (length p.vertices) before) (joined : IsContent (content_of mid) (IsNamed (content_of before)) (label_in p.picture.edges) (content_of before).value) (places : List Place) (placed : ArePlaced before.table.spaces p.vertices places) (table : IsSpaceTable before.table) where
  -- each vertex that is shown is there
  pub all_named : (y : ℕ) → ShowsName p.vertices y → IsNamed (content_of mid) y
  all_named y shown =
      let nowhere : Place = record { space = 0; block = 0; cell = 0 } in
      let line = line_there p is y shown in
      let vertex = subst (λ (n : ℕ). IsVertexAt before.table.spaces n (get_or places line.0 nowhere)) (line.1.named nobody) (placed.each line.0 nobody nowhere line.1.inside) in
      (joined.names y).1 (name_of_vertex before.table.spaces before.payloads (table_list before.table table) y (get_or places line.0 nowhere) vertex)

  pub finished : IsContentOf (content_of mid) (graph_shown p)
  finished =
      shown_stands p is (content_of mid) (λ x named. madeup.base.made x ((joined.names x).0 named)) all_named joined.labels
      (λ x named. joined.values x ∙ madeup.base.values x ((joined.names x).0 named))

  pub all_stored : (y : ℕ) → ShowsName p.vertices y → (content_of mid).value y ≡ value_shown p.vertices y
  all_stored y shown = finished.values y (all_named y shown) ∙ stored_shown p is y shown
