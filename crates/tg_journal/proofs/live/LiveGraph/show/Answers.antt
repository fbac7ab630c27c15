use Rattle.std.proofs.Common.{◌≡◌, ◌∙◌, ◌↔◌, ℕ, List, false, nat_eq, ap, sym, subst}
use Rattle.std.specs.Prelude.{EachIndex, IsTrue}
use Rattle.std.specs.List.{All}
use Rattle.indexmap.specs.IndexSet.{contains}
use Rattle.tg_rights.specs.RightSet.{is_none_held}
use Rattle.tg_model.specs.declared.edge.Edge.{Edge}
use Rattle.tg_model.specs.Graph.{IsReachable}
use Rattle.tg_model.specs.Opened.{label_in}
use Rattle.tg_model.specs.Picture.{Shown}
use Rattle.tg_snapshot.specs.Snapshot.{ComesAfter, EdgePrecedes}
use Rattle.tg_journal.specs.Inner.Showing.{AreListsOf}
use Rattle.tg_journal.specs.Live.{KeptGraph, graph_kept}
use Rattle.tg_journal.proofs.SavingLaws.{lists_of}
use Rattle.tg_journal.proofs.live.LiveGraph.show.Goals as goal

pub returns-clause-lists : goal.returns-clause-lists
returns-clause-lists c =
    let k : KeptGraph =
    record { subjects = c.self.inside.subjects.items; made = c.self.inside.made; limit = c.self.inside.max_vertices; vertices = c.self.inside.vertices } in
    let names = contains nat_eq c.in_ok-names.names in
    subst (λ (k : KeptGraph). AreListsOf (graph_kept k) c.new-picture.result c.in_ok-vertices.vertices.items) c.self.view_is
    (lists_of k names (subst (λ (k : KeptGraph). (y : ℕ) → IsTrue (names y) ↔ IsReachable (graph_kept k) y) (sym c.self.view_is) c.in_ok-names.ensures)
    c.new-picture.result c.in_ok-vertices.vertices.items
    (ap (λ (s : Shown). s.subjects) c.new-picture.ensures ∙ c.in_ok-subjects.ensures.items ∙ c.deref.ensures.value)
    (ap (λ (s : Shown). s.made) c.new-picture.ensures)
    (ap (λ (s : Shown). s.limit) c.new-picture.ensures)
    (λ x y. ap (λ (s : Shown). label_in s.edges x y) c.new-picture.ensures ∙ c.in_ok-edges.ensures.labels x y)
    c.in_ok-vertices.ensures.values)

pub returns-clause-ends : goal.returns-clause-ends
returns-clause-ends c =
    subst (λ (es : List Edge). EachIndex es (ComesAfter EdgePrecedes es)) (sym (ap (λ (s : Shown). s.edges) c.new-picture.ensures)) c.in_ok-edges.ensures.rise

pub returns-clause-held : goal.returns-clause-held
returns-clause-held c =
    subst (λ (es : List Edge). All (λ (e : Edge). is_none_held e.label ≡ false) es) (sym (ap (λ (s : Shown). s.edges) c.new-picture.ensures)) c.in_ok-edges.ensures.held
