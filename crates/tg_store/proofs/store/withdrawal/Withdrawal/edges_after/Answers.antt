use Rattle.std.proofs.Common.{◌≡◌, ◌∙◌, ◌++◌, ◌∷◌, ◌+◌, [], ℕ, List, ap, get_or, sym, take}
use Rattle.std.proofs.lemmas.List.{take_all, take_more}
use Rattle.tg_rights.specs.RightSet.{RightSet}
use Rattle.tg_word.specs.declared.Place.{Place}
use Rattle.tg_graph.specs.Heap.{content_of}
use Rattle.tg_store.specs.Inner.Reaching.{edges_over}
use Rattle.tg_store.specs.Inner.Withdrawing.{content_left}
use Rattle.tg_store.proofs.HoldingLaws.{edges_over-push, edges_over-same}
use Rattle.tg_store.proofs.SavedLaws.{nobody}
use Rattle.tg_store.proofs.store.withdrawal.Withdrawal.edges_after.Goals.{in-Some+in_ok-push, in_default}
use Rattle.tg_store.proofs.store.withdrawal.Withdrawal.edges_after.Goals as goal

pub label_after-requires : goal.label_after-requires
label_after-requires g c = c.requires c.loop-vertex.vertex-index nobody c.loop-vertex-test.true

pub loop-vertex-preserved : goal.loop-vertex-preserved
loop-vertex-preserved g c =
    let vs : List (ℕ × Place) = c.args.vertices.now in
    let i = c.loop-vertex.vertex-index in
    let v : ℕ × Place = get_or vs i nobody in
    let y = c.args.self.now.target in
    let label = (content_left c.args.self.now (content_of c.args.heap.now)).label in
    let more : take i vs ++ v ∷ [] ≡ take (i + 1) vs = sym (take_more vs i nobody c.loop-vertex-test.true) in
    elim c.match-label_after.branch [
      | in-Some+in_ok-push w ↦
          ap (λ edges. edges.items) w.edges-is ∙ w.in_ok-push.ensures.items
          ∙ ap (λ (es : List (ℕ × RightSet)). es ++ (v.0, w.in-Some.label) ∷ []) c.loop-vertex.invariant
          ∙ sym (edges_over-push label y (take i vs) v w.in-Some.label (sym w.in-Some.is ∙ c.label_after.ensures)) ∙ ap (edges_over label y) more
      | in_default w ↦
          ap (λ edges. edges.items) w.edges-is ∙ c.loop-vertex.invariant
          ∙ sym (edges_over-same label y (take i vs) v (sym w.in_default.is ∙ c.label_after.ensures)) ∙ ap (edges_over label y) more
    ]

pub returns : goal.returns
returns g c = c.loop-vertex.invariant ∙ ap (edges_over (content_left c.args.self.now (content_of c.args.heap.now)).label c.args.self.now.target) (take_all _ _ c.loop-vertex-test.false)
