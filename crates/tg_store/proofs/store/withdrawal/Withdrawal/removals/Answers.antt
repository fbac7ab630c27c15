use Rattle.std.proofs.Common.{◌≡◌, ◌∙◌, ◌++◌, ◌∷◌, ◌+◌, [], ℕ, List, ap, get_or, subst, sym, take}
use Rattle.std.specs.List.{All}
use Rattle.std.proofs.lemmas.List.{take_all, take_more}
use Rattle.tg_rights.specs.RightSet.{RightSet, label_of}
use Rattle.tg_word.specs.declared.Place.{Place}
use Rattle.tg_rows.specs.Rows.{IsVertexAt}
use Rattle.tg_graph.specs.Heap.{content_of}
use Rattle.tg_store.specs.Holding.{common}
use Rattle.tg_store.specs.Inner.Reaching.{edges_over}
use Rattle.tg_store.proofs.HoldingLaws.{edges_over-push, edges_over-same}
use Rattle.tg_store.proofs.LeftLaws.{given_found}
use Rattle.tg_store.proofs.SavedLaws.{nobody}
use Rattle.tg_store.proofs.store.withdrawal.Withdrawal.removals.Goals.{in-Some+in_ok-push, in_default}
use Rattle.tg_store.proofs.store.withdrawal.Withdrawal.removals.Goals as goal

pub shared_by-requires : goal.shared_by-requires
shared_by-requires g c =
    let placed = subst (All (λ (v : ℕ × Place). IsVertexAt c.args.heap.now.table.spaces v.0 v.1)) (sym c.as_slice-giver-items.ensures.value) c.requires in
    let vertex = placed c.loop-giver.giver-index nobody c.loop-giver-test.true in
    vertex.object

pub loop-giver-preserved : goal.loop-giver-preserved
loop-giver-preserved g c =
    let vs : List (ℕ × Place) = c.as_slice-giver-items.result.now in
    let i = c.loop-giver.giver-index in
    let v : ℕ × Place = get_or vs i nobody in
    let y = c.args.self.now.target in
    let rights = c.args.self.now.rights in
    let label = (content_of c.args.heap.now).label in
    let shared : ℕ → ℕ → RightSet = λ a b. common rights (label a b) in
    let placed = subst (All (λ (x : ℕ × Place). IsVertexAt c.args.heap.now.table.spaces x.0 x.1)) (sym c.as_slice-giver-items.ensures.value) c.requires in
    let vertex = placed i nobody c.loop-giver-test.true in
    let more : take i vs ++ v ∷ [] ≡ take (i + 1) vs = sym (take_more vs i nobody c.loop-giver-test.true) in
    let told : c.shared_by.result ≡ label_of (shared v.0 y) = c.shared_by.ensures ∙ ap (λ (x : ℕ). label_of (shared x y)) vertex.named in
    elim c.match-shared_by.branch [
      | in-Some+in_ok-push w ↦
          ap (λ edges. edges.items) w.removals-is ∙ w.in_ok-push.ensures.items
          ∙ ap (λ (es : List (ℕ × RightSet)). es ++ (v.0, w.in-Some.shared) ∷ []) c.loop-giver.invariant
          ∙ sym (edges_over-push shared y (take i vs) v w.in-Some.shared (sym w.in-Some.is ∙ told)) ∙ ap (edges_over shared y) more
      | in_default w ↦
          ap (λ edges. edges.items) w.removals-is ∙ c.loop-giver.invariant
          ∙ sym (edges_over-same shared y (take i vs) v (sym w.in_default.is ∙ told)) ∙ ap (edges_over shared y) more
    ]

pub returns : goal.returns
returns g c =
    let shared : ℕ → ℕ → RightSet = λ a b. common c.args.self.now.rights ((content_of c.args.heap.now).label a b) in
    c.loop-giver.invariant ∙ ap (edges_over shared c.args.self.now.target) (take_all _ _ c.loop-giver-test.false ∙ c.as_slice-giver-items.ensures.value)
    ∙ given_found (content_of c.args.heap.now).label c.args.self.now.target c.args.self.now.rights c.args.self.now.givers.items
