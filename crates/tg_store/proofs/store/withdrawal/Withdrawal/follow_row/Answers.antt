use Rattle.std.proofs.Common.{◌≡◌, ◌∙◌, ◌==◌, ◌&&◌, ◌<◌, ◌+◌, ℕ, List, cond, not, false, refl, sym, ap, subst, arith, get_or, length}
use Rattle.std.specs.Prelude.{is_some}
use Rattle.std.specs.List.{Contains, list_any}
use Rattle.tg_rights.specs.RightSet.{RightSet, is_none_held, minus}
use Rattle.tg_model.specs.Graph.{HasEdge, listing_of}
use Rattle.tg_rows.proofs.Listing.{listed_from}
use Rattle.tg_graph.specs.Heap.{content_of}
use Rattle.tg_store.specs.Inner.Reaching.{IsFoundIn, names_found}
use Rattle.tg_store.specs.Inner.Withdrawing.{content_left}
use Rattle.tg_store.specs.Withdrawing.{labels_left}
use Rattle.tg_store.proofs.HoldingLaws.{label_there, true_not_false}
use Rattle.tg_store.proofs.LeftLaws.{FollowsLeft, left_begins, left_found, left_goes, left_skips, not_false_true}
use Rattle.tg_store.proofs.PictureLaws.{all_below}
use Rattle.tg_store.proofs.WithdrawLaws.{edge_before}
use Rattle.tg_store.proofs.store.withdrawal.Withdrawal.follow_row.Goals as goal
use Rattle.tg_store.proofs.store.withdrawal.Withdrawal.follow_row.Goals.{After-as_slice-edge-items, then-is_some+in_ok-follow, else-is_some}

row_is : (g : _) (c : After-as_slice-edge-items g) → c.as_slice-edge-items.result.now ≡ listing_of (content_of c.args.heap.now).label c.args.found.now.made c.args.vertex.0
row_is g c =
    let content = content_of c.args.heap.now in
    c.as_slice-edge-items.ensures ∙ c.in_ok-row.ensures c.args.found.now.made (all_below content c.args.found.now.made c.requires.below) ∙ ap (λ (x : ℕ). listing_of content.label c.args.found.now.made x) c.requires.vertex.named

-- what a row lists is there, with its label
read : (label : ℕ → ℕ → RightSet) (made from : ℕ) (row : List (ℕ × RightSet)) (n : ℕ) (e : ℕ × RightSet) → row ≡ listing_of label made from → n < length row → e ≡ get_or row n e → (e.0 < made) × (e.1 ≡ label from e.0) × (is_none_held e.1 ≡ false)
read label made from row n e is low here = listed_from label made from e (subst (λ (xs : List (ℕ × RightSet)). Contains xs e) is (n, low, sym here))

pub loop-edge-init : goal.loop-edge-init
loop-edge-init g c = record {
  found = c.requires.found;
  made = refl;
  follows = left_begins (content_left c.args.self.now (content_of c.args.heap.now)).label c.args.vertex.0 c.as_slice-edge-items.result.now c.args.found.now;
}

pub follow-requires-clause-edge : goal.follow-requires-clause-edge
follow-requires-clause-edge g c =
    let label = (content_of c.args.heap.now).label in
    let told = read label c.args.found.now.made c.args.vertex.0 c.as_slice-edge-items.result.now c.loop-edge.edge-index c.edge-item.result (row_is g (goal.at.follow-requires-clause-edge g c).After-as_slice-edge-items) c.loop-edge-test.true c.edge-item.is in
    subst (λ (k : ℕ). HasEdge label k c.edge-item.result.0) (sym c.requires.vertex.named) (ap is_none_held (sym told.1) ∙ told.2)

pub follow-requires-clause-below : goal.follow-requires-clause-below
follow-requires-clause-below g c =
    let label = (content_of c.args.heap.now).label in
    let told = read label c.args.found.now.made c.args.vertex.0 c.as_slice-edge-items.result.now c.loop-edge.edge-index c.edge-item.result (row_is g (goal.at.follow-requires-clause-below g c).After-as_slice-edge-items) c.loop-edge-test.true c.edge-item.is in
    subst (λ (k : ℕ). c.edge-item.result.0 < k) (sym c.loop-edge.invariant.made) told.0

pub loop-edge-preserved : goal.loop-edge-preserved
loop-edge-preserved g c =
    let w = c.args.self.now in
    let from = c.args.vertex.0 in
    let row = c.as_slice-edge-items.result.now in
    let whole = (content_of c.args.heap.now).label in
    let label = (content_left w (content_of c.args.heap.now)).label in
    let e = c.edge-item.result in
    let i = c.loop-edge.edge-index in
    let was = c.loop-edge.invariant in
    let told = read whole c.args.found.now.made from row i e (row_is g (goal.at.loop-edge-preserved g c).After-as_slice-edge-items) c.loop-edge-test.true c.edge-item.is in
    let gives = (e.0 == w.target) && list_any (λ x. x == from) (names_found w.givers.items) in
    let shown : c.is_some.result ≡ not (is_none_held (label from e.0)) =
    c.is_some.ensures ∙ ap is_some c.left.ensures ∙ label_there (labels_left (λ _ _. e.1) w.target w.rights (names_found w.givers.items) from e.0)
    ∙ ap (λ (s : RightSet). not (is_none_held (cond gives (minus s w.rights) s))) told.1 in
    elim c.if-is_some.branch [
      | then-is_some+in_ok-follow b ↦ record {
        found = subst (IsFoundIn c.args.heap.now.table.spaces) (sym b.found-is) b.in_ok-follow.ensures.found;
        made = ap (λ f. f.made) b.found-is ∙ b.in_ok-follow.ensures.made ∙ was.made;
        follows = subst (λ f. FollowsLeft label from row c.args.found.now f (i + 1)) (sym b.found-is)
            (left_goes label from row c.args.found.now c.loop-edge.found i e c.loop-edge-test.true c.edge-item.is was.follows b.follow.new.self
            (true_not_false (is_none_held (label from e.0)) (sym shown ∙ b.if-is_some.true)) b.in_ok-follow.ensures.more);
      }
      | else-is_some b ↦ record {
        found = subst (IsFoundIn c.args.heap.now.table.spaces) (sym b.found-is) was.found;
        made = ap (λ f. f.made) b.found-is ∙ was.made;
        follows = subst (λ f. FollowsLeft label from row c.args.found.now f (i + 1)) (sym b.found-is)
            (left_skips label from row c.args.found.now c.loop-edge.found i e c.loop-edge-test.true c.edge-item.is was.follows
            (not_false_true (is_none_held (label from e.0)) (sym shown ∙ b.if-is_some.false)));
      }
    ]

pub returns : goal.returns
returns g c =
    let w = c.args.self.now in
    let from = c.args.vertex.0 in
    let row = c.as_slice-edge-items.result.now in
    let whole = (content_of c.args.heap.now).label in
    let label = (content_left w (content_of c.args.heap.now)).label in
    record {
      found = c.loop-edge.invariant.found;
      made = c.loop-edge.invariant.made;
      more = left_found label from row c.args.found.now whole c.loop-edge.found c.loop-edge.edge-index c.args.found.now.made (omega (arith, c.loop-edge-test.false)) (row_is g (goal.at.returns g c).After-as_slice-edge-items)
          (λ y edge. edge_before whole w.target w.rights (names_found w.givers.items) from y edge) (λ y edge. c.requires.below.targets from y edge) c.loop-edge.invariant.follows;
    }
