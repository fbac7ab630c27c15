-- Each edge that is given is one more of the row.
use Rattle.std.proofs.Common.{◌≡◌, ◌∙◌, ℕ, List, ap, subst, sym, take, arith}
use Rattle.std.proofs.lemmas.List.{take_all}
use Rattle.tg_rights.specs.RightSet.{RightSet, is_none_held}
use Rattle.tg_model.specs.Graph.{HasEdge}
use Rattle.tg_rows.specs.Rows.{IsVertexAt}
use Rattle.tg_graph.specs.Heap.{HeapState, KeepsPlaces, content_of}
use Rattle.tg_graph.proofs.StandingLaws.{IsSameContent-self}
use Rattle.tg_store.specs.Inner.Parking.{IsGiven, IsTakenBack}
use Rattle.tg_store.proofs.FillLaws.{given_others}
use Rattle.tg_store.proofs.ParkLaws.{given_again, gives_more, keeps_both, keeps_self, subject_kept}
use Rattle.tg_store.proofs.pouring.pour.Goals as goal

pub loop-edge-init : goal.loop-edge-init
loop-edge-init g c = record { given = IsSameContent-self (content_of c.args.heap.now); kept = keeps_self c.args.heap.now }

pub give_edge-requires-clause-worker : goal.give_edge-requires-clause-worker
give_edge-requires-clause-worker g c = subject_kept c.args.heap.now c.loop-edge.heap c.args.pouring.now.worker c.loop-edge.invariant.kept c.requires.worker

pub give_edge-requires-clause-from : goal.give_edge-requires-clause-from
give_edge-requires-clause-from g c = c.loop-edge.invariant.kept.vertices c.args.pouring.now.from.name c.args.pouring.now.from.place c.requires.from

pub give_edge-requires-clause-to : goal.give_edge-requires-clause-to
give_edge-requires-clause-to g c = c.loop-edge.invariant.kept.vertices c.args.pouring.now.to.name c.args.pouring.now.to.place c.requires.to

pub give_edge-requires-clause-edge : goal.give_edge-requires-clause-edge
give_edge-requires-clause-edge g c =
    let from = c.args.pouring.now.from.name in
    let to = c.args.pouring.now.to.name in
    let label = (content_of c.args.heap.now).label in
    let e = c.edge-item.result in
    let now = (content_of c.loop-edge.heap).label in
    let edge : HasEdge label from e.0 = subst (λ (d : ℕ × RightSet). HasEdge label from d.0) (sym c.edge-item.is) (c.requires.edges c.loop-edge.edge-index e c.loop-edge-test.true) in
    let same : now from e.0 ≡ label from e.0 =
    c.loop-edge.invariant.given.labels from e.0 ∙ given_others (take c.loop-edge.edge-index c.args.row.now) label to from e.0 c.requires.apart in
    ap is_none_held same ∙ edge

pub loop-edge-preserved : goal.loop-edge-preserved
loop-edge-preserved g c =
    record {
      given = gives_more (content_of c.args.heap.now) (content_of c.loop-edge.heap) (content_of c.give_edge.new.heap) c.args.pouring.now.to.name c.args.row.now c.loop-edge.edge-index
          c.edge-item.result c.loop-edge-test.true c.edge-item.is c.loop-edge.invariant.given c.in_default.ensures.given;
      kept = keeps_both c.args.heap.now c.loop-edge.heap c.give_edge.new.heap c.loop-edge.invariant.kept c.in_default.ensures.kept;
    }

pub take_back-requires : goal.take_back-requires
take_back-requires g c =
    let to = c.args.pouring.now.to in
    record { vertex = subst (λ (s : HeapState). IsVertexAt s.table.spaces to.name to.place) (sym c.in-Err.ensures.refused) (c.loop-edge.invariant.kept.vertices to.name to.place c.requires.to) }

pub returns-in-Err-clause-refused : goal.returns-in-Err-clause-refused
returns-in-Err-clause-refused g c =
    let to = c.args.pouring.now.to.name in
    let new = content_of c.take_back.new.heap in
    let row = c.args.row.now in
    let taken : IsTakenBack (content_of c.loop-edge.heap) new to row =
    subst (λ (s : HeapState). IsTakenBack (content_of s) new to row) c.in-Err.ensures.refused c.take_back.ensures.taken in
    given_again (content_of c.args.heap.now) (content_of c.loop-edge.heap) new to row c.loop-edge.edge-index c.loop-edge.invariant.given taken

pub returns-in-Err-clause-kept : goal.returns-in-Err-clause-kept
returns-in-Err-clause-kept g c =
    let still : KeepsPlaces c.loop-edge.heap c.take_back.new.heap = subst (λ (s : HeapState). KeepsPlaces s c.take_back.new.heap) c.in-Err.ensures.refused c.take_back.ensures.kept in
    keeps_both c.args.heap.now c.loop-edge.heap c.take_back.new.heap c.loop-edge.invariant.kept still

pub returns-clause-poured : goal.returns-clause-poured
returns-clause-poured g c =
    subst (λ (es : List (ℕ × RightSet)). IsGiven (content_of c.args.heap.now) (content_of c.loop-edge.heap) c.args.pouring.now.to.name es)
    (take_all c.loop-edge.edge-index c.args.row.now (omega (arith, c.loop-edge-test.false))) c.loop-edge.invariant.given
