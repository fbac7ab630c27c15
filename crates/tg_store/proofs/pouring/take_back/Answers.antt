use Rattle.std.proofs.Common.{ℕ, List, subst, arith}
use Rattle.std.proofs.lemmas.List.{take_all}
use Rattle.tg_rights.specs.RightSet.{RightSet}
use Rattle.tg_model.specs.Graph.{without_rights}
use Rattle.tg_rows.specs.Content.{IsContent, IsNamed}
use Rattle.tg_graph.specs.Heap.{content_of}
use Rattle.tg_graph.proofs.StandingLaws.{IsSameContent-self}
use Rattle.tg_store.specs.Inner.Parking.{IsTakenBack}
use Rattle.tg_store.proofs.ParkLaws.{keeps_both, keeps_self, takes_more}
use Rattle.tg_store.proofs.pouring.take_back.Goals as goal

pub loop-edge-init : goal.loop-edge-init
loop-edge-init g c = record { taken = IsSameContent-self (content_of c.args.heap.now); kept = keeps_self c.args.heap.now }

pub drop_rights-requires : goal.drop_rights-requires
drop_rights-requires g c = (c.loop-edge.invariant.kept.vertices c.args.from.name c.args.from.place c.requires.vertex).object

pub loop-edge-preserved : goal.loop-edge-preserved
loop-edge-preserved g c =
    let x = c.args.from.name in
    let e = c.edge-item.result in
    let before = content_of c.loop-edge.heap in
    let after = content_of c.drop_rights.new.self in
    let there = c.loop-edge.invariant.kept.vertices x c.args.from.place c.requires.vertex in
    record {
      taken = takes_more (content_of c.args.heap.now) before after x c.args.row.now c.loop-edge.edge-index e c.loop-edge-test.true c.edge-item.is c.loop-edge.invariant.taken
          (subst (λ (a : ℕ). IsContent after (IsNamed before) (without_rights before.label a e.0 e.1) before.value) there.named c.drop_rights.ensures.dropped);
      kept = keeps_both c.args.heap.now c.loop-edge.heap c.drop_rights.new.self c.loop-edge.invariant.kept c.drop_rights.ensures.kept;
    }

pub returns-clause-taken : goal.returns-clause-taken
returns-clause-taken g c =
    subst (λ (es : List (ℕ × RightSet)). IsTakenBack (content_of c.args.heap.now) (content_of c.loop-edge.heap) c.args.from.name es)
    (take_all c.loop-edge.edge-index c.args.row.now (omega (arith, c.loop-edge-test.false))) c.loop-edge.invariant.taken
