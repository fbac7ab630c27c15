use Rattle.std.proofs.lemmas.List.Elements.{All-get_or}
use Rattle.tg_space.specs.Soundness.{IsRootIn}
use Rattle.tg_evac.proofs.Along.{along_then, no_root, root_along, walked_none, walked_root, walked_under_way, walks_all, walks_refused}
use Rattle.tg_evac.proofs.Passing.{walk_still}
use Rattle.tg_evac.proofs.walk.Walk.together.Goals as goal

pub loop-root-init : goal.loop-root-init
loop-root-init g c = let m = g.C.Claimer in walked_none m.walked m.knows m.is_full c.requires

pub claim_root-requires : goal.claim_root-requires
claim_root-requires g c = record { walk = walk_still c.loop-root.invariant.along.keeps c.requires.walk; root = All-get_or (IsRootIn c.args.self.spaces.now.spaces) c.args.roots.now c.loop-root.root-index no_root c.loop-root-test.true c.requires.roots }

pub returns-in_err-claim_root : goal.returns-in_err-claim_root
returns-in_err-claim_root g c =
    let m = g.C.Claimer in
    walks_refused m.walked m.knows m.is_full c.from_residual.result _ c.from_residual.ensures.1
    (along_then m.walked m.knows m.is_full c.loop-root.invariant.along (root_along m.walked m.knows m.is_full c.loop-root.root-index c.loop-root-test.true c.claim_root.ensures)) c.in_err-claim_root.ensures.full

pub loop-root-preserved : goal.loop-root-preserved
loop-root-preserved g c = let m = g.C.Claimer in walked_root m.walked m.knows m.is_full c.loop-root.invariant c.loop-root-test.true c.in_ok-claim_root.ensures

pub scan-requires : goal.scan-requires
scan-requires g c = let m = g.C.Claimer in walked_under_way m.walked m.knows m.is_full c.loop-root.invariant c.requires

pub returns : goal.returns
returns g c =
    let m = g.C.Claimer in
    walks_all m.walked m.knows m.is_full c.loop-root.invariant c.loop-root-test.false c.scan.ensures.scans c.scan.ensures.ended
