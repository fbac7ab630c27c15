use Rattle.std.proofs.Common.{◌<◌, arith, length}
use Rattle.std.proofs.lemmas.List.Elements.{All-get_or}
use Rattle.tg_space.specs.Soundness.{IsRootIn}
use Rattle.tg_evac.proofs.Along.{along_then, no_root, root_along, scan_along, walked_none, walked_root, walked_scan, walked_under_way, walks_all, walks_refused}
use Rattle.tg_evac.proofs.Passing.{walk_still}
use Rattle.tg_evac.proofs.walk.Walk.each.Goals as goal

pub loop-self-init : goal.loop-self-init
loop-self-init g c = let m = g.C.Claimer in record { inside = omega arith; walked = walked_none m.walked m.knows m.is_full c.requires }

pub scan-requires : goal.scan-requires
scan-requires g c = let m = g.C.Claimer in walked_under_way m.walked m.knows m.is_full c.loop-self.invariant.walked c.requires

pub returns-in_err-scan : goal.returns-in_err-scan
returns-in_err-scan g c =
    let m = g.C.Claimer in
    walks_refused m.walked m.knows m.is_full c.from_residual.result _ c.from_residual.ensures.1
    (along_then m.walked m.knows m.is_full c.loop-self.invariant.walked.along (scan_along m.walked m.knows m.is_full c.scan.ensures.scans)) c.in_err-scan.ensures.scans.goes.full

pub returns-then-claimed-roots : goal.returns-then-claimed-roots
returns-then-claimed-roots g c =
    let m = g.C.Claimer in
    walks_all m.walked m.knows m.is_full c.loop-self.invariant.walked (omega (arith, c.if-claimed-roots.true)) c.in_ok-scan.ensures.scans c.in_ok-scan.ensures.ended

pub claim_root-requires : goal.claim_root-requires
claim_root-requires g c = record {
  walk = walk_still c.scan.ensures.scans.goes.keeps (walk_still c.loop-self.invariant.walked.along.keeps c.requires.walk);
  root = All-get_or (IsRootIn c.args.self.spaces.now.spaces) c.args.roots.now c.loop-self.claimed no_root (omega (arith, c.loop-self.invariant.inside, c.if-claimed-roots.false)) c.requires.roots;
}

pub returns-in_err-claim_root : goal.returns-in_err-claim_root
returns-in_err-claim_root g c =
    let m = g.C.Claimer in let inside : c.loop-self.claimed < length c.args.roots.now = omega (arith, c.loop-self.invariant.inside, c.if-claimed-roots.false) in
    let scanned = walked_scan m.walked m.knows m.is_full c.loop-self.invariant.walked c.in_ok-scan.ensures.scans c.in_ok-scan.ensures.ended in
    walks_refused m.walked m.knows m.is_full c.from_residual-in_err-claim_root.result _ c.from_residual-in_err-claim_root.ensures.1
    (along_then m.walked m.knows m.is_full scanned.along (root_along m.walked m.knows m.is_full c.loop-self.claimed inside c.claim_root.ensures)) c.in_err-claim_root.ensures.full

pub loop-self-preserved : goal.loop-self-preserved
loop-self-preserved g c =
    let m = g.C.Claimer in
    let scanned = walked_scan m.walked m.knows m.is_full c.loop-self.invariant.walked c.in_ok-scan.ensures.scans c.in_ok-scan.ensures.ended in
    record {
      inside = omega (arith, c.loop-self.invariant.inside, c.if-claimed-roots.false);
      walked = walked_root m.walked m.knows m.is_full scanned (omega (arith, c.loop-self.invariant.inside, c.if-claimed-roots.false)) c.in_ok-claim_root.ensures;
    }
