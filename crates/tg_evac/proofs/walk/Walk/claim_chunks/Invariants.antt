use Rattle.std.proofs.Common.{length}
use Rattle.tg_space.specs.Soundness.{IsPointer}
use Rattle.tg_space.specs.SpaceList.{cells_of}
use Rattle.tg_space.specs.Targets.{from_space}
use Rattle.tg_evac.specs.Claims.{IsClaimOf, chunk_targets}
use Rattle.tg_evac.specs.Claimers.{AddsWins, KnowsMore}
use Rattle.tg_evac.proofs.Chunks.{ChunksPassed}
use Rattle.tg_evac.proofs.walk.Walk.claim_chunks.Given as goal

abbrev pub invariant-loop : goal.invariant-loop
invariant-loop g l =
    let m = g.C.Claimer in
    record {
      pointer : IsPointer l.self.spaces.now.spaces l.link;
      added : AddsWins (IsClaimOf l.self.spaces.now.spaces l.straight (chunk_targets (from_space (m.walked l.initial.claimer).kind) l.self.spaces.now.spaces (length (cells_of l.self.spaces.now.spaces)) l.first)) (m.walked l.initial.claimer) (m.walked l.claimer);
      grows : KnowsMore (m.knows l.initial.claimer) (m.knows l.claimer);
      passed : ChunksPassed (from_space (m.walked l.initial.claimer).kind) l.self.spaces.now.spaces (length (cells_of l.self.spaces.now.spaces)) l.first l.counter l.link (m.walked l.claimer).met;
    }
