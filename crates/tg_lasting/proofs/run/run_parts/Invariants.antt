use Rattle.std.proofs.Common.{◌≡◌, ◌+◌, ◌-◌, ◌*◌, ℕ, List, Some, length}
use Rattle.tg_script.specs.Parts.{may_come}
use Rattle.tg_lasting.specs.Answering.{IsReadyScript}
use Rattle.tg_lasting.proofs.SoFarLaws.{CameSoFar, flag_of}
use Rattle.tg_lasting.proofs.run.run_parts.Given as goal

abbrev pub invariant-parts : goal.invariant-parts
invariant-parts g l =
    let w = g.W.Watch.refused in
    record {
      ready : IsReadyScript g.D.Disk l.on;
      so_far : (bytes before : List ℕ) → g.R.Read.remaining l.fn.reader ≡ Some bytes → g.K.Sink.taken l.fn.sink ≡ Some before → CameSoFar l.fn.on bytes before (w l.fn.watch) l.on l.chunk.items l.is_last (g.R.Read.remaining l.reader) (g.K.Sink.taken l.sink) (w l.watch);
    }

abbrev pub decreases-parts : goal.decreases-parts
decreases-parts g l = 2 * ((may_come l.on.run + 1) - length l.chunk.items) + flag_of l.is_last
