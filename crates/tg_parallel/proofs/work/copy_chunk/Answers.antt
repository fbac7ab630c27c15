use Rattle.std.proofs.Common.{ap, sym, subst, ◌∙◌}
use Rattle.tg_space.specs.SpaceTable.{kept_blocks}
use Rattle.tg_space.specs.declared.kind.Kind.{Kind}
use Rattle.tg_evac.specs.Claims.{AreTraced}
use Rattle.tg_parallel.specs.Parts.{roots_in, wins_of}
use Rattle.tg_parallel.proofs.Working.{copied_walk, earned_walk, in_chunk, on_ok_all, same_walk}
use Rattle.tg_parallel.proofs.work.copy_chunk.Goals as goal

pub along-requires-clause-traced : goal.along-requires-clause-traced
along-requires-clause-traced g c =
    let s = c.args.seat.now in let h = c.args.job.now.task.spaces.now.spaces in let roots = c.args.job.now.task.roots.now in let d = c.requires.drawn in
    let all = roots_in roots s.done.chunks in (
      all,
      in_chunk c.args.job.now.task.kind h roots d.0 c.args.chunk s d.1 c.chunk_of-roots.result.now c.chunk_of-roots.ensures,
      subst (λ (k : Kind). AreTraced k h all (wins_of s.done.won)) (sym c.requires.seat.same) c.requires.earned,
    )

pub along-requires-clause-scanned : goal.along-requires-clause-scanned
along-requires-clause-scanned g c = c.requires.drawn.2.copies

pub along-requires-clause-walk : goal.along-requires-clause-walk
along-requires-clause-walk g c =
    let seat = c.requires.seat in
    record {
      pointers = seat.pointers;
      table = record { same = seat.same; whole = seat.counts.cells; kept = seat.counts.kept ∙ ap (λ (k : Kind). kept_blocks k c.args.job.now.task.spaces.now.spaces) (sym seat.same) };
    }

pub returns-clause-worked : goal.returns-clause-worked
returns-clause-worked g c =
    let d = c.requires.drawn in let keeps = c.along.ensures.goes.keeps in
    record {
      same = same_walk c.args.seat.now c.along.new.claimer keeps;
      earned = earned_walk c.args.job.now.task.kind c.args.job.now.task.spaces.now.spaces c.args.job.now.task.roots.now d.0 c.args.chunk c.args.seat.now d.1 c.chunk_of-roots.result.now c.chunk_of-roots.ensures c.requires.seat.same c.along.new.claimer keeps c.along.ensures.traced c.requires.earned;
      full = c.along.ensures.goes.full;
    }

pub returns-clause-copied : goal.returns-clause-copied
returns-clause-copied g c =
    let d = c.requires.drawn in
    on_ok_all c.along.result
    (λ met scanned ended. copied_walk c.args.job.now.task.kind c.args.job.now.task.spaces.now.spaces c.args.job.now.task.roots.now d.0 c.args.chunk c.args.seat.now d.1 c.chunk_of-roots.result.now c.chunk_of-roots.ensures c.requires.seat.same c.along.new.claimer c.along.ensures.goes.keeps d.2 met scanned ended)
    c.along.ensures.met c.along.ensures.scanned c.along.ensures.ended
