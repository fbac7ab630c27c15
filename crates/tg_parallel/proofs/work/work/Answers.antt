use Rattle.std.proofs.Common.{◌≡◌, [], ap, refl, sym, subst, ◌∙◌, arith}
use Rattle.tg_race.specs.declared.record.Record.{Record}
use Rattle.tg_race.specs.Seats.{Board}
use Rattle.tg_parallel.specs.Parts.{AreCountsOf}
use Rattle.tg_parallel.specs.Seats.{Sitting}
use Rattle.tg_parallel.proofs.Working.{chunks_past, copied_all, copied_drawn, copied_none, count, drawn_first, drawn_next, earned_drawn, earned_none, may_claim_next, past_last, rises, same_both, same_drawn, work_refused}
use Rattle.tg_parallel.proofs.work.work.Goals as goal

pub loop-chunk-init : goal.loop-chunk-init
loop-chunk-init g c =
    let s = c.args.seat.now in let t = c.claim_chunk-chunk.new.self in let is = c.claim_chunk-chunk.ensures.drawn in let r = c.claim_chunk-chunk.result in
    let h = c.args.job.now.task.spaces.now.spaces in let roots = c.args.job.now.task.roots.now in let copies = c.in_ok-copies.copies in
    let none : t.done.won ≡ [] = ap (λ (x : Sitting). x.done.won) is ∙ ap (λ (v : Record). v.won) c.requires.fresh in
    record {
      same = same_drawn s t r is;
      earned = earned_none c.args.job.now.task.kind h roots t.done none;
      drawn = ([], drawn_first s t r c.requires.fresh is, copied_none c.args.job.now.task.kind h roots t copies.scanned copies.aged copies.old none c.in_ok-copies.ensures.scanned c.in_ok-copies.ensures.aged c.in_ok-copies.ensures.old);
    }

pub copy_chunk-requires-clause-seat : goal.copy_chunk-requires-clause-seat
copy_chunk-requires-clause-seat g c κs within =
    let seat = c.requires.seat in let same = c.loop-chunk.invariant.same in
    record {
      pointers = seat.pointers;
      roots_held = seat.roots_held;
      same = same.kind ∙ seat.same;
      counts = subst (λ (b : Board). AreCountsOf c.args.job.now.task.kind c.args.job.now.task.spaces.now.spaces c.args.job.now.task.roots.now b.counts) (sym same.board) seat.counts;
    }

pub copy_chunk-requires-clause-earned : goal.copy_chunk-requires-clause-earned
copy_chunk-requires-clause-earned g c κs within = c.loop-chunk.invariant.earned

pub copy_chunk-requires-clause-drawn : goal.copy_chunk-requires-clause-drawn
copy_chunk-requires-clause-drawn g c κs within = c.loop-chunk.invariant.drawn

pub returns-in_err-copies : goal.returns-in_err-copies
returns-in_err-copies g c =
    let s = c.args.seat.now in
    work_refused c.from_residual.result _ c.from_residual.ensures.1 (record { kind = refl; limit = refl; board = refl; share = refl })
    (earned_none c.args.job.now.task.kind c.args.job.now.task.spaces.now.spaces c.args.job.now.task.roots.now s.done (ap (λ (v : Record). v.won) c.requires.fresh)) (λ is. absurd cc)

pub returns-in_err-copy_chunk : goal.returns-in_err-copy_chunk
returns-in_err-copy_chunk g c =
    let worked = c.copy_chunk.ensures.worked in
    work_refused c.from_residual-in_err-copy_chunk.result _ c.from_residual-in_err-copy_chunk.ensures.1 (same_both c.loop-chunk.invariant.same worked.same) worked.earned c.in_err-copy_chunk.ensures.worked.full

pub claim_chunk-chunk-requires-in-loop-chunk : goal.claim_chunk-chunk-requires-in-loop-chunk
claim_chunk-chunk-requires-in-loop-chunk g c =
    let d = c.loop-chunk.invariant.drawn in
    let n = count c.requires.seat.counts c.loop-chunk.invariant.same c.div_ceil-chunks.ensures in
    may_claim_next d.0 c.loop-chunk.chunk c.loop-chunk.seat c.copy_chunk.new.seat d.1 (omega (arith, c.loop-chunk-test.true)) c.copy_chunk.ensures.worked.same c.copy_chunk.ensures.chunks

pub loop-chunk-smaller : goal.loop-chunk-smaller
loop-chunk-smaller g c =
    let d = c.loop-chunk.invariant.drawn in
    let r = rises d.0 c.loop-chunk.chunk c.loop-chunk.seat c.copy_chunk.new.seat c.claim_chunk-chunk-in-loop-chunk.result d.1 c.copy_chunk.ensures.chunks c.claim_chunk-chunk-in-loop-chunk.ensures.fresh in
    omega (arith, c.loop-chunk-test.true)

pub loop-chunk-preserved : goal.loop-chunk-preserved
loop-chunk-preserved g c =
    let d = c.loop-chunk.invariant.drawn in
    let n = count c.requires.seat.counts c.loop-chunk.invariant.same c.div_ceil-chunks.ensures in
    let s = c.loop-chunk.seat in let u = c.copy_chunk.new.seat in let v = c.claim_chunk-chunk-in-loop-chunk.new.self in let r = c.claim_chunk-chunk-in-loop-chunk.result in
    let is = c.claim_chunk-chunk-in-loop-chunk.ensures.drawn in let h = c.args.job.now.task.spaces.now.spaces in let roots = c.args.job.now.task.roots.now in let copies = c.copy_chunk.new.copies in
    record {
      same = same_both c.loop-chunk.invariant.same (same_both c.copy_chunk.ensures.worked.same (same_drawn u v r is));
      earned = earned_drawn c.args.job.now.task.kind h roots u v r is c.copy_chunk.ensures.worked.earned;
      drawn = (
        u.done.chunks,
        drawn_next d.0 c.loop-chunk.chunk s u v r d.1 (omega (arith, c.loop-chunk-test.true)) c.copy_chunk.ensures.worked.same c.copy_chunk.ensures.chunks is,
        copied_drawn c.args.job.now.task.kind h roots u v r is u.done.chunks copies.scanned copies.aged copies.old c.in_ok-copy_chunk.ensures.copied,
      );
    }

pub returns : goal.returns
returns g c =
    let d = c.loop-chunk.invariant.drawn in
    let n = count c.requires.seat.counts c.loop-chunk.invariant.same c.div_ceil-chunks.ensures in
    let copies = c.loop-chunk.copies in
    record {
      worked = record { same = c.loop-chunk.invariant.same; earned = c.loop-chunk.invariant.earned; full = tt };
      last = past_last d.0 c.loop-chunk.chunk c.loop-chunk.seat d.1 (omega (arith, c.loop-chunk-test.false));
      copied = copied_all c.args.job.now.task.kind c.args.job.now.task.spaces.now.spaces c.args.job.now.task.roots.now d.0 c.loop-chunk.chunk c.loop-chunk.seat copies.scanned copies.aged copies.old d.1
          (chunks_past c.args.job.now.task.roots.now c.loop-chunk.chunk c.div_ceil-chunks.result c.div_ceil-chunks.ensures c.loop-chunk-test.false) d.2;
    }
