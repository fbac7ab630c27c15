use Rattle.std.proofs.Common.{◌≡◌, ℕ, ◌*◌, ◌++◌, ◌<◌, ◌∙◌, List, ap, replicate, subst, sym}
use Rattle.tg_space.specs.Forwarding.{ForwardingWords}
use Rattle.tg_race.specs.Board.{IsClosedTable}
use Rattle.tg_space.specs.Collection.{collected_in}
use Rattle.tg_race.specs.Race.{past}
use Rattle.tg_space.specs.declared.room_fault.RoomFault.{RoomFault}
use Rattle.tg_space.specs.declared.room_fault.RoomFault.TheVariants.{HeapFull}
use Rattle.tg_parallel.specs.declared.part.Part.{Part}
use Rattle.tg_parallel.specs.Parts.{IsPart, IsPastLimit}
use Rattle.tg_parallel.specs.Whole.{IsWholePart}
use Rattle.tg_evac.proofs.Passing.{collects_refused}
use Rattle.tg_parallel.proofs.Finish.{finished}
use Rattle.std.proofs.lemmas.Result.{IfErr-at_err, IfOk-at_ok}
use Rattle.tg_parallel.proofs.Room.{few_blocks, lacks, moved_few}
use Rattle.tg_parallel.proofs.many.finish.Goals as goal
use Rattle.tg_parallel.proofs.many.finish.Given.{Over}
use Rattle.tg_parallel.proofs.many.finish.Goals.{In_ok-put_together-in-Ok}

-- the words of all cells: a 0 for each of those that stay, and the closed ones
words_are : (kept skipped : ℕ) → kept ≡ skipped → (ws : List ℕ) (f : ForwardingWords) → f ≡ record { skipped = 64 * skipped; words = replicate (64 * skipped) 0 ++ ws } → f.words ≡ replicate (64 * kept) 0 ++ ws
words_are kept skipped same ws f is = ap (λ (x : ForwardingWords). x.words) is ∙ ap (λ (n : ℕ). replicate (64 * n) 0 ++ ws) (sym same)

whole : (g : Over) (c : In_ok-put_together-in-Ok g) → IsWholePart c.args.plan.kind c.args.task.now.spaces.now c.args.task.now.roots.now c.args.table.counts c.in_ok-put_together-in-Ok.field-0.forward.words c.args.helped.helper.done c.in-Ok.part.aged.items c.in-Ok.part.old.items
whole g c =
    let v = c.args.helped.helper.done in let p = c.in-Ok.part in
    let words = c.in_ok-put_together-in-Ok.ensures.words ∙ words_are c.args.table.counts.kept c.args.plan.kept (c.requires.counts.kept ∙ sym c.requires.plan.planned.kept) c.close.result c.of_closed-forward.result c.of_closed-forward.ensures in
    record {
      counts = c.requires.counts;
      closed = subst (λ (ws : List ℕ). IsClosedTable c.args.table.counts ws v) (sym words) c.close.ensures;
      last = IfOk-at_ok (λ (_ : Part). 0 < past c.args.table.counts v) c.in-Ok.is c.requires.helped.last;
      earned = c.requires.helped.earned;
      part = IfOk-at_ok (λ (q : Part). IsPart c.args.plan.kind c.args.task.now.spaces.now c.args.task.now.roots.now v q.aged.items q.old.items) c.in-Ok.is c.requires.helped.whole;
    }

pub returns-in_ok-put_together-in-Ok : goal.returns-in_ok-put_together-in-Ok
returns-in_ok-put_together-in-Ok g c =
    let kind = c.args.plan.kind in let t = c.args.task.now.spaces.now in let roots = c.args.task.now.roots.now in let k = c.args.table.counts in
    let v = c.args.helped.helper.done in let p = c.in-Ok.part in let told = c.in_ok-put_together-in-Ok.ensures in
    let made = collected_in c.in_ok-put_together-in-Ok.field-0 in let all = whole g c in
    record {
      collected = finished kind t roots k v p.aged.items p.old.items made c.requires.plan.spaces c.requires.plan.limit all told.merged (λ p. rw told.words (told.noted p));
      moved = moved_few kind t roots k made.forward v c.requires.plan.spaces c.requires.plan.sound c.requires.counts all.closed all.earned;
      few = few_blocks kind t roots k v p.aged.items p.old.items made all told.merged;
      full = tt;
    }

pub returns-in_err-put_together-in-Ok : goal.returns-in_err-put_together-in-Ok
returns-in_err-put_together-in-Ok g c = collects_refused c.from_residual.result _ c.from_residual.ensures.1 (λ is. absurd cc)

pub returns-in-Err : goal.returns-in-Err
returns-in-Err g c =
    record {
      collected = tt;
      moved = tt;
      few = tt;
      full = λ is.
          let past = IfErr-at_err (λ (fault : RoomFault). fault ≡ HeapFull → IsPastLimit c.args.task.now.spaces.now c.args.helped.helper.done) c.in-Err.is c.requires.helped.full is in
          lacks c.args.plan.kind c.args.task.now.spaces.now c.args.task.now.roots.now c.args.table.counts _ c.args.helped.helper.done c.requires.counts c.close.ensures c.requires.helped.earned past;
    }
