use Rattle.std.proofs.Common.{rules, ◌≡◌, ◌<◌, List, ℕ, true, false, ap, sym, subst, ◌∙◌}
use Rattle.std.specs.List.{All}
use Rattle.std.proofs.lemmas.Result.{IfErr-weaker}
use Rattle.tg_space.specs.SpaceTable.{BlockLimits}
use Rattle.tg_space.proofs.Tables.{table_list}
use Rattle.tg_race.specs.declared.record.Record.{Record}
use Rattle.tg_race.specs.Race.{past}
use Rattle.tg_race.specs.Seats.{Board}
use Rattle.tg_evac.proofs.Pieces.{ok_always}
use Rattle.tg_evac.proofs.Sound.{have_pointers}
use Rattle.tg_parallel.specs.Parts.{AreCountsOf, AreEarned, HasClaimedPast, IsPart}
use Rattle.tg_parallel.specs.Seats.{AreFilled, Sitting}
use Rattle.tg_parallel.proofs.Handing.{aged_room, both_once, is_part, old_room, parts_are, past_limit}
use Rattle.tg_parallel.proofs.job.Job.help_here.Goals as goal

pub work-worked-requires : goal.work-worked-requires
work-worked-requires g c =
    let h = c.args.self.now.task.spaces.now.spaces in let seat = c.new-seat.ensures in (
      search rules,
      record {
        seat = record {
          pointers = have_pointers h c.args.self.now.task.roots.now c.requires.table.sound (table_list c.args.self.now.task.spaces.now c.limits.ensures.table);
          roots_held = c.requires.table.sound.roots_held;
          same = ap (λ (x : Sitting). x.kind) seat;
          counts = subst (λ (b : Board). AreCountsOf c.args.self.now.task.kind h c.args.self.now.task.roots.now b.counts) (sym (ap (λ (x : Sitting). x.board) seat)) c.requires.table.counts;
        };
        fresh = ap (λ (x : Sitting). x.done) seat ∙ c.requires.new.done;
      },
    )

pub of-requires-clause-aged_room : goal.of-requires-clause-aged_room
of-requires-clause-aged_room g c =
    let s = c.work-worked.new.seat in let e = c.into_left-helper.ensures in
    let kind = c.in-Ok-worked.ensures.worked.same.kind ∙ ap (λ (x : Sitting). x.kind) c.new-seat.ensures in
    aged_room c.args.self.now.task.kind c.args.self.now.task.spaces.now c.args.self.now.task.roots.now s kind e.places c.in-Ok-worked.ensures.copied c.into_left-helper.result.lists.aged.items c.into_left-helper.result.lists.old.items e.aged.0 e.old.0 e.aged.1 e.old.1

pub of-requires-clause-old_room : goal.of-requires-clause-old_room
of-requires-clause-old_room g c =
    let s = c.work-worked.new.seat in let e = c.into_left-helper.ensures in
    let kind = c.in-Ok-worked.ensures.worked.same.kind ∙ ap (λ (x : Sitting). x.kind) c.new-seat.ensures in
    old_room c.args.self.now.task.kind c.args.self.now.task.spaces.now c.args.self.now.task.roots.now s kind e.places c.in-Ok-worked.ensures.copied c.into_left-helper.result.lists.aged.items c.into_left-helper.result.lists.old.items e.aged.0 e.old.0 e.aged.1 e.old.1

pub returns-in-Ok-worked : goal.returns-in-Ok-worked
returns-in-Ok-worked g c =
    let s = c.work-worked.new.seat in let e = c.into_left-helper.ensures in
    let t = c.args.self.now.task.spaces.now in let h = t.spaces in let roots = c.args.self.now.task.roots.now in let kind = c.args.self.now.task.kind in
    let same_kind : s.kind ≡ kind = c.in-Ok-worked.ensures.worked.same.kind ∙ ap (λ (x : Sitting). x.kind) c.new-seat.ensures in
    let board : s.board ≡ c.args.self.now.table.now = c.in-Ok-worked.ensures.worked.same.board ∙ ap (λ (x : Sitting). x.board) c.new-seat.ensures in
    let limit : c.space_blocks-limit.result ≡ t.limits.space_blocks = c.space_blocks-limit.ensures.value ∙ ap (λ (l : BlockLimits). l.space_blocks) c.limits.ensures.limits in
    let aged = c.deref.result.now in let old = c.deref-in-Ok-worked.result.now in
    let in_aged : AreFilled true s.done aged e.aged.0 = subst (λ (l : List ℕ). AreFilled true s.done l e.aged.0) (sym c.deref.ensures.value) e.aged.1 in
    let in_old : AreFilled false s.done old e.old.0 = subst (λ (l : List ℕ). AreFilled false s.done l e.old.0) (sym c.deref-in-Ok-worked.ensures.value) e.old.1 in
    record {
      helped =
          record {
            seat = e.seat ∙ ap (λ (b : Board). b.table) board;
            share = ap (λ (v : Record). v.share) e.done ∙ c.in-Ok-worked.ensures.worked.same.share ∙ ap (λ (x : Sitting). x.done.share) c.new-seat.ensures ∙ ap (λ (v : Record). v.share) c.requires.new.done;
            earned = subst (λ (v : Record). AreEarned kind h roots v) (sym e.done) c.in-Ok-worked.ensures.worked.earned;
            last = ok_always c.of.result (subst (λ (v : Record). 0 < past c.args.self.now.table.now.counts v) (sym e.done) (subst (λ (b : Board). 0 < past b.counts s.done) board c.in-Ok-worked.ensures.last));
            whole = parts_are c.of.result
                (λ part laid_aged laid_old few_aged few_old. subst (λ (v : Record). IsPart kind t roots v part.aged.items part.old.items) (sym e.done)
                (is_part kind t roots s same_kind e.places c.in-Ok-worked.ensures.copied aged old e.aged.0 e.old.0 in_aged in_old part.aged.items part.old.items laid_aged laid_old
                (subst (λ (n : ℕ). All (λ b. b < n) aged) limit few_aged) (subst (λ (n : ℕ). All (λ b. b < n) old) limit few_old)))
                c.of.ensures.aged c.of.ensures.old c.of.ensures.aged_few c.of.ensures.old_few;
            full = IfErr-weaker c.of.result _ _
                (λ fault told is. subst (λ (v : Record). HasClaimedPast t.limits.space_blocks v) (sym e.done)
                (subst (λ (n : ℕ). HasClaimedPast n s.done) limit (past_limit c.space_blocks-limit.result s.done aged old in_aged.same in_old.same (told is))))
                c.of.ensures.full;
          };
      once = both_once e.done e.aged.1 e.old.1;
    }

pub returns : goal.returns
returns g c =
    let s = c.work-worked.new.seat in let e = c.into_left-helper.ensures in
    let t = c.args.self.now.task.spaces.now in let h = t.spaces in let roots = c.args.self.now.task.roots.now in let kind = c.args.self.now.task.kind in
    let same = c.in-Err.ensures.worked.same in
    let board : s.board ≡ c.args.self.now.table.now = same.board ∙ ap (λ (x : Sitting). x.board) c.new-seat.ensures in
    let limit : s.limit ≡ t.limits.space_blocks = same.limit ∙ ap (λ (x : Sitting). x.limit) c.new-seat.ensures ∙ c.space_blocks-limit.ensures.value ∙ ap (λ (l : BlockLimits). l.space_blocks) c.limits.ensures.limits in
    record {
      helped =
          record {
            seat = e.seat ∙ ap (λ (b : Board). b.table) board;
            share = ap (λ (v : Record). v.share) e.done ∙ same.share ∙ ap (λ (x : Sitting). x.done.share) c.new-seat.ensures ∙ ap (λ (v : Record). v.share) c.requires.new.done;
            earned = subst (λ (v : Record). AreEarned kind h roots v) (sym e.done) c.in-Err.ensures.worked.earned;
            last = tt;
            whole = tt;
            full = λ is. subst (λ (v : Record). HasClaimedPast t.limits.space_blocks v) (sym e.done) (subst (λ (n : ℕ). HasClaimedPast n s.done) limit (c.in-Err.ensures.worked.full is));
          };
      once = both_once e.done e.aged.1 e.old.1;
    }
