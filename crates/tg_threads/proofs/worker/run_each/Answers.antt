use Rattle.std.proofs.Common.{◌≡◌, ◌<◌, ◌≤◌, ◌+◌, ◌++◌, ◌∷◌, ◌∙◌, [], ap, ℕ, Bool, true, if◌then◌else◌, length, map, List, refl, sym, subst, rules, arith}
use Rattle.std.specs.List.{count_by}
use Rattle.std.specs.Vec.{vec_capacity, vec_len}
use Rattle.std.specs.declared.vec.Vec.{Vec}
use Rattle.tg_shared.specs.Sessions.{SessionState}
use Rattle.std.proofs.lemmas.List.Sums.{sum_by-cons}
use Rattle.tg_threads.specs.Boxes.{Boxed, boxed_of}
use Rattle.tg_threads.proofs.ShareLaws.{all_came, map_push, one_more}
use Rattle.tg_threads.specs.Tasks.{IsRunFor, Runs, may_make_subject, served_past}
use Rattle.tg_threads.specs.declared.task.Task.{Task}
use Rattle.tg_threads.specs.declared.task.Told.{Told}
use Rattle.tg_threads.proofs.RunLaws.{HasRunSo, arena_now, mapped_at, none_spawned, run_more}
use Rattle.tg_threads.proofs.worker.run_each.Goals as goal

-- there is room for each line that is left
room_left : {P : Type 0} (b : Bool) (t : Task P) (rest all : List (Task P)) (len next cap now : ℕ) → may_make_subject t ≡ b → all ≡ t ∷ rest → len + count_by may_make_subject all ≤ cap → next ≤ len + (if b then 1 else 0) → now ≡ cap →
    next + count_by may_make_subject rest ≤ now
room_left {P} b t rest all len next cap now is split fits more same =
    let count : count_by may_make_subject all ≡ (if b then 1 else 0) + count_by may_make_subject rest =
    ap (λ (l : List (Task P)). count_by may_make_subject l) split ∙ sum_by-cons (λ (x : Task P). if may_make_subject x then 1 else 0) t rest ∙ ap (λ (c : Bool). (if c then 1 else 0) + count_by may_make_subject rest) is in
    omega (arith, count, fits, more, same)

room_here : {P : Type 0} (t : Task P) (rest all : List (Task P)) (len cap : ℕ) → may_make_subject t ≡ true → all ≡ t ∷ rest → len + count_by may_make_subject all ≤ cap → len < cap
room_here {P} t rest all len cap is split fits =
    let count : count_by may_make_subject all ≡ 1 + count_by may_make_subject rest =
    ap (λ (l : List (Task P)). count_by may_make_subject l) split ∙ sum_by-cons (λ (x : Task P). if may_make_subject x then 1 else 0) t rest ∙ ap (λ (c : Bool). (if c then 1 else 0) + count_by may_make_subject rest) is in
    omega (arith, count, fits)

room_first : {A P : Type 0} (spawned : Vec SessionState A) (all left : List (Task P)) → left ≡ all → spawned.items ≡ [] → count_by may_make_subject all ≤ vec_capacity spawned → vec_len spawned + count_by may_make_subject left ≤ vec_capacity spawned
room_first spawned all left same none room =
    let empty = ap length none in
    let count = ap (count_by may_make_subject) same in
    first_of (omega (arith, empty, count, room), grind (arith, empty, count, room))

pub run_task-requires-clause-room : goal.run_task-requires-clause-room
run_task-requires-clause-room g c = λ lifetimes outlive is.
    room_here c.in-Some.task c.next.new.self.rest.items c.loop-task.task-iterator.rest.items _ _ is c.in-Some.ensures.steps.0 c.loop-task.invariant.room

pub loop-task-init : goal.loop-task-init
loop-task-init g c = record {
  left = c.into_iter-task-iterator.ensures.into_iter_gives.0;
  spawned = none_spawned c.args.finished.now.session.receipts c.args.finished.now.spawned.items c.requires.fresh.0 c.requires.none.1;
  room = room_first c.args.finished.now.spawned c.args.tasks.items _ c.into_iter-task-iterator.ensures.into_iter_gives.0 c.requires.none.1 c.requires.room;
  runs = λ first is all. record {
    worker = refl;
    handed = c.requires.fresh.1;
    runs = (c.requires.none.0, c.requires.fresh.0);
    behind = is;
  };
}

pub loop-task-preserved : goal.loop-task-preserved
loop-task-preserved g c =
    let left : (c.loop-task.yielded ++ c.in-Some.task ∷ []) ++ c.next.new.self.rest.items ≡ c.args.tasks.items = one_more c.loop-task.yielded c.next.new.self.rest.items c.loop-task.task-iterator.rest.items c.args.tasks.items c.in-Some.task c.in-Some.ensures.steps.0 c.loop-task.invariant.left in
    let x = c.args.finished.now.session.worker in
    record {
      left = left;
      spawned = c.in_ok-one.ensures.spawned.each c.loop-task.invariant.spawned;
      room = room_left (may_make_subject c.in-Some.task) c.in-Some.task c.next.new.self.rest.items c.loop-task.task-iterator.rest.items _ _ _ _ refl c.in-Some.ensures.steps.0 c.loop-task.invariant.room c.run_task.ensures.spawned.fits c.run_task.ensures.spawned.kept;
      runs = λ first acts all.
          let asked : c.worker-in-loop-task.result ≡ c.run_task.new.session.worker = c.worker-in-loop-task.ensures in
          let by = mapped_at boxed_of (λ b. IsRunFor x b.line) c.loop-task.yielded c.in-Some.task c.next.new.self.rest.items c.args.tasks.items left all in
          let more = run_more g.L.Round.start c.args.context.now.helpers first x c.loop-task.served c.is_served_past-served.result (map boxed_of c.loop-task.yielded) c.loop-task.finished.told.items c.loop-task.finished.session c.run_task.new.session (boxed_of c.in-Some.task) c.in_ok-one.one
          (c.loop-task.invariant.runs first acts all) by (λ before is ran. c.in_ok-one.ensures.run before is ran) (λ before is. c.is_served_past-served.ensures before (ap before asked ∙ is) ∙ ap (λ (n : ℕ). served_past before c.in-Some.task.line c.in_ok-one.one n) asked) in
          let P : List Boxed → Type 0 = λ bs. HasRunSo g.L.Round.start c.args.context.now.helpers first x c.is_served_past-served.result bs (c.loop-task.finished.told.items ++ c.in_ok-one.one ∷ []) c.run_task.new.session in
          let Q : List Told → Type 0 = λ ts. HasRunSo g.L.Round.start c.args.context.now.helpers first x c.is_served_past-served.result (map boxed_of (c.loop-task.yielded ++ c.in-Some.task ∷ [])) ts c.run_task.new.session in
          subst Q (sym c.in_ok-push.ensures.items) (subst P (sym (map_push boxed_of c.loop-task.yielded c.in-Some.task)) more);
    }

pub returns-clause-ran : goal.returns-clause-ran
returns-clause-ran g c =
    let all : c.loop-task.yielded ≡ c.args.tasks.items = all_came c.loop-task.yielded c.loop-task.task-iterator.rest.items c.args.tasks.items c.loop-task.invariant.left (sym c.loop-task.task-iterator.rest.ok.0 ∙ c.in-None.ensures.steps.0) in
    λ first acts by.
    let i = c.loop-task.invariant.runs first acts by in
    (i.worker, subst (λ (ts : List (Task _)). Runs (arena_now g.L.Round.start c.args.context.now.helpers c.loop-task.finished.session) first (map boxed_of ts) c.loop-task.finished.told.items c.loop-task.finished.session.receipts) all i.runs, c.loop-task.invariant.spawned, i.handed)
