use Rattle.std.proofs.Common.{◌≡◌, [], Some, map, set, refl, sym, ap, ◌∙◌, subst, arith}
use Rattle.std.proofs.Math.Seq.{map-set_same}
use Rattle.std.proofs.lemmas.List.{length-map}
use Rattle.std.proofs.lemmas.List.Elements.{All-weaker}
use Rattle.tg_threads.specs.Boxes.{boxed_of}
use Rattle.tg_threads.specs.Shares.{all_shares, lines_in, runner_of}
use Rattle.tg_threads.specs.declared.work.Work.{Work}
use Rattle.tg_threads.proofs.ShareLaws.{IsDealt, all_came, map_push, one_more, runner_below, dealt_none, dealt_all, dealt_nobodys, dealt_step}
use Rattle.tg_threads.proofs.sharing.deal.Goals as goal

pub loop-task-init : goal.loop-task-init
loop-task-init g c =
    let None : Work g.row.S.Denot g.row.P.Denot → Type 0 = λ w. w.tasks.items ≡ [] in
    let NoLines : Work g.row.S.Denot g.row.P.Denot → Type 0 = λ w. lines_in w ≡ [] in
    record {
      left = c.into_iter-task-iterator.ensures.into_iter_gives.0;
      dealt = dealt_none c.args.names.now lines_in c.args.works.items c.requires.each (All-weaker None NoLines (λ w none. ap (map boxed_of) none) c.args.works.items c.requires.none);
      sessions = refl;
    }

pub index_mut-requires : goal.index_mut-requires
index_mut-requires g c =
    let names = c.args.names.now in
    let by : runner_of names c.in-Some.task.line ≡ Some c.in-Some-runner.thread = sym c.runner.ensures.thread ∙ c.in-Some-runner.is in
    let low = runner_below names c.in-Some-runner.thread c.in-Some.task.line c.requires.some by in
    omega (arith, low, c.loop-task.invariant.dealt.long, length-map c.loop-task.works.items lines_in, c.loop-task.works.ok.0)

pub loop-task-preserved-in-Continue-1 : goal.loop-task-preserved-in-Continue-1
loop-task-preserved-in-Continue-1 g c =
    let names = c.args.names.now in
    let y = c.in-Some-runner.thread in
    let task = c.in-Some.task in
    let works = c.loop-task.works.items in
    let by : runner_of names task.line ≡ Some y = sym c.runner.ensures.thread ∙ c.in-Some-runner.is in
    let low = runner_below names y task.line c.requires.some by in
    let w = c.index_mut.result.now in
    let after = c.give.new.work in
    let session_of : Work g.row.S.Denot g.row.P.Denot → g.row.S.Denot = λ v. v.session in
    let step = dealt_step lines_in works names y (map boxed_of c.loop-task.yielded) (boxed_of task) w after low by c.loop-task.invariant.dealt c.index_mut.ensures.value c.in_ok-give-in-Some-runner.ensures.lines in
    record {
      left = one_more c.loop-task.yielded c.next.new.self.rest.items c.loop-task.task-iterator.rest.items c.args.tasks.items c.in-Some.task c.in-Some.ensures.steps.0 c.loop-task.invariant.left;
      dealt = subst (λ bs. IsDealt names bs (map lines_in (set works y after))) (sym (map_push boxed_of c.loop-task.yielded task)) step;
      sessions = map-set_same session_of works y after w (c.in_ok-give-in-Some-runner.ensures.session ∙ ap session_of c.index_mut.ensures.value) ∙ c.loop-task.invariant.sessions;
    }

pub loop-task-preserved : goal.loop-task-preserved
loop-task-preserved g c = record {
  left = one_more c.loop-task.yielded c.next.new.self.rest.items c.loop-task.task-iterator.rest.items c.args.tasks.items c.in-Some.task c.in-Some.ensures.steps.0 c.loop-task.invariant.left;
  dealt = dealt_nobodys boxed_of c.args.names.now c.loop-task.yielded c.in-Some.task (map lines_in c.loop-task.works.items)
      (sym c.runner.ensures.thread ∙ c.in-None-runner.is) c.loop-task.invariant.dealt;
  sessions = c.loop-task.invariant.sessions;
}

pub returns-clause-lines : goal.returns-clause-lines
returns-clause-lines g c =
    let all : c.loop-task.yielded ≡ c.args.tasks.items = all_came c.loop-task.yielded c.loop-task.task-iterator.rest.items c.args.tasks.items c.loop-task.invariant.left (sym c.loop-task.task-iterator.rest.ok.0 ∙ c.in-None.ensures.steps.0) in
    dealt_all c.args.names.now (map boxed_of c.loop-task.yielded) (map lines_in c.loop-task.works.items) c.loop-task.invariant.dealt ∙ ap (λ ts. all_shares c.args.names.now (map boxed_of ts)) all
