use Rattle.std.proofs.Common.{◌≡◌, ◌++◌, ◌∷◌, [], map, sym, ap, ◌∙◌, subst}
use Rattle.std.specs.List.{All}
use Rattle.std.proofs.lemmas.List.Elements.{All-push}
use Rattle.tg_threads.proofs.ShareLaws.{all_came, map_push, one_more}
use Rattle.tg_threads.specs.Tasks.{HadNone, assigned_of, promised_by}
use Rattle.tg_threads.proofs.RunLaws.{all_next}
use Rattle.tg_threads.proofs.threads.start_all.Goals as goal

pub loop-work-preserved : goal.loop-work-preserved
loop-work-preserved g c =
    let work = c.in-Some.work in
    let handle = c.in_ok-handle.handle in
    record {
      left = one_more c.loop-work.yielded c.next.new.self.rest.items c.loop-work.work-iterator.rest.items c.args.works.items work c.in-Some.ensures.steps.0 c.loop-work.invariant.left;
      promises = ap (map promised_by) c.in_ok-push.ensures.items ∙ map_push promised_by c.loop-work.handles.items handle
          ∙ (λ i. c.loop-work.invariant.promises i ++ c.in_ok-handle.ensures.promise i ∷ []) ∙ sym (map_push assigned_of c.loop-work.yielded work);
      helpers = subst (All (λ h. h.promise.helpers ≡ c.args.context.now.helpers)) (sym c.in_ok-push.ensures.items)
          (All-push (λ h. h.promise.helpers ≡ c.args.context.now.helpers) c.loop-work.handles.items handle c.loop-work.invariant.helpers c.in_ok-handle.ensures.helpers);
    }

pub start-requires-clause-fresh : goal.start-requires-clause-fresh
start-requires-clause-fresh g c = λ lifetimes outlive.
    let left : (c.loop-work.yielded ++ c.in-Some.work ∷ []) ++ c.next.new.self.rest.items ≡ c.args.works.items = one_more c.loop-work.yielded c.next.new.self.rest.items c.loop-work.work-iterator.rest.items c.args.works.items c.in-Some.work c.in-Some.ensures.steps.0 c.loop-work.invariant.left in
    all_next (λ w. HadNone w.session) c.loop-work.yielded c.in-Some.work c.next.new.self.rest.items c.args.works.items left c.requires.fresh

pub returns-clause-promises : goal.returns-clause-promises
returns-clause-promises g c =
    let all : c.loop-work.yielded ≡ c.args.works.items = all_came c.loop-work.yielded c.loop-work.work-iterator.rest.items c.args.works.items c.loop-work.invariant.left (sym c.loop-work.work-iterator.rest.ok.0 ∙ c.in-None.ensures.steps.0) in
    c.loop-work.invariant.promises ∙ ap (map assigned_of) all
