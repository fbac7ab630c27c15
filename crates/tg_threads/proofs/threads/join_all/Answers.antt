use Rattle.std.proofs.Common.{◌≡◌, ◌++◌, ◌∷◌, [], ℕ, List, ◌∙◌, map, sym, subst}
use Rattle.tg_shared.specs.Sessions.{SessionState}
use Rattle.tg_threads.specs.declared.work.Finished.{Finished}
use Rattle.tg_threads.specs.Boxes.{Boxed}
use Rattle.tg_threads.proofs.ShareLaws.{all_came, map_push, one_more}
use Rattle.tg_threads.specs.Tasks.{AllBring, Brings, arena_seen, promised_by}
use Rattle.tg_threads.proofs.RunLaws.{all_next}
use Rattle.tg_threads.proofs.BringLaws.{brings_more}
use Rattle.tg_threads.proofs.threads.join_all.Goals as goal

pub loop-handle-init : goal.loop-handle-init
loop-handle-init g c = record {
  left = c.into_iter-handle-iterator.ensures.into_iter_gives.0;
  brings = λ helpers same. c.new-all.ensures.items;
}

pub loop-handle-preserved : goal.loop-handle-preserved
loop-handle-preserved g c =
    let left : (c.loop-handle.yielded ++ c.in-Some.handle ∷ []) ++ c.next.new.self.rest.items ≡ c.args.handles.items = one_more c.loop-handle.yielded c.next.new.self.rest.items c.loop-handle.handle-iterator.rest.items c.args.handles.items c.in-Some.handle c.in-Some.ensures.steps.0 c.loop-handle.invariant.left in
    record {
      left = left;
      brings = λ helpers same.
          let here = all_next (λ h. h.promise.helpers ≡ helpers) c.loop-handle.yielded c.in-Some.handle c.next.new.self.rest.items c.args.handles.items left same in
          let one = subst (λ n. Brings (arena_seen g.L.Round.start n c.in_ok-join.field-0) (promised_by c.in-Some.handle).0 (promised_by c.in-Some.handle).1 c.in_ok-join.field-0) here c.in_ok-join.ensures.1 in
          let more = brings_more g.L.Round.start helpers (map promised_by c.loop-handle.yielded) c.loop-handle.all.items (promised_by c.in-Some.handle) c.in_ok-join.field-0 (c.loop-handle.invariant.brings helpers same) one in
          let P : List (ℕ × List Boxed) → Type 0 = λ given. AllBring g.L.Round.start helpers given (c.loop-handle.all.items ++ c.in_ok-join.field-0 ∷ []) in
          let Q : List (Finished SessionState) → Type 0 = λ all. AllBring g.L.Round.start helpers (map promised_by (c.loop-handle.yielded ++ c.in-Some.handle ∷ [])) all in
          subst Q (sym c.in_ok-push.ensures.items) (subst P (sym (map_push promised_by c.loop-handle.yielded c.in-Some.handle)) more);
    }

pub returns-clause-brought : goal.returns-clause-brought
returns-clause-brought g c =
    let all : c.loop-handle.yielded ≡ c.args.handles.items = all_came c.loop-handle.yielded c.loop-handle.handle-iterator.rest.items c.args.handles.items c.loop-handle.invariant.left (sym c.loop-handle.handle-iterator.rest.ok.0 ∙ c.in-None.ensures.steps.0) in
    λ helpers same. subst (λ hs. AllBring g.L.Round.start helpers (map promised_by hs) c.loop-handle.all.items) all (c.loop-handle.invariant.brings helpers same)
