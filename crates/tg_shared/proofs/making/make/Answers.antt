use Rattle.std.proofs.Common.{◌≡◌, ◌∙◌, ◌++◌, ◌∷◌, [], ℕ, List, ap, length, refl, rules, subst, sym}
use Rattle.std.specs.Prelude.{IfOk}
use Rattle.std.proofs.lemmas.Result.{IfErr-weaker}
use Rattle.tg_model.specs.declared.command.Deed.{Deed}
use Rattle.tg_model.specs.Graph.{IsSubject}
use Rattle.tg_model.specs.Making.{deed_making}
use Rattle.tg_store.specs.Made.{IsMadeFor, MayRefuse}
use Rattle.tg_store.specs.Store.{Enters, graph_of_store}
use Rattle.tg_journal.specs.declared.entry.Entry.{Entry}
use Rattle.tg_model.specs.declared.reply.Reply.{Reply}
use Rattle.tg_passes.specs.declared.signed.Maker.TheVariants.{Session}
use Rattle.tg_passes.specs.Passes.{RollState, sign}
use Rattle.tg_shared.specs.Serving.{RefusesCrowd, Signs}
use Rattle.tg_shared.specs.Sessions.{AddsReceipt, KeepsReceipts, SessionState}
use Rattle.tg_shared.proofs.Knowing.{sees_as}
use Rattle.tg_shared.proofs.Noting.{gone_moved}
use Rattle.tg_shared.proofs.Replies.{added}
use Rattle.tg_shared.proofs.Makings.{heap_stays, made_as, made_by_one, making_stays, same_reply}
use Rattle.tg_shared.proofs.making.make.Goals.{in-Some, in_default}
use Rattle.tg_shared.proofs.making.make.Goals as goal

pub note-requires-clause-gone : goal.note-requires-clause-gone
note-requires-clause-gone g c = λ is. absurd (making_stays c.args.kind c.args.label _ (sym c.deed-deed.ensures ∙ is))

-- a session that has retired is refused by the store
pub note-requires-clause-still : goal.note-requires-clause-still
note-requires-clause-still g c = λ sees retired gone.
    let keeps = c.take_copy-state.ensures.receipts in
    let out = c.requires.out (sees_as c.args.register.now.roll.signed c.args.session.now c.take_copy-state.new.self keeps sees) (gone_moved g.L.Round.start _ _ _ _ keeps.6 keeps.0 gone) in
    made_by_one c.make-answer.result c.in-Some.reply (sym c.in-Some.ensures) ((c.make-answer.ensures.refusals.no_such_worker (graph_of_store c.args.store.now) refl).1 (subst (λ (n : ℕ). ¬ IsSubject (graph_of_store c.args.store.now) n) (sym c.worker-worker.ensures) out))

-- what the store told of the worker is reported of the session's
pub returns-clause-made : goal.returns-clause-made
returns-clause-made g c =
    subst (λ (n : ℕ). IfOk c.make-answer.result (IsMadeFor (deed_making c.args.kind c.args.label c.args.draft) n c.args.label c.args.draft c.args.store.now c.make-answer.new.self)) c.worker-worker.ensures c.make-answer.ensures.made

pub returns-clause-refusals : goal.returns-clause-refusals
returns-clause-refusals g c =
    subst (λ (n : ℕ). MayRefuse (deed_making c.args.kind c.args.label c.args.draft) n c.args.draft c.args.store.now c.make-answer.new.self c.make-answer.result) c.worker-worker.ensures c.make-answer.ensures.refusals

pub returns-clause-too_many : goal.returns-clause-too_many
returns-clause-too_many g c = IfErr-weaker c.make-answer.result _ _ (λ refused told why. (told why).0) (c.make-answer.ensures.too_many (graph_of_store c.args.store.now) refl)

pub returns-clause-crowded : goal.returns-clause-crowded
returns-clause-crowded g c = λ is. subst (λ (n : ℕ). RefusesCrowd n c.args.store.now c.make-answer.result) c.worker-worker.ensures (record {
  too_many = λ graph stands. IfErr-weaker c.make-answer.result _ _ (λ refused told why. let all = told why in (all.1, all.2, all.3)) (c.make-answer.ensures.too_many graph stands);
  crowded = λ graph stands crowd. c.make-answer.ensures.crowded is graph stands crowd.0 crowd.1 crowd.2;
})

pub returns-clause-same_heap : goal.returns-clause-same_heap
returns-clause-same_heap g c =
    heap_stays c.args.store.now c.make-answer.new.self c.make-answer.result (IfErr-weaker c.make-answer.result _ _ (λ refused told why. (told why).heap) c.make-answer.ensures.no_more_entry)
    (IfErr-weaker c.make-answer.result _ _ (λ refused told why. (told why).heap) c.make-answer.ensures.too_many_entry)

-- the receipt of what was made
receipt_made : (before copy after : SessionState) (at place : ℕ) (given deed : Deed) (got reply : Reply) → KeepsReceipts before copy → AddsReceipt copy after at given got → at ≡ place → given ≡ deed → got ≡ reply → AddsReceipt before after place deed reply
receipt_made before copy after at place given deed got reply keeps adds there is same =
    added before copy after place deed reply (keeps.0, keeps.1, keeps.2, keeps.3, keeps.4, keeps.5, refl)
    (subst (λ (n : ℕ). AddsReceipt copy after n deed reply) there (subst (λ (d : Deed). AddsReceipt copy after at d reply) is (subst (AddsReceipt copy after at given) same adds)))

-- and what it notes
signs_made : (roll next last : RollState) (before copy after end : SessionState) (e f : Entry) → Signs roll next copy after (e ∷ []) → copy.worker ≡ before.worker → e ≡ f → last ≡ next → end ≡ after → Signs roll last before end (f ∷ [])
signs_made roll next last before copy after end e f signs named is same_roll same = record {
  roll = same_roll ∙ signs.roll ∙ (λ i. record { signed = roll.signed ++ sign (Session (named i)) (is i) ∷ []; below = roll.below });
  seen = ap (λ (x : SessionState). x.seen) same ∙ signs.seen ∙ ap (λ (r : RollState). r.signed) (sym same_roll);
}

pub returns-clause-noted : goal.returns-clause-noted
returns-clause-noted g c = λ reply is.
    let deed : Deed = deed_making c.args.kind c.args.label c.args.draft in
    elim c.match-reply_made.branch [
      | in-Some w ↦
          let same : w.in-Some.reply ≡ reply = same_reply (sym w.in-Some.ensures) is in
          let given : w.deed-deed.result ≡ deed = search rules in
          let entry : Enters c.args.store.now c.make-answer.new.self c.worker-worker.result deed reply =
          made_as (Enters c.args.store.now c.make-answer.new.self c.worker-worker.result deed) c.make-answer.result reply is c.make-answer.ensures.entry
          (IfErr-weaker c.make-answer.result _ _ (λ refused told why. (told why).entry) c.make-answer.ensures.no_more_entry)
          (IfErr-weaker c.make-answer.result _ _ (λ refused told why. (told why).entry) c.make-answer.ensures.too_many_entry) in (
            record {
              entry = subst (λ (n : ℕ). Enters c.args.store.now c.make-answer.new.self n deed reply) c.worker-worker.ensures entry;
              receipt = subst (λ (s : SessionState). AddsReceipt c.args.session.now s (length c.args.store.now.entries) deed reply) (sym w.session-is)
                  (receipt_made c.args.session.now c.take_copy-state.new.self w.note.new.self c.len-at.result (length c.args.store.now.entries) w.deed-deed.result deed w.in-Some.reply reply c.take_copy-state.ensures.receipts w.note.ensures.receipt
                  (c.len-at.ensures ∙ ap (λ (l : List Entry). length l) c.journal.ensures.entries) given same);
            },
            ap (λ r. r.book.total) w.register-is ∙ w.note.ensures.book,
          )
      | in_default w ↦ absurd (w.in_default.not-Some reply (c.reply_made.ensures ∙ is))
    ]

pub returns-clause-signed : goal.returns-clause-signed
returns-clause-signed g c = λ reply is.
    let deed : Deed = deed_making c.args.kind c.args.label c.args.draft in
    elim c.match-reply_made.branch [
      | in-Some w ↦
          let same : w.in-Some.reply ≡ reply = same_reply (sym w.in-Some.ensures) is in
          let given : w.deed-deed.result ≡ deed = search rules in
          signs_made c.args.register.now.roll w.note.new.register.roll c.match-reply_made.register.roll c.args.session.now c.take_copy-state.new.self w.note.new.self c.match-reply_made.session _ _ w.note.ensures.signed c.take_copy-state.ensures.receipts.0
          (λ i. record { worker = c.worker-worker.ensures i; deed = given i; reply = same i }) (ap (λ r. r.roll) w.register-is) w.session-is
      | in_default w ↦ absurd (w.in_default.not-Some reply (c.reply_made.ensures ∙ is))
    ]
