-- The reply to a served command, computed on the content of a heap, is that of the graph that it represents.
use Rattle.std.proofs.Common.{◌≡◌, ℕ, ◌<◌, ◌+◌, List, None, Some, refl, sym, ap, subst, ◌∙◌, arith}
use Rattle.std.proofs.lemmas.List.Sums.{get_or-le-sum_by}
use Rattle.std.specs.List.{All, sum_by}
use Rattle.std.specs.Prelude.{Option}
use Rattle.tg_rights.specs.RightSet.{RightSet}
use Rattle.tg_model.specs.declared.value.Value.{Value}
use Rattle.tg_model.specs.declared.command.Command.{Command}
use Rattle.tg_model.specs.declared.command.Command.TheVariants.{Take}
use Rattle.tg_model.specs.declared.command.Deed.TheVariants.{Plain}
use Rattle.tg_model.specs.declared.reply.Reply.{Reply}
use Rattle.tg_model.specs.declared.reply.Reply.TheVariants.{Done, Denied}
use Rattle.tg_model.specs.declared.reply.Denial.{Denial}
use Rattle.tg_model.specs.Graph.{ProtectionGraph, IsSubject}
use Rattle.tg_model.specs.Rules.{Permits, denial_of, reply_of, step, subjects_after}
use Rattle.tg_model.proofs.AllowedLaws.{permits-no_denial, plain_cases, step-allowed, step-denied}
use Rattle.tg_model.proofs.NameLaws.{each_reply}
use Rattle.tg_rows.specs.Content.{Content}
use Rattle.tg_subjects.specs.Subjects.{IsSubjectNamed}
use Rattle.tg_subjects.specs.declared.subject.Subject.{Subject}
use Rattle.tg_rows.specs.Rows.{IsVertexAt}
use Rattle.tg_graph.specs.Heap.{HeapState, content_of, nursery_of, subject_names}
use Rattle.tg_graph.specs.Standing.{IsContentOf}
use Rattle.tg_graph.proofs.StandingLaws.{denial_of-stands, StandsFor-denied, StandsFor-served, IsSameContent-self}
use Rattle.tg_rules.specs.Effect.{IsContentAfter, IsReplyOn, OnlyLooks, ShowsSomething}
use Rattle.tg_rules.specs.Verdict.{HasSubject}
use Rattle.tg_rules.proofs.DecisionLaws.{answer-denied, answer-served}
use Rattle.tg_rules.proofs.LookingLaws.{content-looked, subjects-looked}
use Rattle.tg_store.specs.Counts.{refusal_told}
use Rattle.tg_store.specs.Inner.Answering.{IsReplied}

-- whether something is shown rests on the command alone
shows_alike : (label : ℕ → ℕ → RightSet) (value : ℕ → Option Value) (n x : ℕ) (command : Command) → ShowsSomething (reply_of label value n x command) → OnlyLooks command
shows_alike label value n x (Take rights y z) shows = shows
shows_alike label value n x command shows = shows

-- a command that changes something is answered that it is done
pub reply_of-done : (label : ℕ → ℕ → RightSet) (value : ℕ → Option Value) (n x : ℕ) (command : Command) → (OnlyLooks command → ⊥) → reply_of label value n x command ≡ Done
reply_of-done label value n x command changes =
    each_reply (λ r. (ShowsSomething r → ⊥) → r ≡ Done) (λ none. refl) (λ values none. absurd (none tt)) (λ edges none. absurd (none tt)) label value n x command
    (λ shows. changes (shows_alike label value n x command shows))

-- the active subject that was found by its name
pub subject_found : (heap : HeapState) (name : ℕ) (found : Subject) → IsSubjectNamed heap.subjects name found → found.nursery ≡ nursery_of heap name → IsVertexAt heap.table.spaces name found.place → HasSubject heap found
subject_found heap name found is nursery vertex = record {
  there = is.there;
  nursery = nursery ∙ ap (nursery_of heap) (sym is.named);
  vertex = subst (λ (x : ℕ). IsVertexAt heap.table.spaces x found.place) (sym is.named) vertex;
}

-- who is to be served may do it on the graph too
pub permitted : (c : Content) (g : ProtectionGraph) → IsContentOf c g → (x : ℕ) (command : Command) → IsSubject g x → denial_of c.label c.value x command ≡ None → Permits g.label g.value x command
permitted c g stands x command subject none = permits-no_denial g.label g.value x command (sym (denial_of-stands c g stands x command subject) ∙ none)

-- a reply that says what the heap has tells of no refusal
pub looked-none : (c : Content) (x : ℕ) (command : Command) (reply : Reply) → IsReplyOn c x command reply → refusal_told reply ≡ None
looked-none c x command reply is =
    let above : ℕ = sum_by (λ (n : ℕ). n) c.names + 1 in
    let below : All (λ name. name < above) c.names = λ k d low. let at_most = get_or-le-sum_by (λ (n : ℕ). n) c.names k d low in omega (arith, at_most) in
    ap refusal_told (is above below) ∙ each_reply (λ r. refusal_told r ≡ None) refl (λ values. refl) (λ edges. refl) c.label c.value above x command

-- a command makes no vertex
pub made-plain : (g : ProtectionGraph) (x : ℕ) (command : Command) → (step g x (Plain command)).made ≡ g.made
made-plain g x command = plain_cases g x (λ k. k.made ≡ g.made) command refl (λ allowed. refl)

-- ---- the outcome of a command on the heap

-- one that is served
served : (old new : HeapState) (x : ℕ) (command : Command) (reply : Reply) → denial_of (content_of old).label (content_of old).value x command ≡ None → IsReplyOn (content_of old) x command reply → IsContentAfter (content_of old) (content_of new) x command
    → subject_names new ≡ subjects_after (subject_names old) x command → IsReplied x command old new reply
served old new x command reply none is content subjects = record {
  answered = λ g stands subject. sym (answer-served (content_of old) g stands x command subject reply none is);
  subjects = λ g stands subject names. subjects ∙ ap (λ (xs : List ℕ). subjects_after xs x command) names
      ∙ sym (ap (λ (k : ProtectionGraph). k.subjects) (step-allowed g x command (permitted (content_of old) g stands x command subject none)));
  step = λ g stands subject. StandsFor-served (content_of old) (content_of new) g stands x subject command none content;
}

pub replied-looked : (heap : HeapState) (x : ℕ) (command : Command) (reply : Reply) → denial_of (content_of heap).label (content_of heap).value x command ≡ None → OnlyLooks command → IsReplyOn (content_of heap) x command reply → IsReplied x command heap heap reply
replied-looked heap x command reply none looks is = served heap heap x command reply none is (content-looked (content_of heap) x command looks) (subjects-looked (subject_names heap) x command looks)

pub replied-changed : (old new : HeapState) (x : ℕ) (command : Command) → denial_of (content_of old).label (content_of old).value x command ≡ None → (OnlyLooks command → ⊥) → IsContentAfter (content_of old) (content_of new) x command
    → subject_names new ≡ subjects_after (subject_names old) x command → IsReplied x command old new Done
replied-changed old new x command none changes content subjects = served old new x command Done none (λ n below. sym (reply_of-done (content_of old).label (content_of old).value n x command changes)) content subjects

-- one that is denied
pub replied-denied : (heap : HeapState) (x : ℕ) (command : Command) (denial : Denial) → denial_of (content_of heap).label (content_of heap).value x command ≡ Some denial → IsReplied x command heap heap (Denied denial)
replied-denied heap x command denial denied = record {
  answered = λ g stands subject. sym (answer-denied (content_of heap) g stands x command subject denial denied);
  subjects = λ g stands subject names. names ∙ sym (ap (λ (k : ProtectionGraph). k.subjects) (step-denied g x command denial (sym (denial_of-stands (content_of heap) g stands x command subject) ∙ denied)));
  step = λ g stands subject. StandsFor-denied (content_of heap) (content_of heap) g stands x subject command denial denied (IsSameContent-self (content_of heap));
}
