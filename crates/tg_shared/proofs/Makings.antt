-- What the answer of a make tells of its entry, and what is in the lock then.
use Rattle.std.specs.Prelude.{IfOk, IfErr, IsErrAnd}
use Rattle.std.proofs.Common.{◌≡◌, ◌≢◌, ℕ, ◌+◌, ◌∷◌, ◌∙◌, [], false, Option, Some, None, Result, Ok, Err, ap, refl, subst, sym}
use Rattle.tg_rights.specs.RightSet.{RightSet}
use Rattle.tg_model.specs.declared.command.Deed.{Deed}
use Rattle.tg_model.specs.declared.reply.Reply.{Reply}
use Rattle.tg_model.specs.declared.reply.Reply.TheVariants.{Name, VerticesFull, WorkersFull}
use Rattle.tg_model.specs.declared.command.Command.TheVariants.{Retire}
use Rattle.tg_model.specs.declared.command.Deed.TheVariants.{Plain}
use Rattle.tg_model.specs.declared.making.Making.{Making}
use Rattle.tg_model.specs.declared.making.Making.TheVariants.{Object, Subject}
use Rattle.tg_model.specs.Making.{deed_making}
use Rattle.tg_model.specs.declared.value.Value.{Value}
use Rattle.tg_store.specs.Made.{IsMadeFor}
use Rattle.tg_store.specs.declared.fault.CreateFault.{CreateFault}
use Rattle.tg_store.specs.declared.fault.CreateFault.TheVariants as fault
use Rattle.tg_store.specs.declared.fault.CreateRefused.{CreateRefused}
use Rattle.tg_passes.specs.Passes.{RollState}
use Rattle.tg_store.specs.Store.{StoreState, Enters}
use Rattle.tg_shared.specs.Serving.{HasNoted, IsMadeAndNoted, NotesRefusal, Signs}
use Rattle.tg_shared.specs.Sessions.{GoesOn, IsBalanced, IsRolled, LockedState, Records, RecordsNothing, SessionState, SharedStart, made_subject, reply_entered, reply_made, sessions_made}
use Rattle.tg_shared.proofs.Balances.{locked_as, locked_entered, locked_same}
use Rattle.tg_shared.proofs.Knowing.{noted_as, noted_none, one_own, rolled_more, rolled_same}

pub object_not_subject : Object ≡ Subject → ⊥
object_not_subject is = cc

-- who makes a vertex does not retire by it
pub making_stays : (kind : Making) (label : RightSet) (value : Value) → deed_making kind label value ≡ Plain Retire → ⊥
making_stays Object label value is = cc
making_stays Subject label value is = cc

pub same_reply : {told : Option Reply} {a b : Reply} → told ≡ Some a → told ≡ Some b → a ≡ b
same_reply is here = cc

-- a refusal that makes an entry has one of two replies
pub entered_as : (E : Reply → Type 0) (why : CreateFault) (reply : Reply) → reply_entered why ≡ Some reply → (why ≡ fault.VerticesFull → E VerticesFull) → (why ≡ fault.WorkersFull → E WorkersFull) → E reply
entered_as E fault.VerticesFull reply is v w = let same : VerticesFull ≡ reply = cc in subst E same (v refl)
entered_as E fault.WorkersFull reply is v w = let same : WorkersFull ≡ reply = cc in subst E same (w refl)
entered_as E other reply is v w = let no : ⊥ = cc is in absurd no

-- and an answer one of three
pub made_as : {P : Type 0} (E : Reply → Type 0) (answer : Result ℕ (CreateRefused P)) (reply : Reply) → reply_made answer ≡ Some reply → IfOk answer (λ name. E (Name name))
    → IfErr answer (λ refused. refused.why ≡ fault.VerticesFull → E VerticesFull) → IfErr answer (λ refused. refused.why ≡ fault.WorkersFull → E WorkersFull) → E reply
made_as E (Ok name) reply is named v w = let same : Name name ≡ reply = cc in subst E same named
made_as E (Err refused) reply is named v w = entered_as E refused.why reply is v w

-- and it is not that there is no such worker
pub made_by_one : {P : Type 0} (answer : Result ℕ (CreateRefused P)) (reply : Reply) → reply_made answer ≡ Some reply → IsErrAnd answer (λ refused. refused.why ≡ fault.NoSuchWorker) → ⊥
made_by_one (Ok name) reply is none = none
made_by_one (Err refused) reply is none = let told = ap reply_entered none in let no : ⊥ = cc (told, is) in no

-- and leaves the heap as it was
pub heap_stays : {P : Type 0} (old new : StoreState) (answer : Result ℕ (CreateRefused P)) → IfErr answer (λ refused. refused.why ≡ fault.VerticesFull → new.heap ≡ old.heap) → IfErr answer (λ refused. refused.why ≡ fault.WorkersFull → new.heap ≡ old.heap)
    → IfErr answer (λ refused. (reply : Reply) → reply_entered refused.why ≡ Some reply → new.heap ≡ old.heap)
heap_stays old new (Ok name) v w = tt
heap_stays old new (Err refused) v w = λ reply is. entered_as (λ _. new.heap ≡ old.heap) refused.why reply is v w

entered_none : (why : CreateFault) → why ≢ fault.VerticesFull → why ≢ fault.WorkersFull → reply_entered why ≡ None
entered_none fault.VerticesFull v w = absurd (v refl)
entered_none fault.WorkersFull v w = absurd (w refl)
entered_none other v w = refl

-- what is noted of a refusal, and what of a vertex that was made
pub refused_noted : {P T N : Type 0} (deed : Deed) (old new : StoreState) (before after : SessionState) (refused : CreateRefused P) → ((reply : Reply) → reply_entered refused.why ≡ Some reply → Records old new before after deed reply × N)
    → ((reply : Reply) → reply_entered refused.why ≡ Some reply → new.heap ≡ old.heap) → (reply_entered refused.why ≡ None → RecordsNothing old new before after) → NotesRefusal {T = T} deed old new before after (Err refused)
refused_noted deed old new before after refused noted same nothing = record {
  no_more_entry = λ why. let is = ap reply_entered why in ((noted VerticesFull is).0, same VerticesFull is);
  too_many_entry = λ why. let is = ap reply_entered why in ((noted WorkersFull is).0, same WorkersFull is);
  refused = λ some few. nothing (entered_none refused.why some few);
}

pub refusal_noted : {P N : Type 0} (deed : Deed) (old new : StoreState) (before after : SessionState) (answer : Result ℕ (CreateRefused P)) → ((reply : Reply) → reply_made answer ≡ Some reply → Records old new before after deed reply × N)
    → IfErr answer (λ refused. (reply : Reply) → reply_entered refused.why ≡ Some reply → new.heap ≡ old.heap) → (reply_made answer ≡ None → RecordsNothing old new before after) → NotesRefusal deed old new before after answer
refusal_noted deed old new before after (Ok name) noted same nothing = record { no_more_entry = tt; too_many_entry = tt; refused = tt }
refusal_noted deed old new before after (Err refused) noted same nothing = refused_noted deed old new before after refused noted same nothing

pub made_noted : {P N : Type 0} (deed : Deed) (label : RightSet) (value : Value) (old new : StoreState) (before after : SessionState) (answer : Result ℕ (CreateRefused P)) → ((reply : Reply) → reply_made answer ≡ Some reply → Records old new before after deed reply × N)
    → IfOk answer (IsMadeFor deed before.worker label value old new) → IfOk answer (IsMadeAndNoted deed label value old new before after)
made_noted deed label value old new before after (Ok name) noted made = record { entry = (noted (Name name) refl).0; made = made }
made_noted deed label value old new before after (Err refused) noted made = tt

-- What the roll has stays so there.
pub rolled_noted : (start : SharedStart) (old new : StoreState) (before after : SessionState) (roll next : RollState) (entered : ℕ) (deed : Deed) (noted : Option Reply) → IsRolled start old roll entered → new.opening ≡ old.opening
    → ((reply : Reply) → noted ≡ Some reply → Enters old new before.worker deed reply) → ((reply : Reply) → noted ≡ Some reply → Signs roll next before after ((record { worker = before.worker; deed = deed; reply = reply }) ∷ []))
    → (noted ≡ None → (new.entries ≡ old.entries) × (next ≡ roll)) → IsRolled start new next entered
rolled_noted start old new before after roll next entered deed (Some reply) held opening entry rolled none =
    rolled_more start old new roll next before.worker entered _ held (entry reply refl) opening (one_own before.worker _ refl) (rolled reply refl).roll
rolled_noted start old new before after roll next entered deed None held opening entry rolled none =
    let same = none refl in
    subst (λ (r : RollState). IsRolled start new r entered) (sym same.1) (rolled_same start old new roll entered held same.0 opening)

-- And what a session entered is noted as its own.
pub signed_noted : (v : LockedState) (new : StoreState) (sessions entered : ℕ) (before after : SessionState) (roll next : RollState) (deed : Deed) (noted : Option Reply) → v.signed ≡ roll.signed
    → ((reply : Reply) → noted ≡ Some reply → Enters v.store new before.worker deed reply) → ((reply : Reply) → noted ≡ Some reply → Signs roll next before after ((record { worker = before.worker; deed = deed; reply = reply }) ∷ []))
    → (noted ≡ None → (new.entries ≡ v.store.entries) × (next ≡ roll) × (after.made ≡ before.made)) → HasNoted v (locked_as new sessions entered next.signed) before after
signed_noted v new sessions entered before after roll next deed (Some reply) same entry rolled none = noted_as v new sessions entered before after roll next _ same (entry reply refl) (rolled reply refl)
signed_noted v new sessions entered before after roll next deed None same entry rolled none = let told = none refl in noted_none v new sessions entered next.signed before after told.0 (ap (λ (r : RollState). r.signed) told.1 ∙ sym same) told.2

-- What is so in the lock stays so where what was entered of a make is noted, and it made no subject.
pub locked_noted : {P Q : Type 0} {out : ℕ} (start : SharedStart) (old new : StoreState) (before after : SessionState) (first sessions total next rest parts : ℕ) (deed : Deed) (noted : Option Reply)
    → ((reply : Reply) → noted ≡ Some reply → Records old new before after deed reply × (next ≡ total + 1)) → (noted ≡ None → RecordsNothing old new before after × (next ≡ total))
    → ((reply : Reply) → noted ≡ Some reply → made_subject deed reply ≡ false) → new.opening ≡ old.opening → new.heap.table.limits ≡ old.heap.table.limits → new.handed ≡ old.handed
    → IsBalanced old first sessions total rest parts × P × (Q × (out ≡ old.handed)) × GoesOn start old × (sessions ≡ sessions_made start old.entries)
    → IsBalanced new first sessions next rest parts × P × (Q × (out ≡ new.handed)) × GoesOn start new × (sessions ≡ sessions_made start new.entries)
locked_noted start old new before after first sessions total next rest parts deed (Some reply) some none object opening limits handed held =
    let told = some reply refl in
    locked_entered start old new first sessions total next rest parts before.worker deed reply (object reply refl) held told.0.entry opening limits handed told.1
locked_noted start old new before after first sessions total next rest parts deed None some none object opening limits handed held =
    let told = none refl in
    let same = locked_same start old new first sessions total rest parts held told.0.0.entries opening limits handed in
    (subst (λ (n : ℕ). IsBalanced new first sessions n rest parts) (sym told.1) same.0, same.1, same.2, same.3, same.4)
