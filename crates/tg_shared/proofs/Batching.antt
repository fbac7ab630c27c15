-- A batch in the lock, command by command, and what its session knows then.
use Rattle.std.proofs.Common.{Bool, ◌≡◌, ◌≢◌, ◌⊎◌, inl, inr, ◌∙◌, ℕ, ◌+◌, ◌<◌, List, [], ◌∷◌, ◌++◌, Some, length, map, take, get_or, length-append, ap, arith, refl, subst, sym}
use Rattle.std.proofs.lemmas.List.{append-nil}
use Rattle.std.proofs.lemmas.Option.{slice_get-get_or, slice_get_within}
use Rattle.std.specs.Prelude.{IfErr, Result, Err, slice_get}
use Rattle.tg_model.specs.declared.command.Command.{Command}
use Rattle.tg_model.specs.declared.command.Deed.{Deed}
use Rattle.tg_model.specs.declared.command.Deed.TheVariants.{Plain}
use Rattle.tg_model.specs.declared.reply.Reply.{Reply}
use Rattle.tg_model.specs.Graph.{IsSubject}
use Rattle.tg_journal.specs.declared.entry.Entry.{Entry}
use Rattle.tg_journal.specs.History.{IsLegal}
use Rattle.tg_passes.specs.declared.signed.Maker.TheVariants.{Session}
use Rattle.tg_passes.specs.declared.signed.Signed.{Signed}
use Rattle.tg_passes.specs.Passes.{entries_by, sign_all}
use Rattle.tg_store.specs.Batch.{Applies, AreOfCommands, IsRefusedAt}
use Rattle.tg_store.specs.Store.{StoreState, Enters, IsFaithful, IsUnchanged, graph_of_store}
use Rattle.tg_store.specs.declared.batch.BatchFault.{BatchFault}
use Rattle.tg_store.specs.declared.batch.BatchFault.TheVariants.{Stopped, TooLong}
use Rattle.tg_store.specs.declared.fault.ApplyFault.{ApplyFault}
use Rattle.tg_store.specs.declared.fault.ApplyFault.TheVariants.{HeapFull, NoSuchWorker, OutOfMemory}
use Rattle.tg_store.proofs.BatchLaws.{KeepsRest, applied_more, applied_none, applied_still, refused_still}
use Rattle.tg_shared.specs.Batch.{AddsInLock, AnswersAll, ServesAll, StopsAtCall, StopsCalls, StopsServing, StopsServingAt}
use Rattle.tg_shared.specs.Serving.{HasNoted, KeepsRound, ServesCommand}
use Rattle.tg_shared.specs.Sessions.{AddsReceipts, AtSeen, HasGrownBy, HoldsWhenFree, IsNobodyAtSeen, KeepsReceipts, LockedState, Records, SessionState, SharedStart, retired_behind}
use Rattle.tg_shared.specs.declared.receipt.Receipt.{Receipt}
use Rattle.tg_shared.specs.Receipts.{receipts_from}
use Rattle.tg_shared.proofs.Adding.{adds_at_seen, kept_none}
use Rattle.tg_shared.proofs.Calls.{found_with, worker_not_full}
use Rattle.tg_shared.proofs.Knowing.{got_more, longer_made, looked_none}
use Rattle.tg_shared.proofs.Leavings.{adds_one}
use Rattle.tg_shared.proofs.Noting.{sign_more}
use Rattle.tg_shared.proofs.Replies.{IsReady, refused_ready}

-- ---- in the lock

pub served_none : (v : LockedState) (session : SessionState) → ServesAll [] v v session session
served_none v session = record {
  applies = applied_none session.worker v.store;
  receipts = (refl {A = ℕ}, sym (append-nil session.receipts), refl {A = ℕ}, refl {A = ℕ}, refl {A = Bool}, sym (append-nil session.made));
  signed = sym (append-nil v.signed);
  seen = λ is. is;
}

-- one command more
pub served_more : (commands : List Command) (old now new : LockedState) (before mid after : SessionState) (done : ℕ) (x : Command) (reply : Reply) → done < length commands → x ≡ get_or commands done x → ServesAll (take done commands) old now before mid
    → Records now.store new.store mid after (Plain x) reply → KeepsRound now new → new.store.collections ≡ now.store.collections → HasNoted now new mid after → IsFaithful new.store → ServesAll (take (done + 1) commands) old new before after
served_more commands old now new before mid after done x reply inside is was records kept collections noted faithful =
    let named : mid.worker ≡ before.worker = was.receipts.0 in
    let e : Entry = record { worker = before.worker; deed = Plain x; reply = reply } in
    let made : List Entry = was.applies.made in
    let entry : Enters now.store new.store before.worker (Plain x) reply = subst (λ (n : ℕ). Enters now.store new.store n (Plain x) reply) named records.entry in
    let rest : KeepsRest now.store new.store = record { opening = kept.opening; handed = kept.handed; limits = kept.limits; collections = collections } in
    let place : length now.store.entries ≡ length old.store.entries + length made = ap (λ (es : List Entry). length es) was.applies.entries ∙ length-append old.store.entries made in
    record {
      applies = applied_more before.worker commands old.store now.store new.store done x inside is was.applies reply entry rest faithful;
      receipts = adds_one before mid after (length old.store.entries) (length now.store.entries) made e was.receipts records.receipt place (sym named);
      signed =
          noted.signed ∙ (λ i. was.signed i ++ sign_all (Session (named i)) (got_more now.store.entries new.store.entries (e ∷ []) entry i))
          ∙ sign_more (Session before.worker) old.signed made e;
      seen = λ _. noted.seen (λ same. longer_made mid.made [] (record { worker = mid.worker; deed = Plain x; reply = reply }) (sym records.receipt.5 ∙ same));
    }

-- and one that is refused
pub served_still : (commands : List Command) (old now new : LockedState) (before mid after : SessionState) → ServesAll commands old now before mid → IsUnchanged now.store new.store → KeepsReceipts mid after → HasNoted now new mid after → ServesAll commands old new before after
served_still commands old now new before mid after was same keeps noted =
    let none : new.signed ≡ now.signed =
    noted.signed ∙ ap (λ (es : List Entry). now.signed ++ sign_all (Session mid.worker) es) (got_more now.store.entries new.store.entries [] (same.entries ∙ sym (append-nil now.store.entries))) ∙ append-nil now.signed in
    record {
      applies = applied_still before.worker commands old.store now.store new.store was.applies same;
      receipts = (keeps.0 ∙ was.receipts.0, keeps.1 ∙ was.receipts.1, keeps.2 ∙ was.receipts.2, keeps.3 ∙ was.receipts.3, keeps.4 ∙ was.receipts.4, keeps.5 ∙ was.receipts.5);
      signed = none ∙ was.signed;
      seen = λ is. keeps.6 ∙ was.seen is ∙ sym none;
    }

pub stops_serving : {T : Type 0} (commands : List Command) (old now new : LockedState) (before mid after : SessionState) (done : ℕ) (x : Command) (why : ApplyFault) → done < length commands → x ≡ get_or commands done x → ServesAll (take done commands) old now before mid
    → ServesCommand {T = T} x now.store new.store mid after (Err why) → HasNoted now new mid after → StopsServingAt commands old new before after done why
stops_serving {T = T} commands old now new before mid after done x why inside is was told noted = record {
  served = served_still (take done commands) old now new before mid after was told.refused.0 told.refused.1 noted;
  refused = subst (λ (n : ℕ). IsRefusedAt n commands new.store done why) was.receipts.0
      (refused_still T mid.worker commands now.store new.store done x inside is why (told.no_such_worker, told.full) told.refused.0);
}

-- ---- what the session knows

-- the entries of the commands
added_of : (v w : LockedState) (ready new : SessionState) (commands : List Command) → (served : ServesAll commands v w ready new) → AddsInLock served.applies.made v w ready new
added_of v w ready new commands served =
    record { made = served.applies.entries; legal = served.applies.legal; opening = served.applies.opening; collections = served.applies.collections; receipts = served.receipts; signed = served.signed; seen = served.seen }

pub answers_all : (start : SharedStart) (v w : LockedState) (old ready new : SessionState) (commands : List Command) → IsReady start v old ready → ServesAll commands v w ready new → AnswersAll start commands old new
answers_all start v w old ready new commands is_so served =
    let made : List Entry = served.applies.made in
    record {
      entries = made;
      theirs = subst (λ (n : ℕ). AreOfCommands n commands made) is_so.looked.kept.0 served.applies.theirs;
      added = adds_at_seen start v w old ready new made is_so (added_of v w ready new commands served);
    }

none_of : (made : List Entry) → map (λ (e : Entry). e.deed) made ≡ [] → made ≡ []
none_of [] is = refl
none_of (e ∷ made) is = let no : ⊥ = cc in absurd no

-- no command was taken
none_kept : (commands : List Command) (v w : LockedState) (ready new : SessionState) → commands ≡ [] → ready.seen ≡ v.signed → ServesAll commands v w ready new → KeepsReceipts ready new
none_kept commands v w ready new is all served =
    kept_none served.applies.made v w ready new (none_of served.applies.made (served.applies.theirs.deeds ∙ ap (map (λ (c : Command). Plain c)) is)) all (added_of v w ready new commands served)

pub stops_at_call : (start : SharedStart) (v w : LockedState) (old ready new : SessionState) (commands : List Command) (done : ℕ) (why : ApplyFault) → IsReady start v old ready → HoldsWhenFree start w → StopsServingAt commands v w ready new done why → StopsAtCall start commands old new done why
stops_at_call start v w old ready new commands done why is_so held stop =
    let keeps = is_so.looked.kept in
    record {
      place = slice_get_within commands done stop.refused.next stop.refused.there;
      none = λ zero. (refused_ready start v old ready new is_so (none_kept (take done commands) v w ready new (ap (λ (n : ℕ). take n commands) zero) is_so.all stop.served)).0;
      some = λ _. answers_all start v w old ready new (take done commands) is_so stop.served;
      refused = λ _. found_with start new.seen (λ s. IsRefusedAt old.worker commands s done why) w held (stop.served.seen is_so.all) (subst (λ (n : ℕ). IsRefusedAt n commands w.store done why) keeps.0 stop.refused);
    }

pub stops_calls : (start : SharedStart) (v w : LockedState) (old ready new : SessionState) (commands : List Command) → IsReady start v old ready → HoldsWhenFree start w → (fault : BatchFault) → StopsServing commands v w ready new fault → StopsCalls start commands old new fault
stops_calls start v w old ready new commands is_so held TooLong stop = absurd stop
stops_calls start v w old ready new commands is_so held (Stopped done why) stop = stops_at_call start v w old ready new commands done why is_so held stop

-- so it is never refused for its length
pub not_too_long : (commands : List Command) (v w : LockedState) (ready new : SessionState) (answer : Result ℕ BatchFault) → IfErr answer (StopsServing commands v w ready new) → answer ≡ Err TooLong → ⊥
not_too_long commands v w ready new answer stops is = subst (λ (r : Result ℕ BatchFault). IfErr r (StopsServing commands v w ready new)) is stops

-- ---- before the lock

first_there : (commands : List Command) → 0 < length commands → (x : Command) × (slice_get commands 0 ≡ Some x)
first_there [] some = absurd (omega (arith, some))
first_there (x ∷ commands) some = (x, slice_get-get_or (x ∷ commands) 0 x some)

nobody_first : (start : SharedStart) (old new : SessionState) (commands : List Command) → 0 < length commands → new.seen ≡ old.seen → IsNobodyAtSeen start old.seen old.worker → AtSeen start new.seen (λ s. IsRefusedAt old.worker commands s 0 NoSuchWorker)
nobody_first start old new commands some same none =
    let first = first_there commands some in (
      none.0,
      none.1,
      none.2,
      (
        subst (HasGrownBy start none.0) (sym same) none.3.0,
        record { next = first.0; there = first.1; no_such_worker = ((λ _. none.3.1), (λ _. refl)); full = λ is. absurd (worker_not_full is) },
      ),
    )

pub stops_early : (start : SharedStart) (old new : SessionState) (commands : List Command) (why : ApplyFault) → 0 < length commands → KeepsReceipts old new → entries_by (Session old.worker) old.seen ≡ old.made
    → (why ≡ NoSuchWorker × IsNobodyAtSeen start old.seen old.worker) ⊎ (why ≡ OutOfMemory) → StopsAtCall start commands old new 0 why
stops_early start old new commands why some keeps own told = record {
  place = some;
  none = λ _. looked_none old new keeps own;
  some = λ low. absurd (omega (arith, low));
  refused = λ other.
      elim told as (λ _. AtSeen start new.seen (λ s. IsRefusedAt old.worker commands s 0 why)) [
        | inl nobody ↦ subst (λ (f : ApplyFault). AtSeen start new.seen (λ s. IsRefusedAt old.worker commands s 0 f)) (sym nobody.0) (nobody_first start old new commands some keeps.6 nobody.1)
        | inr memory ↦ absurd (other memory)
      ];
}
