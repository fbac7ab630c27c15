-- What a session knows of a batch of commands. The lemmas are those of the proofs of `tg_shared` that have their names, which that
-- crate keeps to itself.
use Rattle.std.proofs.Common.{◌≡◌, ◌∙◌, ℕ, List, [], ◌∷◌, ◌++◌, length, map, ap, arith, refl, subst, sym, ◌⊎◌, inl, inr, ◌<◌, Some, take}
use Rattle.std.proofs.lemmas.List.{append-nil}
use Rattle.tg_journal.specs.declared.entry.Entry.{Entry}
use Rattle.tg_journal.specs.History.{IsLegal}
use Rattle.tg_passes.specs.declared.signed.Maker.TheVariants.{Session}
use Rattle.tg_passes.specs.Passes.{sign_all, entries_by}
use Rattle.tg_store.specs.Store.{graph_of_store}
use Rattle.tg_shared.specs.Batch.{AddsAtSeen, AddsInLock, AnswersAll, ServesAll, StopsAtCall, StopsCalls, StopsServing, StopsServingAt}
use Rattle.tg_shared.specs.Sessions.{AddsReceipts, KeepsReceipts, LockedState, SessionState, SharedStart, AtSeen, HasGrownBy, HoldsWhenFree, IsNobodyAtSeen}
use Rattle.tg_shared.proofs.Calls.{found_with, worker_not_full}
use Rattle.tg_shared.proofs.Knowing.{places_are, looked_none}
use Rattle.tg_shared.proofs.Replies.{IsReady, added_all, refused_ready}
use Rattle.std.proofs.lemmas.Option.{slice_get-get_or, slice_get_within}
use Rattle.std.specs.Prelude.{slice_get}
use Rattle.tg_model.specs.declared.command.Command.{Command}
use Rattle.tg_model.specs.declared.command.Deed.TheVariants.{Plain}
use Rattle.tg_store.specs.Batch.{AreOfCommands, IsRefusedAt}
use Rattle.tg_store.specs.declared.batch.BatchFault.{BatchFault}
use Rattle.tg_store.specs.declared.batch.BatchFault.TheVariants.{Stopped, TooLong}
use Rattle.tg_store.specs.declared.fault.ApplyFault.{ApplyFault}
use Rattle.tg_store.specs.declared.fault.ApplyFault.TheVariants.{NoSuchWorker, OutOfMemory}

pub adds_at_seen : (start : SharedStart) (v w : LockedState) (old ready new : SessionState) (es : List Entry) → IsReady start v old ready → AddsInLock es v w ready new → AddsAtSeen start es old new
adds_at_seen start v w old ready new es is_so added =
    let keeps = is_so.looked.kept in
    record {
      before = v.signed;
      sees = is_so.sees;
      receipts = subst (λ (n : ℕ). AddsReceipts old new n es) (places_are start v.store v.signed is_so.held.grown_by) (added_all old ready new _ es keeps added.receipts);
      legal = found_with start v.signed (λ s. IsLegal (graph_of_store s) es) v is_so.held refl added.legal;
      seen = added.seen is_so.all ∙ added.signed ∙ ap (λ (n : ℕ). v.signed ++ sign_all (Session n) es) keeps.0;
    }

-- if no entry was added, the session has the receipts that it had
pub kept_none : (es : List Entry) (v w : LockedState) (ready new : SessionState) → es ≡ [] → ready.seen ≡ v.signed → AddsInLock es v w ready new → KeepsReceipts ready new
kept_none es v w ready new is all added =
    let r : AddsReceipts ready new (length v.store.entries) [] = subst (AddsReceipts ready new (length v.store.entries)) is added.receipts in
    let signed : w.signed ≡ v.signed = added.signed ∙ ap (λ (es : List Entry). v.signed ++ sign_all (Session ready.worker) es) is ∙ append-nil v.signed in
    (r.0, r.1 ∙ append-nil ready.receipts, r.2, r.3, r.4, r.5 ∙ append-nil ready.made, added.seen all ∙ signed ∙ sym all)

-- the entries of the commands
added_of : (v w : LockedState) (ready new : SessionState) (commands : List Command) → (served : ServesAll commands v w ready new) → AddsInLock served.applies.made v w ready new
added_of v w ready new commands served =
    record { made = served.applies.entries; legal = served.applies.legal; opening = served.applies.opening; collections = served.applies.collections; receipts = served.receipts; signed = served.signed; seen = served.seen }

pub answers_all : (start : SharedStart) (v w : LockedState) (old ready new : SessionState) (commands : List Command) → IsReady start v old ready → ServesAll commands v w ready new → AnswersAll start commands old new
answers_all start v w old ready new commands is_so served =
    let made : List Entry = served.applies.made in
    record {
      entries = made;
      theirs = subst (λ (n : ℕ). AreOfCommands n commands made) is_so.looked.kept.0 served.applies.theirs;
      added = adds_at_seen start v w old ready new made is_so (added_of v w ready new commands served);
    }

none_of : (made : List Entry) → map (λ (e : Entry). e.deed) made ≡ [] → made ≡ []
none_of [] is = refl
none_of (e ∷ made) is = let no : ⊥ = cc in absurd no

-- no command was taken
none_kept : (commands : List Command) (v w : LockedState) (ready new : SessionState) → commands ≡ [] → ready.seen ≡ v.signed → ServesAll commands v w ready new → KeepsReceipts ready new
none_kept commands v w ready new is all served =
    kept_none served.applies.made v w ready new (none_of served.applies.made (served.applies.theirs.deeds ∙ ap (map (λ (c : Command). Plain c)) is)) all (added_of v w ready new commands served)

pub stops_at_call : (start : SharedStart) (v w : LockedState) (old ready new : SessionState) (commands : List Command) (done : ℕ) (why : ApplyFault) → IsReady start v old ready → HoldsWhenFree start w → StopsServingAt commands v w ready new done why → StopsAtCall start commands old new done why
stops_at_call start v w old ready new commands done why is_so held stop =
    let keeps = is_so.looked.kept in
    record {
      place = slice_get_within commands done stop.refused.next stop.refused.there;
      none = λ zero. (refused_ready start v old ready new is_so (none_kept (take done commands) v w ready new (ap (λ (n : ℕ). take n commands) zero) is_so.all stop.served)).0;
      some = λ _. answers_all start v w old ready new (take done commands) is_so stop.served;
      refused = λ _. found_with start new.seen (λ s. IsRefusedAt old.worker commands s done why) w held (stop.served.seen is_so.all) (subst (λ (n : ℕ). IsRefusedAt n commands w.store done why) keeps.0 stop.refused);
    }

pub stops_calls : (start : SharedStart) (v w : LockedState) (old ready new : SessionState) (commands : List Command) → IsReady start v old ready → HoldsWhenFree start w → (fault : BatchFault) → StopsServing commands v w ready new fault → StopsCalls start commands old new fault
stops_calls start v w old ready new commands is_so held TooLong stop = absurd stop
stops_calls start v w old ready new commands is_so held (Stopped done why) stop = stops_at_call start v w old ready new commands done why is_so held stop

first_there : (commands : List Command) → 0 < length commands → (x : Command) × (slice_get commands 0 ≡ Some x)
first_there [] some = absurd (omega (arith, some))
first_there (x ∷ commands) some = (x, slice_get-get_or (x ∷ commands) 0 x some)

nobody_first : (start : SharedStart) (old new : SessionState) (commands : List Command) → 0 < length commands → new.seen ≡ old.seen → IsNobodyAtSeen start old.seen old.worker → AtSeen start new.seen (λ s. IsRefusedAt old.worker commands s 0 NoSuchWorker)
nobody_first start old new commands some same none =
    let first = first_there commands some in (
      none.0,
      none.1,
      none.2,
      (
        subst (HasGrownBy start none.0) (sym same) none.3.0,
        record { next = first.0; there = first.1; no_such_worker = ((λ _. none.3.1), (λ _. refl)); full = λ is. absurd (worker_not_full is) },
      ),
    )

pub stops_early : (start : SharedStart) (old new : SessionState) (commands : List Command) (why : ApplyFault) → 0 < length commands → KeepsReceipts old new → entries_by (Session old.worker) old.seen ≡ old.made
    → (why ≡ NoSuchWorker × IsNobodyAtSeen start old.seen old.worker) ⊎ (why ≡ OutOfMemory) → StopsAtCall start commands old new 0 why
stops_early start old new commands why some keeps own told = record {
  place = some;
  none = λ _. looked_none old new keeps own;
  some = λ low. absurd (omega (arith, low));
  refused = λ other.
      elim told as (λ _. AtSeen start new.seen (λ s. IsRefusedAt old.worker commands s 0 why)) [
        | inl nobody ↦ subst (λ (f : ApplyFault). AtSeen start new.seen (λ s. IsRefusedAt old.worker commands s 0 f)) (sym nobody.0) (nobody_first start old new commands some keeps.6 nobody.1)
        | inr memory ↦ absurd (other memory)
      ];
}
