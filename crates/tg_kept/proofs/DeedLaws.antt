-- What a deed makes of a store and of its file.
use Rattle.std.proofs.Common.{◌≡◌, ◌∙◌, ℕ, ◌≤◌, inl, inr, List, [], ◌∷◌, ◌++◌, drop, length, length-append, take, refl, sym, ap, subst, arith, Result, Ok, Err}
use Rattle.std.specs.Prelude.{◌≢◌, Vec}
use Rattle.std.proofs.Math.Seq.{drop-append_seam, take-append_seam}
use Rattle.std.proofs.lemmas.List.{append-nil}
use Rattle.sqlite_disk.specs.declared.Disk as disk
use Rattle.tg_rights.specs.RightSet.{RightSet}
use Rattle.tg_model.specs.declared.command.Deed.{Deed}
use Rattle.tg_model.specs.declared.command.Deed.TheVariants.{Plain}
use Rattle.tg_model.specs.declared.making.Making.{Making}
use Rattle.tg_model.specs.declared.reply.Reply.{Reply}
use Rattle.tg_model.specs.declared.reply.Reply.TheVariants as reply
use Rattle.tg_model.specs.declared.value.Value.{Value}
use Rattle.tg_model.specs.Making.{deed_making}
use Rattle.tg_journal.specs.declared.entry.Entry.{Entry}
use Rattle.tg_journal.specs.History.{IsLegal, graph_after}
use Rattle.tg_store.specs.declared.fault.ApplyFault.{ApplyFault}
use Rattle.tg_store.specs.declared.fault.CreateFault.{CreateFault}
use Rattle.tg_store.specs.declared.fault.CreateFault.TheVariants as create
use Rattle.tg_store.specs.declared.fault.CreateRefused.{CreateRefused}
use Rattle.tg_store.specs.declared.handing.Hand.{Hand}
use Rattle.tg_store.specs.declared.handing.Handed.{Handed}
use Rattle.tg_store.specs.declared.handing.Handed.TheVariants.{Done, Denied}
use Rattle.tg_store.specs.Handing.{entries_of_hand}
use Rattle.tg_store.specs.Leaving.{leaving}
use Rattle.tg_store.specs.Origin.{Origin, start_at}
use Rattle.tg_store.specs.Store.{StoreState, IsUnchanged, OnlyEnters, graph_of_store}
use Rattle.tg_store.specs.Withdrawing.{withdrawing}
use Rattle.tg_keep.specs.Files.{MayBeWritten}
use Rattle.tg_keep.specs.Lines.{history_of}
use Rattle.tg_keep.specs.declared.file.LineFile.{LineFile}
use Rattle.tg_kept.specs.Deeds.{AreNoneOr, AreOfHand, AreOfMaking, Hands, LeavesOrRefuses, LosesDeed, MakesOrRefuses, Withdraws}
use Rattle.tg_kept.specs.Keeping.{BeganByOpening, KeepsUpTo, KeepsStore, LeavesFrom}
use Rattle.tg_kept.specs.Texts.{SaysFront, kept_lines}

-- The store has these entries of a deed more, and began where it began.
pub record AddsEntries (AreTheirs : List Entry → Type 0) (old new : StoreState) : Type 0 where
  pub made : List Entry
  pub theirs : AreTheirs made
  pub entries : new.entries ≡ old.entries ++ made
  pub opening : new.opening ≡ old.opening
  pub handed : new.handed ≡ old.handed

-- no entry
none_added : (AreTheirs : List Entry → Type 0) (old new : StoreState) → AreTheirs [] → IsUnchanged old new → AddsEntries AreTheirs old new
none_added AreTheirs old new none same = record {
  made = [];
  theirs = none;
  entries = same.entries ∙ sym (append-nil old.entries);
  opening = same.opening;
  handed = same.handed;
}

-- ---- what each deed adds

pub hand_adds : (hand : Hand) (old new : StoreState) (answer : Result Handed ApplyFault) → Hands hand old new answer → AddsEntries (AreOfHand (graph_of_store old) hand) old new
hand_adds hand old new (Ok (Done back)) h =
    let is = h.comes in
    record { made = entries_of_hand hand back; theirs = inr (inl (back, refl)); entries = is.entries; opening = is.opening; handed = is.handed }
hand_adds hand old new (Ok (Denied command denial)) h =
    let is = h.comes in
    record { made = (record { worker = hand.via; deed = Plain command; reply = reply.Denied denial }) ∷ []; theirs = inr (inr (command, (denial, (is.first, refl)))); entries = is.entry.entry; opening = is.entry.opening; handed = is.entry.handed }
hand_adds hand old new (Err why) h = none_added (AreOfHand (graph_of_store old) hand) old new (inl refl) h.refused

pub withdraw_adds : {A E : Type 0} (target : ℕ) (rights : RightSet) (keep : List ℕ) (old new : StoreState) (answer : Result (Vec ℕ A) E) → Withdraws target rights keep old new answer
    → AddsEntries (AreNoneOr (withdrawing (graph_of_store old) target rights keep)) old new
withdraw_adds target rights keep old new (Ok names) w =
    let is = w.withdrawn in
    record { made = withdrawing (graph_of_store old) target rights keep; theirs = inr refl; entries = is.entries; opening = is.opening; handed = is.handed }
withdraw_adds target rights keep old new (Err why) w = none_added (AreNoneOr (withdrawing (graph_of_store old) target rights keep)) old new (inl refl) w.refused

pub leave_adds : (worker : ℕ) (old new : StoreState) (answer : Result ℕ ApplyFault) → LeavesOrRefuses worker old new answer → AddsEntries (AreNoneOr (leaving (graph_of_store old) worker)) old new
leave_adds worker old new (Ok count) l =
    let is = l.left in
    record { made = leaving (graph_of_store old) worker; theirs = inr refl; entries = is.entries; opening = is.opening; handed = is.handed }
leave_adds worker old new (Err why) l = none_added (AreNoneOr (leaving (graph_of_store old) worker)) old new (inl refl) l.refused

one_added : (worker : ℕ) (deed : Deed) (old new : StoreState) (answer : Reply) → OnlyEnters old new worker deed answer → AddsEntries (AreOfMaking worker deed) old new
one_added worker deed old new answer is = record {
  made = (record { worker = worker; deed = deed; reply = answer }) ∷ [];
  theirs = inr (answer, refl);
  entries = is.entry;
  opening = is.opening;
  handed = is.handed;
}

-- a vertex that was refused
refused_adds : (worker : ℕ) (deed : Deed) (old new : StoreState) (why : CreateFault) → (why ≡ create.VerticesFull → OnlyEnters old new worker deed reply.VerticesFull)
    → (why ≡ create.WorkersFull → OnlyEnters old new worker deed reply.WorkersFull) → (why ≢ create.VerticesFull → why ≢ create.WorkersFull → IsUnchanged old new) → AddsEntries (AreOfMaking worker deed) old new
refused_adds worker deed old new create.VerticesFull vertices workers other = one_added worker deed old new reply.VerticesFull (vertices refl)
refused_adds worker deed old new create.WorkersFull vertices workers other = one_added worker deed old new reply.WorkersFull (workers refl)
refused_adds worker deed old new create.NoSuchWorker vertices workers other = none_added (AreOfMaking worker deed) old new (inl refl) (other (λ e. cc) (λ e. cc))
refused_adds worker deed old new create.OutOfMemory vertices workers other = none_added (AreOfMaking worker deed) old new (inl refl) (other (λ e. cc) (λ e. cc))
refused_adds worker deed old new create.HeapFull vertices workers other = none_added (AreOfMaking worker deed) old new (inl refl) (other (λ e. cc) (λ e. cc))

pub make_adds : {P : Type 0} (kind : Making) (worker : ℕ) (label : RightSet) (draft : Value) (old new : StoreState) (answer : Result ℕ (CreateRefused P)) → MakesOrRefuses kind worker label draft old new answer
    → AddsEntries (AreOfMaking worker (deed_making kind label draft)) old new
make_adds kind worker label draft old new (Ok name) m = record {
  made = (record { worker = worker; deed = deed_making kind label draft; reply = reply.Name name }) ∷ [];
  theirs = inr (reply.Name name, refl);
  entries = m.entry;
  opening = m.refusals.opening;
  handed = m.refusals.handed;
}
make_adds kind worker label draft old new (Err refused) m = refused_adds worker (deed_making kind label draft) old new refused.why m.no_more_entry m.too_many_entry m.refused

-- ---- what the file says of it

-- the place after the first store's entries
module _ (AreTheirs : List Entry → Type 0) (old new : StoreState) (place : ℕ) (adds : AddsEntries AreTheirs old new) (from : place ≡ length old.entries) where
  front_is : take place new.entries ≡ old.entries
  front_is = ap (take place) adds.entries ∙ ap (λ n. take n (old.entries ++ adds.made)) from ∙ take-append_seam old.entries adds.made

  rest_is : drop place new.entries ≡ adds.made
  rest_is = ap (drop place) adds.entries ∙ ap (λ n. drop n (old.entries ++ adds.made)) from ∙ drop-append_seam old.entries adds.made

  -- the file of the first store has the front of the new one
  pub keeps_old : {D : Type 0} (g : disk.Ghosts D) (file : LineFile D) → BeganByOpening old.opening → MayBeWritten g file → KeepsStore g old file → old.handed ≤ length old.entries → KeepsUpTo g place new file
  keeps_old g file opened writable keeps within =
      let P : Origin → Type 0 = λ o. BeganByOpening o in
      record {
        opened = subst P (sym adds.opening) opened;
        writable = writable;
        held = omega (arith, adds.handed, from, within);
        within = omega (arith, from, ap length adds.entries, length-append old.entries adds.made);
        says = λ clean. keeps clean ∙ ap (kept_lines old.opening.plan) (sym front_is) ∙ ap (λ (o : Origin). kept_lines o.plan (take place new.entries)) (sym adds.opening);
      }

  -- and what a crash leaves of it is said of the first store
  pub loses_deed : {D : Type 0} (g : disk.Ghosts D) (before after : D) → LeavesFrom g place new before after → LosesDeed g AreTheirs old before after
  loses_deed g before after left =
      let begun_at : Origin → Type 0 = λ o. IsLegal (graph_after (start_at o) (take place new.entries)) (drop place new.entries) in
      let front_at : List Entry → Type 0 = λ es. IsLegal (graph_after (start_at old.opening) es) (drop place new.entries) in
      record {
        made = adds.made;
        theirs = adds.theirs;
        legal = subst (IsLegal (graph_of_store old)) rest_is (subst front_at front_is (subst begun_at adds.opening left.legal));
        crash = λ clean c may.
            let texts = history_of c in
            let O : Origin → Type 0 = λ o. SaysFront o.plan (take place new.entries) (drop place new.entries) texts in
            let F : List Entry → Type 0 = λ es. SaysFront old.opening.plan es (drop place new.entries) texts in
            let R : List Entry → Type 0 = λ es. SaysFront old.opening.plan old.entries es texts in
            subst R rest_is (subst F front_is (subst O adds.opening (left.crash clean c may)));
        unclosed = left.unclosed;
        calm = left.calm;
      }
