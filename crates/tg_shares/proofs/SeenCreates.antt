-- What a session knows of a batch of creates. The lemmas are those of the proofs of `tg_shared` that have their names, which that
-- crate keeps to itself.
use Rattle.std.proofs.Common.{Bool, ◌≡◌, ◌∙◌, ℕ, ◌+◌, List, [], ◌∷◌, ◌++◌, length, length-append, append_assoc, add-zero, ap, arith, refl, subst, sym, true, false, ◌≢◌, ◌⊎◌, inl, inr, ◌<◌, ◌≤◌, Some, Result, Ok, Err, take, drop, get_or}
use Rattle.std.proofs.lemmas.List.{append-nil, map-append, drop_more, length-take-le, take_more}
use Rattle.tg_model.specs.declared.command.Deed.{Deed}
use Rattle.tg_model.specs.declared.reply.Reply.{Reply}
use Rattle.tg_model.specs.Graph.{ProtectionGraph, IsSubject}
use Rattle.tg_journal.specs.declared.entry.Entry.{Entry}
use Rattle.tg_journal.specs.History.{IsLegal, graph_after}
use Rattle.tg_journal.proofs.HistoryLaws.{IsLegal-append}
use Rattle.tg_passes.specs.declared.signed.Maker.TheVariants.{Session}
use Rattle.tg_passes.specs.declared.signed.Signed.{Signed}
use Rattle.tg_passes.specs.Passes.{sign, sign_all, entries_by}
use Rattle.tg_store.specs.Store.{IsFaithful, graph_of_store, StoreState, IsUnchanged}
use Rattle.tg_shared.specs.declared.receipt.Receipt.{Receipt}
use Rattle.tg_shared.specs.Batch.{AddsInLock}
use Rattle.tg_shared.specs.Receipts.{receipt_of, receipts_from}
use Rattle.tg_shared.specs.Serving.{HasNoted, IsMadeAndNoted, NotesRefusal}
use Rattle.tg_shared.specs.Sessions.{KeepsReceipts, LockedState, Records, RecordsNothing, SessionState, SharedStart, retired_behind, AtSeen, HoldsWhenFree, HasGrownBy, IsNobodyAtSeen}
use Rattle.tg_shared.proofs.Balances.{graph_more}
use Rattle.tg_shared.proofs.Calls.{found_with}
use Rattle.tg_shared.proofs.Knowing.{got_more, longer_made, looked_none}
use Rattle.tg_shared.proofs.Leavings.{legal_more}
use Rattle.tg_shared.proofs.Replies.{IsReady, added_all, refused_ready}
use Rattle.tg_shared.proofs.Staying.{behind_append}
use Rattle.std.proofs.lemmas.Option.{slice_get-get_or}
use Rattle.std.specs.Prelude.{IfErr, IfOk, OnOk, nat_lt, slice_get, if◌then◌else◌}
use Rattle.tg_rights.specs.RightSet.{RightSet}
use Rattle.tg_model.specs.declared.command.Deed.TheVariants.{Create}
use Rattle.tg_model.specs.declared.reply.Reply.TheVariants.{Name, VerticesFull}
use Rattle.tg_model.specs.declared.value.Value.{Value}
use Rattle.tg_model.specs.Rules.{IsAllowed, answer_of, step, with_vertex}
use Rattle.tg_word.specs.Word.{nursery_space}
use Rattle.tg_space.specs.SpaceTable.{SpaceTable}
use Rattle.tg_subjects.specs.declared.subject.Subject.{Subject}
use Rattle.tg_subjects.specs.Subjects.{nursery_held}
use Rattle.tg_rows.specs.Spots.{LacksCellsFor}
use Rattle.tg_store.specs.Made.{MayRefuse}
use Rattle.tg_store.specs.declared.fault.CreateFault.{CreateFault}
use Rattle.tg_store.specs.declared.fault.CreateFault.TheVariants as fault
use Rattle.tg_store.specs.declared.fault.CreateRefused.{CreateRefused}
use Rattle.tg_store.proofs.BatchLaws.{graph_still}
use Rattle.tg_shared.specs.declared.creating.CreatesFault.{CreatesFault}
use Rattle.tg_shared.specs.declared.creating.CreatesFault.TheVariants.{Stopped, TooLong}
use Rattle.tg_shared.specs.Creating.{IsCreateRefused, MakesAll, MakesInLock, StopsAtCreate, StopsCreates, StopsMaking, StopsMakingAt, creating, refusing}
use Rattle.tg_shares.proofs.SeenCalls.{adds_at_seen, kept_none}

receipts_append : (at : ℕ) (xs ys : List Entry) → receipts_from at (xs ++ ys) ≡ receipts_from at xs ++ receipts_from (at + length xs) ys
receipts_append at [] ys = ap (λ n. receipts_from n ys) (sym (add-zero at))
receipts_append at (x ∷ xs) ys =
    let same : at + 1 + length xs ≡ at + length (x ∷ xs) = omega arith in
    ap (λ rs. receipt_of at x ∷ rs) (receipts_append (at + 1) xs ys ∙ ap (λ n. receipts_from (at + 1) xs ++ receipts_from n ys) same)

-- no entry
pub adds_none : (v : LockedState) (session : SessionState) → AddsInLock [] v v session session
adds_none v session = record {
  made = sym (append-nil v.store.entries);
  legal = tt;
  opening = refl;
  collections = refl;
  receipts = (refl {A = ℕ}, sym (append-nil session.receipts), refl {A = ℕ}, refl {A = ℕ}, refl {A = Bool}, sym (append-nil session.made));
  signed = sym (append-nil v.signed);
  seen = λ is. is;
}

-- entries after others
pub adds_more : (xs ys : List Entry) (old now new : LockedState) (before mid after : SessionState) → AddsInLock xs old now before mid → AddsInLock ys now new mid after → AddsInLock (xs ++ ys) old new before after
adds_more xs ys old now new before mid after was more =
    let named : mid.worker ≡ before.worker = was.receipts.0 in
    let at : ℕ = length old.store.entries in
    let place : length now.store.entries ≡ at + length xs = ap (λ (es : List Entry). length es) was.made ∙ length-append old.store.entries xs in
    let graph : graph_of_store now.store ≡ graph_after (graph_of_store old.store) xs = graph_more old.store now.store xs was.made was.opening in
    record {
      made = more.made ∙ ap (λ (es : List Entry). es ++ ys) was.made ∙ append_assoc old.store.entries xs ys;
      legal = IsLegal-append (graph_of_store old.store) xs ys was.legal (subst (λ (g : ProtectionGraph). IsLegal g ys) graph more.legal);
      opening = more.opening ∙ was.opening;
      collections = more.collections ∙ was.collections;
      receipts = (
        more.receipts.0 ∙ named,
        more.receipts.1 ∙ (λ i. was.receipts.1 i ++ receipts_from (place i) ys) ∙ append_assoc before.receipts (receipts_from at xs) (receipts_from (at + length xs) ys)
            ∙ ap (λ (rs : List Receipt). before.receipts ++ rs) (sym (receipts_append at xs ys)),
        more.receipts.2 ∙ was.receipts.2,
        more.receipts.3 ∙ was.receipts.3,
        more.receipts.4 ∙ ap (λ (b : Bool). retired_behind b ys) was.receipts.4 ∙ sym (behind_append before.retired xs ys),
        more.receipts.5 ∙ ap (λ (l : List Entry). l ++ ys) was.receipts.5 ∙ append_assoc before.made xs ys,
      );
      signed = more.signed ∙ (λ i. was.signed i ++ sign_all (Session (named i)) ys) ∙ append_assoc old.signed (sign_all (Session before.worker) xs) (sign_all (Session before.worker) ys)
          ∙ ap (λ (l : List Signed). old.signed ++ l) (sym (map-append (sign (Session before.worker)) xs ys));
      seen = λ is. more.seen (was.seen is);
    }

-- one entry, which was noted
pub adds_noted : (old new : LockedState) (before after : SessionState) (deed : Deed) (reply : Reply) → Records old.store new.store before after deed reply → HasNoted old new before after → new.store.opening ≡ old.store.opening
    → new.store.collections ≡ old.store.collections → IsFaithful new.store → AddsInLock ((record { worker = before.worker; deed = deed; reply = reply }) ∷ []) old new before after
adds_noted old new before after deed reply records noted opening collections faithful =
    let e : Entry = record { worker = before.worker; deed = deed; reply = reply } in
    record {
      made = records.entry;
      legal = legal_more old.store new.store (e ∷ []) records.entry opening faithful;
      opening = opening;
      collections = collections;
      receipts = records.receipt;
      signed = noted.signed ∙ ap (λ (es : List Entry). old.signed ++ sign_all (Session before.worker) es) (got_more old.store.entries new.store.entries (e ∷ []) records.entry);
      seen = λ _. noted.seen (λ same. longer_made before.made [] e (sym records.receipt.5 ∙ same));
    }

-- and none, where nothing was done
pub adds_nothing : (old new : LockedState) (before after : SessionState) → RecordsNothing old.store new.store before after → HasNoted old new before after → AddsInLock [] old new before after
adds_nothing old new before after nothing noted =
    let k = nothing.1 in
    let made : new.store.entries ≡ old.store.entries ++ [] = nothing.0.entries ∙ sym (append-nil old.store.entries) in
    let signed : new.signed ≡ old.signed ++ [] = noted.signed ∙ ap (λ (es : List Entry). old.signed ++ sign_all (Session before.worker) es) (got_more old.store.entries new.store.entries [] made) in
    record {
      made = made;
      legal = tt;
      opening = nothing.0.opening;
      collections = nothing.0.collections;
      receipts = (k.0, k.1 ∙ sym (append-nil before.receipts), k.2, k.3, k.4, k.5 ∙ sym (append-nil before.made));
      signed = signed;
      seen = λ is. k.6 ∙ is ∙ sym (append-nil old.signed) ∙ sym signed;
    }

-- what is so after room was made is so from before
pub adds_before : (es : List Entry) (v w : LockedState) (old ready new : SessionState) → KeepsReceipts old ready → AddsInLock es v w ready new → AddsInLock es v w old new
adds_before es v w old ready new k was = record {
  made = was.made;
  legal = was.legal;
  opening = was.opening;
  collections = was.collections;
  receipts = added_all old ready new (length v.store.entries) es (k.0, k.1, k.2, k.3, k.4, k.5, refl) was.receipts;
  signed = was.signed ∙ ap (λ (n : ℕ). v.signed ++ sign_all (Session n) es) k.0;
  seen = λ is. was.seen (k.6 ∙ is);
}

-- ---- names

-- a vertex that is made gets the next name
pub name_made : (g : ProtectionGraph) (x : ℕ) (label : RightSet) (value : Value) (name : ℕ) → answer_of g x (Create label value.law value.state) ≡ Name name → (name ≡ g.made) × ((step g x (Create label value.law value.state)).made ≡ g.made + 1)
name_made g x label value name = by_case (nat_lt g.made g.limit)
  where
    by_case : (b : Bool) → (if b then Name g.made else VerticesFull) ≡ Name name → (name ≡ g.made) × ((if b then with_vertex g x label (record { law = value.law; state = value.state }) else g).made ≡ g.made + 1)
    by_case true is = (cc, refl)
    by_case false is = let no : ⊥ = cc in absurd no

creating_append : (worker : ℕ) (label : RightSet) (xs ys : List Value) (first : ℕ) → creating worker label (xs ++ ys) first ≡ creating worker label xs first ++ creating worker label ys (first + length xs)
creating_append worker label [] ys first = ap (λ n. creating worker label ys n) (sym (add-zero first))
creating_append worker label (x ∷ xs) ys first =
    let same : first + 1 + length xs ≡ first + length (x ∷ xs) = omega arith in
    ap (λ (es : List Entry). (record { worker = worker; deed = Create label x.law x.state; reply = Name first }) ∷ es)
    (creating_append worker label xs ys (first + 1) ∙ ap (λ n. creating worker label xs (first + 1) ++ creating worker label ys n) same)

-- ---- one create

-- the vertex was made, and noted
pub next_made : {P : Type 0} (label : RightSet) (value : Value) (v w : LockedState) (old ready new : SessionState) (r : Result ℕ (CreateRefused P)) → KeepsReceipts old ready → HasNoted v w ready new → w.store.opening ≡ v.store.opening → w.store.collections ≡ v.store.collections
    → IsFaithful w.store → IfOk r (IsMadeAndNoted (Create label value.law value.state) label value v.store w.store ready new) → IfOk r (λ name. AddsInLock (creating old.worker label (value ∷ []) name) v w old new)
next_made label value v w old ready new (Ok name) keeps noted opening collections faithful made =
    subst (λ (n : ℕ). AddsInLock (creating n label (value ∷ []) name) v w old new) keeps.0
    (adds_before (creating ready.worker label (value ∷ []) name) v w old ready new keeps (adds_noted v w ready new (Create label value.law value.state) (Name name) made.entry noted opening collections faithful))
next_made label value v w old ready new (Err refused) keeps noted opening collections faithful made = tt

pub next_named : {P : Type 0} (label : RightSet) (value : Value) (v w : LockedState) (ready new : SessionState) (r : Result ℕ (CreateRefused P)) → IfOk r (IsMadeAndNoted (Create label value.law value.state) label value v.store w.store ready new)
    → IfOk r (λ name. name ≡ (graph_of_store v.store).made) × OnOk r ((graph_of_store w.store).made ≡ (graph_of_store v.store).made + 1)
next_named label value v w ready new (Ok name) made =
    let g : ProtectionGraph = graph_of_store v.store in
    let is = name_made g ready.worker label value name (made.made.name g refl) in
    (is.0, ap (λ (g : ProtectionGraph). g.made) (made.made.step g refl) ∙ is.1)
next_named label value v w ready new (Err refused) made = (tt, tt)

-- or it was refused, and what there is of that was noted
entered_once : (label : RightSet) (value : Value) (v w : LockedState) (ready new : SessionState) (why : CreateFault) → (why ≡ fault.VerticesFull → AddsInLock (refusing ready.worker label value fault.VerticesFull) v w ready new)
    → (why ≢ fault.VerticesFull → why ≢ fault.WorkersFull → AddsInLock [] v w ready new) → why ≢ fault.WorkersFull → AddsInLock (refusing ready.worker label value why) v w ready new
entered_once label value v w ready new fault.VerticesFull full nothing few = full refl
entered_once label value v w ready new fault.WorkersFull full nothing few = absurd (few refl)
entered_once label value v w ready new fault.NoSuchWorker full nothing few = nothing (λ is. let no : ⊥ = cc in no) (λ is. let no : ⊥ = cc in no)
entered_once label value v w ready new fault.OutOfMemory full nothing few = nothing (λ is. let no : ⊥ = cc in no) (λ is. let no : ⊥ = cc in no)
entered_once label value v w ready new fault.HeapFull full nothing few = nothing (λ is. let no : ⊥ = cc in no) (λ is. let no : ⊥ = cc in no)

pub next_refused : {P T : Type 0} (label : RightSet) (value : Value) (v w : LockedState) (old ready new : SessionState) (r : Result T (CreateRefused P)) → KeepsReceipts old ready → HasNoted v w ready new → w.store.opening ≡ v.store.opening → w.store.collections ≡ v.store.collections
    → IsFaithful w.store → NotesRefusal (Create label value.law value.state) v.store w.store ready new r → IfErr r (λ refused. refused.why ≢ fault.WorkersFull) → IfErr r (λ refused. AddsInLock (refusing old.worker label value refused.why) v w old new)
next_refused label value v w old ready new (Ok t) keeps noted opening collections faithful told few = tt
next_refused label value v w old ready new (Err refused) keeps noted opening collections faithful told few =
    subst (λ (n : ℕ). AddsInLock (refusing n label value refused.why) v w old new) keeps.0
    (adds_before (refusing ready.worker label value refused.why) v w old ready new keeps
    (entered_once label value v w ready new refused.why
    (λ is. adds_noted v w ready new (Create label value.law value.state) VerticesFull (told.no_more_entry is).0 noted opening collections faithful)
    (λ some many. adds_nothing v w ready new (told.refused some many) noted) few))

-- why
module _ (label : RightSet) (value : Value) (s new : StoreState) (worker : ℕ) where
  abbrev Lacks : ProtectionGraph → SpaceTable → List Subject → Type 0
  Lacks g table subjects = IsAllowed g worker (Create label value.law value.state) × LacksCellsFor table (nursery_space (nursery_held subjects worker)) 1 worker g.made

  pub reason_still : (why : CreateFault) → (why ≡ fault.NoSuchWorker → ¬ IsSubject (graph_of_store s) worker) → (why ≡ fault.HeapFull → Lacks (graph_of_store s) s.heap.table s.heap.subjects) → why ≢ fault.WorkersFull
      → (why ≢ fault.VerticesFull → why ≢ fault.WorkersFull → IsUnchanged s new) → IsCreateRefused worker label value new why
  reason_still why nobody full few same = record {
    no_such_worker = λ is.
        subst (λ (g : ProtectionGraph). ¬ IsSubject g worker) (sym (graph_still s new (same (λ other. let no : ⊥ = cc (is, other) in no) few))) (nobody is);
    full = λ is.
        let kept : IsUnchanged s new = same (λ other. let no : ⊥ = cc (is, other) in no) few in
        subst (λ (g : ProtectionGraph). Lacks g new.heap.table new.heap.subjects) (sym (graph_still s new kept))
        (subst (λ (subjects : List Subject). Lacks (graph_of_store s) new.heap.table subjects) (sym kept.heap.subjects)
        (subst (λ (t : SpaceTable). Lacks (graph_of_store s) t s.heap.subjects) (sym kept.heap.table) (full is)));
    no_workers_full = few;
  }

pub next_reason : {P T : Type 0} (label : RightSet) (value : Value) (s new : StoreState) (old ready after : SessionState) (r : Result T (CreateRefused P)) → KeepsReceipts old ready → MayRefuse (Create label value.law value.state) ready.worker value s new r
    → NotesRefusal (Create label value.law value.state) s new ready after r → IfErr r (λ refused. refused.why ≢ fault.WorkersFull) → IfErr r (λ refused. IsCreateRefused old.worker label value new refused.why)
next_reason label value s new old ready after (Ok t) keeps told noted few = tt
next_reason label value s new old ready after (Err refused) keeps told noted few =
    subst (λ (n : ℕ). IsCreateRefused n label value new refused.why) keeps.0
    (reason_still label value s new ready.worker refused.why (λ is. (told.no_such_worker (graph_of_store s) refl).0 is) (λ is. told.full (graph_of_store s) refl is) few (λ some many. (noted.refused some many).0))

-- ---- the batch in the lock

-- what comes next of a list
pub next_of : (values rest : List Value) (done : ℕ) (x : Value) → drop done values ≡ x ∷ rest → done < length values → (slice_get values done ≡ Some x) × (drop (done + 1) values ≡ rest) × (take (done + 1) values ≡ take done values ++ x ∷ [])
next_of values rest done x is inside =
    let here : drop done values ≡ get_or values done x ∷ drop (done + 1) values = drop_more values done x inside in
    let both : get_or values done x ∷ drop (done + 1) values ≡ x ∷ rest = sym here ∙ is in
    let first : get_or values done x ≡ x = cc in
    let others : drop (done + 1) values ≡ rest = cc in
    (slice_get-get_or values done x inside ∙ ap (λ (v : Value). Some v) first, others, take_more values done x inside ∙ ap (λ (v : Value). take done values ++ v ∷ []) first)

-- one vertex more
pub makes_one : (label : RightSet) (values : List Value) (old now new : LockedState) (before mid after : SessionState) (done first name : ℕ) (x : Value) → take (done + 1) values ≡ take done values ++ x ∷ [] → done ≤ length values → name ≡ first + done
    → AddsInLock (creating before.worker label (take done values) first) old now before mid → AddsInLock (creating mid.worker label (x ∷ []) name) now new mid after → AddsInLock (creating before.worker label (take (done + 1) values) first) old new before after
makes_one label values old now new before mid after done first name x more inside next was one =
    let worker : ℕ = before.worker in
    let named : mid.worker ≡ worker = was.receipts.0 in
    let place : name ≡ first + length (take done values) = next ∙ ap (λ n. first + n) (sym (length-take-le done values inside)) in
    let all : creating worker label (take done values) first ++ creating mid.worker label (x ∷ []) name ≡ creating worker label (take (done + 1) values) first =
    (λ i. creating worker label (take done values) first ++ creating (named i) label (x ∷ []) (place i))
    ∙ sym (creating_append worker label (take done values) (x ∷ []) first)
    ∙ ap (λ (vs : List Value). creating worker label vs first) (sym more) in
    subst (λ (es : List Entry). AddsInLock es old new before after) all (adds_more (creating worker label (take done values) first) (creating mid.worker label (x ∷ []) name) old now new before mid after was one)

-- or the batch stops
pub stops_making : (label : RightSet) (values left : List Value) (old now new : LockedState) (before mid after : SessionState) (done first : ℕ) (x : Value) (why : CreateFault) → slice_get values done ≡ Some x → left ≡ drop done values
    → AddsInLock (creating before.worker label (take done values) first) old now before mid → AddsInLock (refusing mid.worker label x why) now new mid after → IsCreateRefused mid.worker label x new.store why
    → StopsMakingAt label values left old new before after done why
stops_making label values left old now new before mid after done first x why there is was one reason =
    let worker : ℕ = before.worker in
    let named : mid.worker ≡ worker = was.receipts.0 in
    record {
      refused = x;
      there = there;
      left_is = is;
      first = first;
      added = adds_more (creating worker label (take done values) first) (refusing worker label x why) old now new before mid after was (subst (λ (n : ℕ). AddsInLock (refusing n label x why) now new mid after) named one);
      reason = subst (λ (n : ℕ). IsCreateRefused n label x new.store why) named reason;
    }

-- ---- what the session knows

pub makes_all : (start : SharedStart) (label : RightSet) (values : List Value) (v w : LockedState) (old ready new : SessionState) → IsReady start v old ready → MakesInLock label values v w ready new → MakesAll start label values old new
makes_all start label values v w old ready new is_so made =
    let named : ready.worker ≡ old.worker = is_so.looked.kept.0 in
    record {
      first = made.first;
      added = adds_at_seen start v w old ready new (creating old.worker label values made.first) is_so
          (subst (λ (n : ℕ). AddsInLock (creating n label values made.first) v w ready new) named made.added);
    }

pub stops_at_create : (start : SharedStart) (label : RightSet) (values left : List Value) (v w : LockedState) (old ready new : SessionState) (done : ℕ) (why : CreateFault) → IsReady start v old ready → HoldsWhenFree start w
    → StopsMakingAt label values left v w ready new done why → StopsAtCreate start label values left old new done why
stops_at_create start label values left v w old ready new done why is_so held stop =
    let named : ready.worker ≡ old.worker = is_so.looked.kept.0 in
    let es : List Entry = creating old.worker label (take done values) stop.first ++ refusing old.worker label stop.refused why in
    let added : AddsInLock es v w ready new = subst (λ (n : ℕ). AddsInLock (creating n label (take done values) stop.first ++ refusing n label stop.refused why) v w ready new) named stop.added in
    record {
      refused = stop.refused;
      there = stop.there;
      left_is = stop.left_is;
      entries = es;
      first = stop.first;
      theirs = refl;
      none = λ is. (refused_ready start v old ready new is_so (kept_none es v w ready new is is_so.all added)).0;
      some = λ _. adds_at_seen start v w old ready new es is_so added;
      reason = λ _. found_with start new.seen (λ s. IsCreateRefused old.worker label stop.refused s why) w held (added.seen is_so.all) (subst (λ (n : ℕ). IsCreateRefused n label stop.refused w.store why) named stop.reason);
    }

pub stops_creates : (start : SharedStart) (label : RightSet) (values left : List Value) (v w : LockedState) (old ready new : SessionState) → IsReady start v old ready → HoldsWhenFree start w → (fault : CreatesFault) → StopsMaking label values left v w ready new fault
    → StopsCreates start label values left old new fault
stops_creates start label values left v w old ready new is_so held TooLong stop = absurd stop
stops_creates start label values left v w old ready new is_so held (Stopped done why) stop = stops_at_create start label values left v w old ready new done why is_so held stop

-- ---- before the lock

first_value : (values : List Value) → 0 < length values → (x : Value) × (slice_get values 0 ≡ Some x)
first_value [] some = absurd (omega (arith, some))
first_value (x ∷ values) some = (x, slice_get-get_or (x ∷ values) 0 x some)

early_entries : (worker : ℕ) (label : RightSet) (x : Value) (why : CreateFault) → {N : Type 0} → ((why ≡ fault.NoSuchWorker) × N) ⊎ (why ≡ fault.OutOfMemory) → refusing worker label x why ≡ []
early_entries worker label x why (inl none) = ap (λ (f : CreateFault). refusing worker label x f) none.0
early_entries worker label x why (inr memory) = ap (λ (f : CreateFault). refusing worker label x f) memory

nobody_early : (start : SharedStart) (old new : SessionState) (label : RightSet) (x : Value) → new.seen ≡ old.seen → IsNobodyAtSeen start old.seen old.worker → AtSeen start new.seen (λ s. IsCreateRefused old.worker label x s fault.NoSuchWorker)
nobody_early start old new label x same none = (
  none.0,
  none.1,
  none.2,
  (
    subst (HasGrownBy start none.0) (sym same) none.3.0,
    record { no_such_worker = λ _. none.3.1; full = λ is. let no : ⊥ = cc in absurd no; no_workers_full = λ is. let no : ⊥ = cc in no },
  ),
)

pub creates_early : (start : SharedStart) (old new : SessionState) (label : RightSet) (values left : List Value) (why : CreateFault) → 0 < length values → left ≡ values → KeepsReceipts old new → entries_by (Session old.worker) old.seen ≡ old.made
    → ((why ≡ fault.NoSuchWorker) × IsNobodyAtSeen start old.seen old.worker) ⊎ (why ≡ fault.OutOfMemory) → StopsAtCreate start label values left old new 0 why
creates_early start old new label values left why some same keeps own told =
    let first = first_value values some in
    record {
      refused = first.0;
      there = first.1;
      left_is = same;
      entries = [];
      first = 0;
      theirs = sym (early_entries old.worker label first.0 why told);
      none = λ _. looked_none old new keeps own;
      some = λ low. absurd (omega (arith, low));
      reason = λ other.
          elim told as (λ _. AtSeen start new.seen (λ s. IsCreateRefused old.worker label first.0 s why)) [
            | inl nobody ↦ subst (λ (f : CreateFault). AtSeen start new.seen (λ s. IsCreateRefused old.worker label first.0 s f)) (sym nobody.0) (nobody_early start old new label first.0 keeps.6 nobody.1)
            | inr memory ↦ absurd (other memory)
          ];
    }
