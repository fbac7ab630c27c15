-- A batch of creates in the lock, vertex by vertex, and what its session knows then.
use Rattle.std.proofs.Common.{Bool, true, false, ◌≡◌, ◌≢◌, ◌⊎◌, inl, inr, ◌∙◌, ℕ, ◌+◌, ◌<◌, ◌≤◌, List, [], ◌∷◌, ◌++◌, Some, Result, Ok, Err, length, take, drop, get_or, add-zero, ap, arith, refl, subst, sym}
use Rattle.std.proofs.lemmas.List.{append-nil, drop_more, length-take-le, take_more}
use Rattle.std.proofs.lemmas.Option.{slice_get-get_or}
use Rattle.std.specs.Prelude.{IfErr, IfOk, OnOk, nat_lt, slice_get, if◌then◌else◌}
use Rattle.tg_rights.specs.RightSet.{RightSet}
use Rattle.tg_model.specs.declared.command.Deed.{Deed}
use Rattle.tg_model.specs.declared.command.Deed.TheVariants.{Create}
use Rattle.tg_model.specs.declared.law.Law.{Law}
use Rattle.tg_model.specs.declared.reply.Reply.{Reply}
use Rattle.tg_model.specs.declared.reply.Reply.TheVariants.{Name, VerticesFull}
use Rattle.tg_model.specs.declared.value.Value.{Value}
use Rattle.tg_model.specs.Graph.{ProtectionGraph, IsSubject}
use Rattle.tg_model.specs.Rules.{IsAllowed, answer_of, step, with_vertex}
use Rattle.tg_word.specs.Word.{nursery_space}
use Rattle.tg_space.specs.SpaceTable.{SpaceTable}
use Rattle.tg_subjects.specs.declared.subject.Subject.{Subject}
use Rattle.tg_subjects.specs.Subjects.{nursery_held}
use Rattle.tg_rows.specs.Spots.{LacksCellsFor}
use Rattle.tg_journal.specs.declared.entry.Entry.{Entry}
use Rattle.tg_passes.specs.declared.signed.Maker.TheVariants.{Session}
use Rattle.tg_passes.specs.Passes.{entries_by}
use Rattle.tg_store.specs.Made.{IsMadeFor, MayRefuse}
use Rattle.tg_store.specs.Store.{StoreState, IsFaithful, IsUnchanged, graph_of_store}
use Rattle.tg_store.specs.declared.fault.CreateFault.{CreateFault}
use Rattle.tg_store.specs.declared.fault.CreateFault.TheVariants as fault
use Rattle.tg_store.specs.declared.fault.CreateRefused.{CreateRefused}
use Rattle.tg_store.proofs.BatchLaws.{graph_still}
use Rattle.tg_shared.specs.declared.creating.CreatesFault.{CreatesFault}
use Rattle.tg_shared.specs.declared.creating.CreatesFault.TheVariants.{Stopped, TooLong}
use Rattle.tg_shared.specs.Batch.{AddsInLock}
use Rattle.tg_shared.specs.Creating.{IsCreateRefused, MakesAll, MakesInLock, StopsAtCreate, StopsCreates, StopsMaking, StopsMakingAt, creating, refusing}
use Rattle.tg_shared.specs.Serving.{HasNoted, IsMadeAndNoted, NotesRefusal}
use Rattle.tg_shared.specs.Sessions.{AtSeen, HoldsWhenFree, HasGrownBy, IsNobodyAtSeen, KeepsReceipts, LockedState, SessionState, SharedStart}
use Rattle.tg_shared.proofs.Adding.{adds_at_seen, adds_before, adds_more, adds_noted, adds_nothing, adds_still, kept_none}
use Rattle.tg_shared.proofs.Calls.{found_with}
use Rattle.tg_shared.proofs.Knowing.{looked_none}
use Rattle.tg_shared.proofs.Replies.{IsReady, refused_ready}

-- ---- names

-- a vertex that is made gets the next name
pub name_made : (g : ProtectionGraph) (x : ℕ) (label : RightSet) (value : Value) (name : ℕ) → answer_of g x (Create label value.law value.state) ≡ Name name → (name ≡ g.made) × ((step g x (Create label value.law value.state)).made ≡ g.made + 1)
name_made g x label value name = by_case (nat_lt g.made g.limit)
  where
    by_case : (b : Bool) → (if b then Name g.made else VerticesFull) ≡ Name name → (name ≡ g.made) × ((if b then with_vertex g x label (record { law = value.law; state = value.state }) else g).made ≡ g.made + 1)
    by_case true is = (cc, refl)
    by_case false is = let no : ⊥ = cc in absurd no

creating_append : (worker : ℕ) (label : RightSet) (xs ys : List Value) (first : ℕ) → creating worker label (xs ++ ys) first ≡ creating worker label xs first ++ creating worker label ys (first + length xs)
creating_append worker label [] ys first = ap (λ n. creating worker label ys n) (sym (add-zero first))
creating_append worker label (x ∷ xs) ys first =
    let same : first + 1 + length xs ≡ first + length (x ∷ xs) = omega arith in
    ap (λ (es : List Entry). (record { worker = worker; deed = Create label x.law x.state; reply = Name first }) ∷ es)
    (creating_append worker label xs ys (first + 1) ∙ ap (λ n. creating worker label xs (first + 1) ++ creating worker label ys n) same)

-- ---- one create

-- the vertex was made, and noted
pub next_made : {P : Type 0} (label : RightSet) (value : Value) (v w : LockedState) (old ready new : SessionState) (r : Result ℕ (CreateRefused P)) → KeepsReceipts old ready → HasNoted v w ready new → w.store.opening ≡ v.store.opening → w.store.collections ≡ v.store.collections
    → IsFaithful w.store → IfOk r (IsMadeAndNoted (Create label value.law value.state) label value v.store w.store ready new) → IfOk r (λ name. AddsInLock (creating old.worker label (value ∷ []) name) v w old new)
next_made label value v w old ready new (Ok name) keeps noted opening collections faithful made =
    subst (λ (n : ℕ). AddsInLock (creating n label (value ∷ []) name) v w old new) keeps.0
    (adds_before (creating ready.worker label (value ∷ []) name) v w old ready new keeps (adds_noted v w ready new (Create label value.law value.state) (Name name) made.entry noted opening collections faithful))
next_made label value v w old ready new (Err refused) keeps noted opening collections faithful made = tt

pub next_named : {P : Type 0} (label : RightSet) (value : Value) (v w : LockedState) (ready new : SessionState) (r : Result ℕ (CreateRefused P)) → IfOk r (IsMadeAndNoted (Create label value.law value.state) label value v.store w.store ready new)
    → IfOk r (λ name. name ≡ (graph_of_store v.store).made) × OnOk r ((graph_of_store w.store).made ≡ (graph_of_store v.store).made + 1)
next_named label value v w ready new (Ok name) made =
    let g : ProtectionGraph = graph_of_store v.store in
    let is = name_made g ready.worker label value name (made.made.name g refl) in
    (is.0, ap (λ (g : ProtectionGraph). g.made) (made.made.step g refl) ∙ is.1)
next_named label value v w ready new (Err refused) made = (tt, tt)

-- or it was refused, and what there is of that was noted
entered_once : (label : RightSet) (value : Value) (v w : LockedState) (ready new : SessionState) (why : CreateFault) → (why ≡ fault.VerticesFull → AddsInLock (refusing ready.worker label value fault.VerticesFull) v w ready new)
    → (why ≢ fault.VerticesFull → why ≢ fault.WorkersFull → AddsInLock [] v w ready new) → why ≢ fault.WorkersFull → AddsInLock (refusing ready.worker label value why) v w ready new
entered_once label value v w ready new fault.VerticesFull full nothing few = full refl
entered_once label value v w ready new fault.WorkersFull full nothing few = absurd (few refl)
entered_once label value v w ready new fault.NoSuchWorker full nothing few = nothing (λ is. let no : ⊥ = cc in no) (λ is. let no : ⊥ = cc in no)
entered_once label value v w ready new fault.OutOfMemory full nothing few = nothing (λ is. let no : ⊥ = cc in no) (λ is. let no : ⊥ = cc in no)
entered_once label value v w ready new fault.HeapFull full nothing few = nothing (λ is. let no : ⊥ = cc in no) (λ is. let no : ⊥ = cc in no)

pub next_refused : {P T : Type 0} (label : RightSet) (value : Value) (v w : LockedState) (old ready new : SessionState) (r : Result T (CreateRefused P)) → KeepsReceipts old ready → HasNoted v w ready new → w.store.opening ≡ v.store.opening → w.store.collections ≡ v.store.collections
    → IsFaithful w.store → NotesRefusal (Create label value.law value.state) v.store w.store ready new r → IfErr r (λ refused. refused.why ≢ fault.WorkersFull) → IfErr r (λ refused. AddsInLock (refusing old.worker label value refused.why) v w old new)
next_refused label value v w old ready new (Ok t) keeps noted opening collections faithful told few = tt
next_refused label value v w old ready new (Err refused) keeps noted opening collections faithful told few =
    subst (λ (n : ℕ). AddsInLock (refusing n label value refused.why) v w old new) keeps.0
    (adds_before (refusing ready.worker label value refused.why) v w old ready new keeps
    (entered_once label value v w ready new refused.why
    (λ is. adds_noted v w ready new (Create label value.law value.state) VerticesFull (told.no_more_entry is).0 noted opening collections faithful)
    (λ some many. adds_nothing v w ready new (told.refused some many) noted) few))

-- why
module _ (label : RightSet) (value : Value) (s new : StoreState) (worker : ℕ) where
  abbrev Lacks : ProtectionGraph → SpaceTable → List Subject → Type 0
  Lacks g table subjects = IsAllowed g worker (Create label value.law value.state) × LacksCellsFor table (nursery_space (nursery_held subjects worker)) 1 worker g.made

  pub reason_still : (why : CreateFault) → (why ≡ fault.NoSuchWorker → ¬ IsSubject (graph_of_store s) worker) → (why ≡ fault.HeapFull → Lacks (graph_of_store s) s.heap.table s.heap.subjects) → why ≢ fault.WorkersFull
      → (why ≢ fault.VerticesFull → why ≢ fault.WorkersFull → IsUnchanged s new) → IsCreateRefused worker label value new why
  reason_still why nobody full few same = record {
    no_such_worker = λ is.
        subst (λ (g : ProtectionGraph). ¬ IsSubject g worker) (sym (graph_still s new (same (λ other. let no : ⊥ = cc (is, other) in no) few))) (nobody is);
    full = λ is.
        let kept : IsUnchanged s new = same (λ other. let no : ⊥ = cc (is, other) in no) few in
        subst (λ (g : ProtectionGraph). Lacks g new.heap.table new.heap.subjects) (sym (graph_still s new kept))
        (subst (λ (subjects : List Subject). Lacks (graph_of_store s) new.heap.table subjects) (sym kept.heap.subjects)
        (subst (λ (t : SpaceTable). Lacks (graph_of_store s) t s.heap.subjects) (sym kept.heap.table) (full is)));
    no_workers_full = few;
  }

pub next_reason : {P T : Type 0} (label : RightSet) (value : Value) (s new : StoreState) (old ready after : SessionState) (r : Result T (CreateRefused P)) → KeepsReceipts old ready → MayRefuse (Create label value.law value.state) ready.worker value s new r
    → NotesRefusal (Create label value.law value.state) s new ready after r → IfErr r (λ refused. refused.why ≢ fault.WorkersFull) → IfErr r (λ refused. IsCreateRefused old.worker label value new refused.why)
next_reason label value s new old ready after (Ok t) keeps told noted few = tt
next_reason label value s new old ready after (Err refused) keeps told noted few =
    subst (λ (n : ℕ). IsCreateRefused n label value new refused.why) keeps.0
    (reason_still label value s new ready.worker refused.why (λ is. (told.no_such_worker (graph_of_store s) refl).0 is) (λ is. told.full (graph_of_store s) refl is) few (λ some many. (noted.refused some many).0))

-- without memory for the copy
pub no_copy : (worker : ℕ) (label : RightSet) (value : Value) (s : StoreState) → IsCreateRefused worker label value s fault.OutOfMemory
no_copy worker label value s = record {
  no_such_worker = λ is. let no : ⊥ = cc in absurd no;
  full = λ is. let no : ⊥ = cc in absurd no;
  no_workers_full = λ is. let no : ⊥ = cc in no;
}

-- ---- the batch in the lock

-- what comes next of a list
pub next_of : (values rest : List Value) (done : ℕ) (x : Value) → drop done values ≡ x ∷ rest → done < length values → (slice_get values done ≡ Some x) × (drop (done + 1) values ≡ rest) × (take (done + 1) values ≡ take done values ++ x ∷ [])
next_of values rest done x is inside =
    let here : drop done values ≡ get_or values done x ∷ drop (done + 1) values = drop_more values done x inside in
    let both : get_or values done x ∷ drop (done + 1) values ≡ x ∷ rest = sym here ∙ is in
    let first : get_or values done x ≡ x = cc in
    let others : drop (done + 1) values ≡ rest = cc in
    (slice_get-get_or values done x inside ∙ ap (λ (v : Value). Some v) first, others, take_more values done x inside ∙ ap (λ (v : Value). take done values ++ v ∷ []) first)

-- one vertex more
pub makes_one : (label : RightSet) (values : List Value) (old now new : LockedState) (before mid after : SessionState) (done first name : ℕ) (x : Value) → take (done + 1) values ≡ take done values ++ x ∷ [] → done ≤ length values → name ≡ first + done
    → AddsInLock (creating before.worker label (take done values) first) old now before mid → AddsInLock (creating mid.worker label (x ∷ []) name) now new mid after → AddsInLock (creating before.worker label (take (done + 1) values) first) old new before after
makes_one label values old now new before mid after done first name x more inside next was one =
    let worker : ℕ = before.worker in
    let named : mid.worker ≡ worker = was.receipts.0 in
    let place : name ≡ first + length (take done values) = next ∙ ap (λ n. first + n) (sym (length-take-le done values inside)) in
    let all : creating worker label (take done values) first ++ creating mid.worker label (x ∷ []) name ≡ creating worker label (take (done + 1) values) first =
    (λ i. creating worker label (take done values) first ++ creating (named i) label (x ∷ []) (place i))
    ∙ sym (creating_append worker label (take done values) (x ∷ []) first)
    ∙ ap (λ (vs : List Value). creating worker label vs first) (sym more) in
    subst (λ (es : List Entry). AddsInLock es old new before after) all (adds_more (creating worker label (take done values) first) (creating mid.worker label (x ∷ []) name) old now new before mid after was one)

-- or the batch stops
pub stops_making : (label : RightSet) (values left : List Value) (old now new : LockedState) (before mid after : SessionState) (done first : ℕ) (x : Value) (why : CreateFault) → slice_get values done ≡ Some x → left ≡ drop done values
    → AddsInLock (creating before.worker label (take done values) first) old now before mid → AddsInLock (refusing mid.worker label x why) now new mid after → IsCreateRefused mid.worker label x new.store why
    → StopsMakingAt label values left old new before after done why
stops_making label values left old now new before mid after done first x why there is was one reason =
    let worker : ℕ = before.worker in
    let named : mid.worker ≡ worker = was.receipts.0 in
    record {
      refused = x;
      there = there;
      left_is = is;
      first = first;
      added = adds_more (creating worker label (take done values) first) (refusing worker label x why) old now new before mid after was (subst (λ (n : ℕ). AddsInLock (refusing n label x why) now new mid after) named one);
      reason = subst (λ (n : ℕ). IsCreateRefused n label x new.store why) named reason;
    }

-- ---- what the session knows

pub makes_all : (start : SharedStart) (label : RightSet) (values : List Value) (v w : LockedState) (old ready new : SessionState) → IsReady start v old ready → MakesInLock label values v w ready new → MakesAll start label values old new
makes_all start label values v w old ready new is_so made =
    let named : ready.worker ≡ old.worker = is_so.looked.kept.0 in
    record {
      first = made.first;
      added = adds_at_seen start v w old ready new (creating old.worker label values made.first) is_so
          (subst (λ (n : ℕ). AddsInLock (creating n label values made.first) v w ready new) named made.added);
    }

pub stops_at_create : (start : SharedStart) (label : RightSet) (values left : List Value) (v w : LockedState) (old ready new : SessionState) (done : ℕ) (why : CreateFault) → IsReady start v old ready → HoldsWhenFree start w
    → StopsMakingAt label values left v w ready new done why → StopsAtCreate start label values left old new done why
stops_at_create start label values left v w old ready new done why is_so held stop =
    let named : ready.worker ≡ old.worker = is_so.looked.kept.0 in
    let es : List Entry = creating old.worker label (take done values) stop.first ++ refusing old.worker label stop.refused why in
    let added : AddsInLock es v w ready new = subst (λ (n : ℕ). AddsInLock (creating n label (take done values) stop.first ++ refusing n label stop.refused why) v w ready new) named stop.added in
    record {
      refused = stop.refused;
      there = stop.there;
      left_is = stop.left_is;
      entries = es;
      first = stop.first;
      theirs = refl;
      none = λ is. (refused_ready start v old ready new is_so (kept_none es v w ready new is is_so.all added)).0;
      some = λ _. adds_at_seen start v w old ready new es is_so added;
      reason = λ _. found_with start new.seen (λ s. IsCreateRefused old.worker label stop.refused s why) w held (added.seen is_so.all) (subst (λ (n : ℕ). IsCreateRefused n label stop.refused w.store why) named stop.reason);
    }

pub stops_creates : (start : SharedStart) (label : RightSet) (values left : List Value) (v w : LockedState) (old ready new : SessionState) → IsReady start v old ready → HoldsWhenFree start w → (fault : CreatesFault) → StopsMaking label values left v w ready new fault
    → StopsCreates start label values left old new fault
stops_creates start label values left v w old ready new is_so held TooLong stop = absurd stop
stops_creates start label values left v w old ready new is_so held (Stopped done why) stop = stops_at_create start label values left v w old ready new done why is_so held stop

-- so it is never refused for its length
pub creates_not_too_long : (label : RightSet) (values left : List Value) (v w : LockedState) (ready new : SessionState) (answer : Result ℕ CreatesFault) → IfErr answer (StopsMaking label values left v w ready new) → answer ≡ Err TooLong → ⊥
creates_not_too_long label values left v w ready new answer stops is = subst (λ (r : Result ℕ CreatesFault). IfErr r (StopsMaking label values left v w ready new)) is stops

-- ---- before the lock

first_value : (values : List Value) → 0 < length values → (x : Value) × (slice_get values 0 ≡ Some x)
first_value [] some = absurd (omega (arith, some))
first_value (x ∷ values) some = (x, slice_get-get_or (x ∷ values) 0 x some)

early_entries : (worker : ℕ) (label : RightSet) (x : Value) (why : CreateFault) → {N : Type 0} → ((why ≡ fault.NoSuchWorker) × N) ⊎ (why ≡ fault.OutOfMemory) → refusing worker label x why ≡ []
early_entries worker label x why (inl none) = ap (λ (f : CreateFault). refusing worker label x f) none.0
early_entries worker label x why (inr memory) = ap (λ (f : CreateFault). refusing worker label x f) memory

nobody_early : (start : SharedStart) (old new : SessionState) (label : RightSet) (x : Value) → new.seen ≡ old.seen → IsNobodyAtSeen start old.seen old.worker → AtSeen start new.seen (λ s. IsCreateRefused old.worker label x s fault.NoSuchWorker)
nobody_early start old new label x same none = (
  none.0,
  none.1,
  none.2,
  (
    subst (HasGrownBy start none.0) (sym same) none.3.0,
    record { no_such_worker = λ _. none.3.1; full = λ is. let no : ⊥ = cc in absurd no; no_workers_full = λ is. let no : ⊥ = cc in no },
  ),
)

pub creates_early : (start : SharedStart) (old new : SessionState) (label : RightSet) (values left : List Value) (why : CreateFault) → 0 < length values → left ≡ values → KeepsReceipts old new → entries_by (Session old.worker) old.seen ≡ old.made
    → ((why ≡ fault.NoSuchWorker) × IsNobodyAtSeen start old.seen old.worker) ⊎ (why ≡ fault.OutOfMemory) → StopsAtCreate start label values left old new 0 why
creates_early start old new label values left why some same keeps own told =
    let first = first_value values some in
    record {
      refused = first.0;
      there = first.1;
      left_is = same;
      entries = [];
      first = 0;
      theirs = sym (early_entries old.worker label first.0 why told);
      none = λ _. looked_none old new keeps own;
      some = λ low. absurd (omega (arith, low));
      reason = λ other.
          elim told as (λ _. AtSeen start new.seen (λ s. IsCreateRefused old.worker label first.0 s why)) [
            | inl nobody ↦ subst (λ (f : CreateFault). AtSeen start new.seen (λ s. IsCreateRefused old.worker label first.0 s f)) (sym nobody.0) (nobody_early start old new label first.0 keeps.6 nobody.1)
            | inr memory ↦ absurd (other memory)
          ];
    }
