-- What one command more makes of a batch, and where a batch stops.
use Rattle.std.proofs.Common.{◌≡◌, ◌↔◌, ◌∙◌, ℕ, ◌+◌, ◌<◌, List, [], ◌∷◌, ◌++◌, Some, length, take, get_or, append_assoc, ap, refl, subst, sym}
use Rattle.std.specs.Prelude.{Result, Err}
use Rattle.std.proofs.lemmas.List.{append-nil, map-append, take_more}
use Rattle.std.proofs.lemmas.List.Elements.{All-append, All-cons, All-nil}
use Rattle.std.proofs.lemmas.Option.{slice_get-get_or}
use Rattle.tg_model.specs.declared.command.Command.{Command}
use Rattle.tg_model.specs.declared.command.Deed.{Deed}
use Rattle.tg_model.specs.declared.command.Deed.TheVariants.{Plain}
use Rattle.tg_model.specs.declared.reply.Reply.{Reply}
use Rattle.tg_model.specs.Graph.{ProtectionGraph, IsSubject}
use Rattle.tg_model.specs.Rules.{IsAllowed}
use Rattle.tg_journal.specs.declared.entry.Entry.{Entry}
use Rattle.tg_journal.specs.History.{IsLegal, graph_after}
use Rattle.tg_journal.proofs.HistoryLaws.{IsLegal-cut}
use Rattle.tg_subjects.specs.declared.subject.Subject.{Subject}
use Rattle.tg_subjects.specs.Subjects.{nursery_held}
use Rattle.tg_space.specs.SpaceTable.{SpaceTable}
use Rattle.tg_graph.specs.Heap.{nursery_of}
use Rattle.tg_rules.specs.Effect.{AddsEdge, LacksCellsToServe}
use Rattle.tg_store.specs.declared.fault.ApplyFault.{ApplyFault}
use Rattle.tg_store.specs.declared.fault.ApplyFault.TheVariants.{HeapFull, NoSuchWorker}
use Rattle.tg_store.specs.Batch.{Applies, AreOfCommands, IsRefusedAt}
use Rattle.tg_store.specs.Origin.{Origin, start_at}
use Rattle.tg_store.specs.Store.{StoreState, Enters, IsFaithful, IsUnchanged, StandsFor, graph_of_store}
use Rattle.tg_store.proofs.StandLaws.{graph-grown}

-- the entries that a store got were legal, if the store is faithful then
pub legal_grown : (old new : StoreState) (es : List Entry) → new.opening ≡ old.opening → new.entries ≡ old.entries ++ es → IsFaithful new → IsLegal (graph_of_store old) es
legal_grown old new es opening entries faithful =
    let legal : IsLegal (start_at old.opening) new.entries = subst (λ (o : Origin). IsLegal (start_at o) new.entries) opening faithful.legal in
    (IsLegal-cut (start_at old.opening) old.entries es (subst (IsLegal (start_at old.opening)) entries legal)).1

pub err_same : {T E : Type 0} {e f : E} → ◌≡◌ {A = Result T E} (Err e) (Err f) → e ≡ f
err_same is = cc

pub graph_still : (old new : StoreState) → IsUnchanged old new → graph_of_store new ≡ graph_of_store old
graph_still old new same = λ i. graph_after (start_at (same.opening i)) (same.entries i)

-- opening, limits, counts and what was handed out are as they were
pub record KeepsRest (old new : StoreState) : Type 0 where
  pub opening : new.opening ≡ old.opening
  pub handed : new.handed ≡ old.handed
  pub limits : new.heap.table.limits ≡ old.heap.table.limits
  pub collections : new.collections ≡ old.collections

abbrev pub applied_none : (worker : ℕ) (s : StoreState) → Applies worker [] s s
applied_none worker s = record {
  made = [];
  theirs = record { by = All-nil (λ (e : Entry). e.worker ≡ worker); deeds = refl };
  entries = sym (append-nil s.entries);
  legal = tt;
  graph = refl;
  opening = refl;
  handed = refl;
  limits = refl;
  collections = refl;
}

-- the entry of one command more
pub theirs_more : (worker : ℕ) (done : List Command) (made : List Entry) (x : Command) (reply : Reply) → AreOfCommands worker done made → AreOfCommands worker (done ++ x ∷ []) (made ++ (record { worker = worker; deed = Plain x; reply = reply }) ∷ [])
theirs_more worker done made x reply was =
    let e : Entry = record { worker = worker; deed = Plain x; reply = reply } in
    let Own : Entry → Type 0 = λ e. e.worker ≡ worker in
    record {
      by = All-append Own made (e ∷ []) was.by (All-cons Own e [] refl (All-nil Own));
      deeds =
          map-append (λ (e : Entry). e.deed) made (e ∷ []) ∙ ap (λ (ds : List Deed). ds ++ Plain x ∷ []) was.deeds
          ∙ sym (map-append (λ (c : Command). Plain c) done (x ∷ []));
    }

module _ (worker : ℕ) (commands : List Command) (old s new : StoreState) (done : ℕ) (x : Command) (inside : done < length commands) (is : x ≡ get_or commands done x) (was : Applies worker (take done commands) old s) where
  -- the command was taken
  abbrev pub applied_more : (reply : Reply) → Enters s new worker (Plain x) reply → KeepsRest s new → IsFaithful new → Applies worker (take (done + 1) commands) old new
  applied_more reply entry rest faithful =
      let e : Entry = record { worker = worker; deed = Plain x; reply = reply } in
      let made : List Entry = was.made ++ e ∷ [] in
      let opening : new.opening ≡ old.opening = rest.opening ∙ was.opening in
      let entries : new.entries ≡ old.entries ++ made = entry ∙ ap (λ (es : List Entry). es ++ e ∷ []) was.entries ∙ append_assoc old.entries was.made (e ∷ []) in
      let more : take (done + 1) commands ≡ take done commands ++ x ∷ [] = take_more commands done x inside ∙ ap (λ (c : Command). take done commands ++ c ∷ []) (sym is) in
      record {
        made = made;
        theirs = subst (λ (cs : List Command). AreOfCommands worker cs made) (sym more) (theirs_more worker (take done commands) was.made x reply was.theirs);
        entries = entries;
        legal = legal_grown old new made opening entries faithful;
        graph = graph-grown old new made opening entries;
        opening = opening;
        handed = rest.handed ∙ was.handed;
        limits = rest.limits ∙ was.limits;
        collections = rest.collections ∙ was.collections;
      }

-- nothing changed but room
abbrev pub applied_still : (worker : ℕ) (commands : List Command) (old s new : StoreState) → Applies worker commands old s → IsUnchanged s new → Applies worker commands old new
applied_still worker commands old s new was same = record {
  made = was.made;
  theirs = was.theirs;
  entries = same.entries ∙ was.entries;
  legal = was.legal;
  graph = graph_still s new same ∙ was.graph;
  opening = same.opening ∙ was.opening;
  handed = same.handed ∙ was.handed;
  limits = ap (λ (t : SpaceTable). t.limits) same.heap.table ∙ was.limits;
  collections = same.collections ∙ was.collections;
}

module _ (T : Type 0) (worker : ℕ) (commands : List Command) (s new : StoreState) (done : ℕ) (x : Command) (inside : done < length commands) (is : x ≡ get_or commands done x) where
  -- why a command is refused
  abbrev Told : ApplyFault → Type 0
  Told why =
      ((g : ProtectionGraph) → StandsFor s g → ◌≡◌ {A = Result T ApplyFault} (Err why) (Err NoSuchWorker) ↔ (¬ IsSubject g worker))
      × ((g : ProtectionGraph) → StandsFor s g → ◌≡◌ {A = Result T ApplyFault} (Err why) (Err HeapFull) →
      IsAllowed g worker (Plain x) × AddsEdge x × LacksCellsToServe s.heap.table (nursery_of s.heap worker) worker x)

  abbrev IsFull : ProtectionGraph → SpaceTable → List Subject → Type 0
  IsFull g table subjects = IsAllowed g worker (Plain x) × AddsEdge x × LacksCellsToServe table (nursery_held subjects worker) worker x

  -- that is so of the store that is left
  pub refused_still : (why : ApplyFault) → Told why → IsUnchanged s new → IsRefusedAt worker commands new done why
  refused_still why told same =
      let graph : graph_of_store new ≡ graph_of_store s = graph_still s new same in
      let nobody : ◌≡◌ {A = Result T ApplyFault} (Err why) (Err NoSuchWorker) ↔ (¬ IsSubject (graph_of_store new) worker) =
      subst (λ (g : ProtectionGraph). ◌≡◌ {A = Result T ApplyFault} (Err why) (Err NoSuchWorker) ↔ (¬ IsSubject g worker)) (sym graph) (told.0 (graph_of_store s) refl) in
      record {
        next = x;
        there = slice_get-get_or commands done x inside ∙ ap (λ (c : Command). Some c) (sym is);
        no_such_worker = ((λ w. nobody.0 (ap (λ (f : ApplyFault). Err f) w)), (λ none. err_same (nobody.1 none)));
        full = λ w.
            subst (λ (g : ProtectionGraph). IsFull g new.heap.table new.heap.subjects) (sym graph)
            (subst (λ (subjects : List Subject). IsFull (graph_of_store s) new.heap.table subjects) (sym same.heap.subjects)
            (subst (λ (t : SpaceTable). IsFull (graph_of_store s) t s.heap.subjects) (sym same.heap.table) (told.1 (graph_of_store s) refl (ap (λ (f : ApplyFault). Err f) w))));
      }
