-- What becomes of the journal and of the graph of a store by each call.
use Rattle.std.proofs.Common.{◌≡◌, ◌≤◌, ℕ, ◌++◌, ◌∷◌, [], List, sym, ap, subst, ◌∙◌}
use Rattle.std.proofs.lemmas.List.{append-nil}
use Rattle.std.specs.List.{Contains}
use Rattle.tg_model.specs.declared.command.Deed.{Deed}
use Rattle.tg_model.specs.declared.reply.Reply.{Reply}
use Rattle.tg_model.specs.Graph.{ProtectionGraph, IsSound, IsSubject}
use Rattle.tg_model.specs.Opened.{Plan, IsPlan}
use Rattle.tg_model.specs.Rules.{step, answer_of, DeedFits}
use Rattle.tg_journal.specs.declared.entry.Entry.{Entry}
use Rattle.tg_journal.specs.History.{IsLegal, graph_after}
use Rattle.tg_journal.proofs.HistoryLaws.{IsLegal-append, graph_after-append}
use Rattle.tg_subjects.specs.Subjects.{names_of}
use Rattle.tg_graph.specs.Heap.{HeapState, IsActive, content_of, subject_names}
use Rattle.tg_graph.specs.Standing as standing
use Rattle.tg_graph.proofs.StandingLaws as content
use Rattle.tg_store.specs.Origin.{IsOrigin, opened_by, start_at}
use Rattle.tg_store.specs.Store.{StoreState, StandsFor, IsFaithful, Enters, HoldsFrom, IsUnchanged, graph_of_store, IsStore}
use Rattle.tg_store.proofs.OriginLaws.{limit_from, made_from, sound_from}

-- ---- what holds of every store

module _ (s : StoreState) (faithful : IsFaithful s) where
  pub sound_of : IsSound (graph_of_store s)
  sound_of = sound_from s.opening s.entries faithful.origin faithful.legal

  pub limit_of : (graph_of_store s).limit ≡ s.opening.plan.limit
  limit_of = limit_from s.opening s.entries faithful.origin

  pub made_of : (graph_of_store s).made ≤ s.opening.plan.limit
  made_of = made_from s.opening s.entries faithful.origin

-- a store whose entries so far leave the graph that it began with
pub IsStore-begun : (s : StoreState) (made : ℕ) → IsOrigin s.opening → IsLegal (start_at s.opening) s.entries → graph_after (start_at s.opening) s.entries ≡ start_at s.opening
    → standing.IsContentOf (content_of s.heap) (start_at s.opening) → subject_names s.heap ≡ (start_at s.opening).subjects → made ≡ (start_at s.opening).made → IsStore s made
IsStore-begun s made origin legal still stands names is_made = record {
  faithful = record {
    origin = origin;
    legal = legal;
    stands = subst (standing.IsContentOf (content_of s.heap)) (sym still) stands;
    subjects = names ∙ ap (λ (g : ProtectionGraph). g.subjects) (sym still);
  };
  is_made = is_made ∙ ap (λ (g : ProtectionGraph). g.made) (sym still);
}

-- the origin of a store that is opened by its opening alone
pub IsOrigin-first : (plan : Plan) → IsPlan plan → IsOrigin (opened_by plan)
IsOrigin-first plan is = record { plan = is; snapshot = tt; limit = tt }

-- ---- what was entered

module _ (old new : StoreState) (es : List Entry) (opening : new.opening ≡ old.opening) (entries : new.entries ≡ old.entries ++ es) where
  -- the store then represents the graph after these entries
  pub graph-grown : graph_of_store new ≡ graph_after (graph_of_store old) es
  graph-grown = (λ i. graph_after (start_at (opening i)) (entries i)) ∙ graph_after-append (start_at old.opening) old.entries es

  -- and is faithful, where they are legal and the heap represents that graph
  pub IsStore-grown : (made : ℕ) → IsFaithful old → IsLegal (graph_of_store old) es → standing.IsContentOf (content_of new.heap) (graph_after (graph_of_store old) es) → subject_names new.heap ≡ (graph_after (graph_of_store old) es).subjects → made ≡ (graph_after (graph_of_store old) es).made → IsStore new made
  IsStore-grown made faithful legal stands names next = record {
    faithful = record {
      origin = subst IsOrigin (sym opening) faithful.origin;
      legal = rw (opening, entries) (IsLegal-append (start_at old.opening) old.entries es faithful.legal legal);
      stands = subst (standing.IsContentOf (content_of new.heap)) (sym graph-grown) stands;
      subjects = names ∙ ap (λ (g : ProtectionGraph). g.subjects) (sym graph-grown);
    };
    is_made = next ∙ ap (λ (g : ProtectionGraph). g.made) (sym graph-grown);
  }

-- ---- no entry

-- where opening and journal are the same, and the heap still represents the graph
pub IsStore-kept : (old new : StoreState) (made : ℕ) → IsStore old made → new.opening ≡ old.opening → new.entries ≡ old.entries → standing.IsContentOf (content_of new.heap) (graph_of_store old) → subject_names new.heap ≡ subject_names old.heap → IsStore new made
IsStore-kept old new made is opening entries stands names =
    IsStore-grown old new [] opening (entries ∙ sym (append-nil old.entries)) made is.faithful tt stands (names ∙ is.faithful.subjects) is.is_made

pub IsStore-unchanged : (old new : StoreState) (made : ℕ) → IsStore old made → IsUnchanged old new → IsStore new made
IsStore-unchanged old new made is unchanged =
    IsStore-kept old new made is unchanged.opening unchanged.entries (content.StandsFor-unchanged old.heap new.heap (graph_of_store old) is.faithful.stands unchanged.heap) (ap names_of unchanged.heap.subjects)

pub IsStore-handed : (first : ℕ) (old new : StoreState) (made : ℕ) → IsStore old made → HoldsFrom first old new → IsStore new made
IsStore-handed first old new made is out =
    IsStore-kept old new made is out.opening out.entries (subst (λ (h : HeapState). standing.IsContentOf (content_of h) (graph_of_store old)) (sym out.heap) is.faithful.stands) (ap subject_names out.heap)

-- ---- one entry

module _ (old new : StoreState) (worker : ℕ) (deed : Deed) (reply : Reply) (opening : new.opening ≡ old.opening) (entry : Enters old new worker deed reply) where
  abbrev entered : List Entry
  entered = record { worker = worker; deed = deed; reply = reply } ∷ []

  pub graph-entered : graph_of_store new ≡ step (graph_of_store old) worker deed
  graph-entered = graph-grown old new entered opening entry

  pub StandsFor-entered : (g : ProtectionGraph) → StandsFor old g → StandsFor new (step g worker deed)
  StandsFor-entered g stands = graph-entered ∙ ap (λ h. step h worker deed) stands

  pub IsStore-entered : (made : ℕ) → IsFaithful old → IsSubject (graph_of_store old) worker → DeedFits deed → reply ≡ answer_of (graph_of_store old) worker deed → standing.IsContentOf (content_of new.heap) (step (graph_of_store old) worker deed) → subject_names new.heap ≡ (step (graph_of_store old) worker deed).subjects → made ≡ (step (graph_of_store old) worker deed).made → IsStore new made
  IsStore-entered made faithful subject fits is stands names next =
      IsStore-grown old new entered opening entry made faithful (record { subject = subject; fits = fits; reply = is }, tt) stands names next

-- ---- subjects

module _ (s : StoreState) (faithful : IsFaithful s) where
  pub subjects_of : (g : ProtectionGraph) → StandsFor s g → subject_names s.heap ≡ g.subjects
  subjects_of g stands = faithful.subjects ∙ ap (λ (h : ProtectionGraph). h.subjects) stands

  pub subject_here : (g : ProtectionGraph) (x : ℕ) → StandsFor s g → IsActive s.heap x → IsSubject g x
  subject_here g x stands active = subst (λ (names : List ℕ). Contains names x) (subjects_of g stands) active

  pub active_here : (g : ProtectionGraph) (x : ℕ) → StandsFor s g → IsSubject g x → IsActive s.heap x
  active_here g x stands subject = subst (λ (names : List ℕ). Contains names x) (sym (subjects_of g stands)) subject

-- ---- a store as it is inside, and as its callers see it

module _ {inside now : StoreState} {made : ℕ} (is : IsStore inside made) (same : inside ≡ now) {g : ProtectionGraph} (stands : StandsFor now g) where
  pub stands_inside : StandsFor inside g
  stands_inside = ap graph_of_store same ∙ stands

  pub content_seen : standing.IsContentOf (content_of inside.heap) g
  content_seen = subst (standing.IsContentOf (content_of inside.heap)) stands_inside is.faithful.stands

  pub subject_seen : (x : ℕ) → IsActive inside.heap x → IsSubject g x
  subject_seen x active = subject_here inside is.faithful g x stands_inside active

  pub active_seen : (x : ℕ) → IsSubject g x → IsActive inside.heap x
  active_seen x subject = active_here inside is.faithful g x stands_inside subject
