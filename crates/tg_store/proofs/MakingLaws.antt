-- What making a vertex of a kind comes to: where a limit is met, and where a vertex is made.
use Rattle.std.proofs.Common.{◌≡◌, ◌≢◌, ◌⊎◌, ◌++◌, ◌∷◌, [], inl, inr, List, ℕ, ◌<◌, ◌≤◌, ◌+◌, ◌==◌, Option, Some, None, length, refl, sym, ap, subst, ◌∙◌, arith}
use Rattle.std.proofs.lemmas.Bool.{cond-true, eq-eqb}
use Rattle.std.specs.List.{All}
use Rattle.std.proofs.lemmas.List.{length-map}
use Rattle.std.proofs.lemmas.List.Elements.{All-contains_itself}
use Rattle.tg_rights.specs.RightSet.{RightSet}
use Rattle.tg_model.specs.declared.value.Value.{Value}
use Rattle.tg_model.specs.declared.command.Deed.{Deed}
use Rattle.tg_model.specs.declared.opening.TheConstants.{MAX_WORKERS}
use Rattle.tg_model.specs.declared.reply.Reply.{Reply}
use Rattle.tg_model.specs.declared.reply.Reply.TheVariants.{Name, VerticesFull, WorkersFull}
use Rattle.tg_model.specs.Graph.{ProtectionGraph, IsSound, IsSubject}
use Rattle.tg_model.specs.Opened.{ValueFits}
use Rattle.tg_model.specs.Rules.{DeedFits, IsAllowed, answer_of, step}
use Rattle.tg_model.proofs.MakingLaws.{HasRoom, answer-made, answer-subjects, answer-vertices, step-full, step-made}
use Rattle.tg_subjects.specs.declared.subject.Subject.{Subject as SubjectAt}
use Rattle.tg_journal.specs.declared.entry.Entry.{Entry}
use Rattle.tg_rows.specs.Content.{Content, IsNamed, OnlyNamedHold}
use Rattle.tg_graph.specs.Heap.{IsActive, content_of, subject_names}
use Rattle.tg_graph.specs.Standing as standing
use Rattle.tg_graph.proofs.StandingLaws as content
use Rattle.tg_space.specs.declared.room_fault.RoomFault.{RoomFault}
use Rattle.tg_space.specs.declared.room_fault.RoomFault.TheVariants as no_room
use Rattle.tg_store.specs.declared.fault.CreateFault.{CreateFault}
use Rattle.tg_store.specs.declared.fault.CreateFault.TheVariants as fault
use Rattle.tg_store.specs.declared.making.Limit.{Limit}
use Rattle.tg_store.specs.declared.making.Limit.TheVariants.{Vertices, Subjects}
use Rattle.tg_model.specs.declared.making.Making.{Making}
use Rattle.tg_model.specs.declared.making.Making.TheVariants.{Object, Subject}
use Rattle.tg_store.specs.Faults.{create_fault_of}
use Rattle.tg_model.specs.Making.{deed_making, subjects_making}
use Rattle.tg_store.specs.Making.{IsCreated, IsLimitMet, fault_at, reply_at}
use Rattle.tg_store.specs.Store.{StoreState, StandsFor, Enters, IsStore, graph_of_store}
use Rattle.tg_store.proofs.StandLaws.{IsStore-entered, StandsFor-entered, sound_of, subject_here}

-- ---- on a graph

module _ (g : ProtectionGraph) (x : ℕ) (label : RightSet) (value : Value) where
  -- the state of what is made fits its law
  pub fits_made : (kind : Making) → ValueFits value → DeedFits (deed_making kind label value)
  fits_made Object fits = fits
  fits_made Subject fits = fits

  -- a limit is answered
  pub answer_limited : (kind : Making) (limit : Limit) → IsLimitMet g kind (Some limit) → answer_of g x (deed_making kind label value) ≡ reply_at limit
  answer_limited kind Vertices high = answer-vertices g x label value kind high
  answer_limited kind Subjects met = answer-subjects g x label value kind met.1 (met.0, met.2)

  -- and changes nothing
  pub step_limited : (kind : Making) (limit : Limit) → IsLimitMet g kind (Some limit) → step g x (deed_making kind label value) ≡ g
  step_limited kind Vertices high = step-full g x label value kind (λ room. omega (arith, high, room.made))
  step_limited kind Subjects met = step-full g x label value kind (λ room. room.subjects (met.0, met.2))

  -- where none is met, the vertex is made
  pub is_allowed : (kind : Making) → IsLimitMet g kind None → IsAllowed g x (deed_making kind label value)
  is_allowed Object room = room.0
  is_allowed Subject room = (room.0, room.1 refl)

  pub has_room : (kind : Making) → IsLimitMet g kind None → HasRoom kind g
  has_room kind room = record { made = room.0; subjects = λ many. omega (arith, room.1 many.0, many.1) }

  -- and a content with it represents the graph with it
  pub stands_made : (c new : Content) (kind : Making) → standing.IsContentOf c g → OnlyNamedHold c → IsSound g → IsSubject g x → IsLimitMet g kind None → IsCreated c new x g.made label value → standing.IsContentOf new (step g x (deed_making kind label value))
  stands_made c new Object stands only sound subject room created = content.StandsFor-created c new g stands x label value.law value.state only sound subject room.0 created
  stands_made c new Subject stands only sound subject room created = content.StandsFor-spawned c new g stands x label value.law value.state only sound subject room.0 (room.1 refl) created

-- ---- how a limit is reported

-- the limit of subjects is looked at where that of vertices isn't met
pub limit_of_subjects : (g : ProtectionGraph) (kind : Making) (met : Option Limit) → g.made < g.limit → kind ≡ Subject → (met ≡ None → length g.subjects < MAX_WORKERS) → ((limit : Limit) → met ≡ Some limit → (limit ≡ Subjects) × (MAX_WORKERS ≤ length g.subjects)) → IsLimitMet g kind met
limit_of_subjects g kind None low is none some = (low, λ _. none refl)
limit_of_subjects g kind (Some Vertices) low is none some = let f : ⊥ = cc (some Vertices refl).0 in absurd f
limit_of_subjects g kind (Some Subjects) low is none some = (is, low, (some Subjects refl).1)

-- a limit that is met is told by this fault and this reply
pub record IsLimitTold (g : ProtectionGraph) (kind : Making) (why : CreateFault) (reply : Reply) : Type 0 where
  pub vertices : why ≡ fault.VerticesFull → (g.limit ≤ g.made) × (reply ≡ VerticesFull)
  pub subjects : why ≡ fault.WorkersFull → ((kind ≡ Subject) × (g.made < g.limit) × (MAX_WORKERS ≤ length g.subjects)) × (reply ≡ WorkersFull)
  pub exhausted : g.limit ≤ g.made → (why ≡ fault.VerticesFull) ⊎ (why ≡ fault.OutOfMemory)
  pub crowded : g.made < g.limit → (why ≡ fault.WorkersFull) ⊎ (why ≡ fault.OutOfMemory)
  pub worker : why ≢ fault.NoSuchWorker
  pub room : why ≢ fault.HeapFull
  pub only : why ≢ fault.VerticesFull → why ≢ fault.WorkersFull → ⊥

pub limit_told : (g : ProtectionGraph) (kind : Making) (limit : Limit) → IsLimitMet g kind (Some limit) → IsLimitTold g kind (fault_at limit) (reply_at limit)
limit_told g kind Vertices met = record {
  vertices = λ _. (met, refl);
  subjects = λ e. let f : ⊥ = cc e in absurd f;
  exhausted = λ _. inl refl;
  crowded = λ low. absurd (omega (arith, met, low));
  worker = λ e. let f : ⊥ = cc e in f;
  room = λ e. let f : ⊥ = cc e in f;
  only = λ first _. first refl;
}
limit_told g kind Subjects met = record {
  vertices = λ e. let f : ⊥ = cc e in absurd f;
  subjects = λ _. (met, refl);
  exhausted = λ high. absurd (omega (arith, met.1, high));
  crowded = λ _. inl refl;
  worker = λ e. let f : ⊥ = cc e in f;
  room = λ e. let f : ⊥ = cc e in f;
  only = λ _ second. second refl;
}

-- ---- of a store

module _ (old : StoreState) (made : ℕ) (is : IsStore old made) (x : ℕ) (active : IsActive old.heap x) (kind : Making) (label : RightSet) (value : Value) where
  pub subject : IsSubject (graph_of_store old) x
  subject = subject_here old is.faithful (graph_of_store old) x refl active

  -- ---- a limit is met

  module _ (limit : Limit) (met : IsLimitMet (graph_of_store old) kind (Some limit)) where
    stays : step (graph_of_store old) x (deed_making kind label value) ≡ graph_of_store old
    stays = step_limited (graph_of_store old) x label value kind limit met

    pub IsStore-limited : (new : StoreState) → ValueFits value → new.opening ≡ old.opening → Enters old new x (deed_making kind label value) (reply_at limit) → new.heap ≡ old.heap → IsStore new made
    IsStore-limited new fits opening entry heap =
        let graph = graph_of_store old in
        IsStore-entered old new x (deed_making kind label value) (reply_at limit) opening entry made is.faithful subject (fits_made graph x label value kind fits)
        (sym (answer_limited graph x label value kind limit met))
        (subst (standing.IsContentOf (content_of new.heap)) (sym stays) (rw heap is.faithful.stands))
        (ap subject_names heap ∙ is.faithful.subjects ∙ ap (λ (g : ProtectionGraph). g.subjects) (sym stays))
        (is.is_made ∙ ap (λ (g : ProtectionGraph). g.made) (sym stays))

    pub StandsFor-limited : (new : StoreState) (g : ProtectionGraph) → new.opening ≡ old.opening → Enters old new x (deed_making kind label value) (reply_at limit) → StandsFor old g → StandsFor new g
    StandsFor-limited new g opening entry stands =
        StandsFor-entered old new x (deed_making kind label value) (reply_at limit) opening entry (graph_of_store old) refl ∙ stays ∙ stands

  -- ---- one more is made

  pub fresh : IsNamed (content_of old.heap) made → ⊥
  fresh named =
      content.not_named-made (content_of old.heap) (graph_of_store old) is.faithful.stands (subst (IsNamed (content_of old.heap)) is.is_made named)

  -- the next name is above those of all subjects
  pub above : All (λ name. name < made) (subject_names old.heap)
  above =
      subst (λ (names : List ℕ). All (λ name. name < made) names) (sym is.faithful.subjects)
      (subst (λ (n : ℕ). All (λ name. name < n) (graph_of_store old).subjects) (sym is.is_made) below)
    where
      sound : IsSound (graph_of_store old)
      sound = sound_of old is.faithful

      below : All (λ name. name < (graph_of_store old).made) (graph_of_store old).subjects
      below k d inside = sound.subjects_made _ (All-contains_itself (graph_of_store old).subjects k d inside)

  module _ (room : IsLimitMet (graph_of_store old) kind None) where
    -- there is a nursery for one more subject
    pub few : kind ≡ Subject → length old.heap.subjects < MAX_WORKERS
    few is_subject = subst (λ (n : ℕ). n < MAX_WORKERS) (ap length (sym is.faithful.subjects) ∙ length-map old.heap.subjects (λ (s : SubjectAt). s.name)) (room.1 is_subject)

    pub answer-name : answer_of (graph_of_store old) x (deed_making kind label value) ≡ Name made
    answer-name = answer-made (graph_of_store old) x label value kind (has_room (graph_of_store old) x label value kind room) ∙ ap Name (sym is.is_made)

    pub IsStore-made : (new : StoreState) → ValueFits value → new.opening ≡ old.opening → Enters old new x (deed_making kind label value) (Name made) → IsCreated (content_of old.heap) (content_of new.heap) x made label value → subject_names new.heap ≡ subjects_making kind (subject_names old.heap) made → IsStore new (made + 1)
    IsStore-made new fits opening entry created names =
        let graph = graph_of_store old in
        let there : IsCreated (content_of old.heap) (content_of new.heap) x graph.made label value = subst (λ n. IsCreated (content_of old.heap) (content_of new.heap) x n label value) is.is_made created in
        let made_step = step-made graph x label value kind (has_room graph x label value kind room) in
        let stands = stands_made graph x label value (content_of old.heap) (content_of new.heap) kind is.faithful.stands
        (content.OnlyNamedHold-content_of old.heap) (sound_of old is.faithful) subject room there in
        IsStore-entered old new x (deed_making kind label value) (Name made) opening entry (made + 1) is.faithful subject (fits_made graph x label value kind fits)
        (sym answer-name) stands
        (names ∙ ap (λ (names : List ℕ). subjects_making kind names made) is.faithful.subjects ∙ ap (λ (n : ℕ). subjects_making kind graph.subjects n) is.is_made ∙ sym (ap (λ (h : ProtectionGraph). h.subjects) made_step))
        (ap (λ n. n + 1) is.is_made ∙ sym (ap (λ (h : ProtectionGraph). h.made) made_step))

-- the new vertex stores the value
pub stored : (old new : Content) (x name : ℕ) (label : RightSet) (value : Value) → IsCreated old new x name label value → IsNamed new name × (new.value name ≡ Some value)
stored old new x name label value created = (
  (created.names name).1 (inr refl),
  created.values name ∙ cond-true (name == name) (Some value) (old.value name) (eq-eqb name name refl),
)

-- what was asked for is entered after what there was
pub enters : (before ready after : List Entry) (worker : ℕ) (kind : Making) (label : RightSet) (value given : Value) (deed : Deed) (reply : Reply) → deed ≡ deed_making kind label given → given ≡ value → ready ≡ before
    → after ≡ ready ++ (record { worker = worker; deed = deed; reply = reply }) ∷ [] → after ≡ before ++ (record { worker = worker; deed = deed_making kind label value; reply = reply }) ∷ []
enters before ready after worker kind label value given deed reply is same kept put =
    put ∙ (ap (λ (es : List Entry). es ++ (record { worker = worker; deed = deed; reply = reply }) ∷ []) kept
    ∙ ap (λ (d : Deed). before ++ (record { worker = worker; deed = d; reply = reply }) ∷ []) (is ∙ ap (λ (v : Value). deed_making kind label v) same))

-- ---- how refusals of the heap are reported

-- that is reported as no limit, and as no want of a worker
pub fault_told : (why : RoomFault) → (create_fault_of why ≢ fault.NoSuchWorker) × (create_fault_of why ≢ fault.VerticesFull) × (create_fault_of why ≢ fault.WorkersFull) × (create_fault_of why ≡ fault.HeapFull → why ≡ no_room.HeapFull)
fault_told no_room.OutOfMemory = ((λ e. let f : ⊥ = cc e in f), (λ e. let f : ⊥ = cc e in f), (λ e. let f : ⊥ = cc e in f), (λ e. let f : ⊥ = cc e in absurd f))
fault_told no_room.HeapFull = ((λ e. let f : ⊥ = cc e in f), (λ e. let f : ⊥ = cc e in f), (λ e. let f : ⊥ = cc e in f), (λ e. refl))
