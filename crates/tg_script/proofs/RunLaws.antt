-- Each line is answered by the scene that the run shows.
use mathlib.Core.Bool.{true≢false}
use Rattle.std.proofs.Common.{◌≡◌, ◌≢◌, inl, inr, ◌↔◌, ℕ, ◌<◌, ◌≤◌, nat_lt, Bool, true, false, cond, eqb, length, List, [], ◌∷◌, ◌++◌, Result, Ok, Err, refl, sym, ap, ◌∙◌, subst, append-nil}
use Rattle.std.specs.Prelude.{IfOk, IfErr}
use Rattle.std.specs.List.{list_any}
use Rattle.std.proofs.lemmas.Bool.{lt-ltb, le-ltb}
use Rattle.std.proofs.lemmas.Map.Views.{Contains-from_any, list_any-from_Contains}
use Rattle.std.specs.Cmp.{nat_eq_equiv}
use Rattle.std.proofs.lemmas.Bool.Decides.{Decides-eqb}
use Rattle.tg_rights.specs.RightSet.{RightSet}
use Rattle.tg_model.specs.declared.value.Value.{Value}
use Rattle.tg_model.specs.declared.command.Command.{Command}
use Rattle.tg_model.specs.declared.command.Deed.{Deed}
use Rattle.tg_model.specs.declared.command.Deed.TheVariants as deed
use Rattle.tg_model.specs.declared.opening.TheConstants.{MAX_WORKERS}
use Rattle.tg_model.specs.declared.reply.Reply.{Reply}
use Rattle.tg_model.specs.declared.reply.Reply.TheVariants as reply
use Rattle.tg_model.specs.Graph.{ProtectionGraph, IsSubject}
use Rattle.tg_model.specs.Rules.{IsAllowed, step, answer_of, with_vertex, with_subject}
use Rattle.tg_rules.specs.Effect.{AddsEdge}
use Rattle.tg_store.specs.declared.fault.ApplyFault.{ApplyFault}
use Rattle.tg_store.specs.declared.fault.ApplyFault.TheVariants as apply
use Rattle.tg_store.specs.declared.fault.CreateFault.{CreateFault}
use Rattle.tg_store.specs.declared.fault.CreateFault.TheVariants as create
use Rattle.tg_store.specs.declared.fault.CreateRefused.{CreateRefused}
use Rattle.tg_model.specs.declared.making.Making.{Making}
use Rattle.tg_model.specs.declared.making.Making.TheVariants.{Object, Subject}
use Rattle.tg_store.specs.Made.{IsMadeFor, MayRefuse}
use Rattle.tg_model.specs.Making.{deed_making}
use Rattle.tg_journal.specs.declared.entry.Entry.{Entry}
use Rattle.tg_store.specs.Store.{StoreState, graph_of_store, Enters, OnlyEnters, StandsFor, IsUnchanged}
use Rattle.tg_text.specs.declared.line.Line.{Line}
use Rattle.tg_text.specs.declared.line.Line.TheVariants as line
use Rattle.tg_text.specs.declared.answer.Answer.{Answer}
use Rattle.tg_text.specs.declared.answer.Answer.TheVariants as told
use Rattle.tg_text.specs.declared.answer.Refusal.{Refusal}
use Rattle.tg_text.specs.declared.answer.Refusal.TheVariants as refusal
use Rattle.tg_script.specs.declared.run.Run.{Run}
use Rattle.tg_script.specs.Inner.Supply.{values_left}
use Rattle.tg_script.specs.Script.{Scene, Answers, AnswersMaking, MayAnswerRefused, Serves, stock_left}
use Rattle.tg_script.specs.Refusals.{apply_refusal, create_answer}
use Rattle.tg_script.specs.Entering.{entered}
use Rattle.tg_script.specs.Inner.Run.{Shows, HandlesBy, Handles, IsAsBefore, MakesEntry, MakesEntryBy, line_making, making_answer, values_back}

-- ---- who is a subject, and which graph a store stands for

-- whoever isn't refused as no worker is a subject
subject_held : (g : ProtectionGraph) (x : ℕ) → ((¬ IsSubject g x) → ⊥) → IsSubject g x
subject_held g x h =
    elim (list_any (eqb x) g.subjects) as (λ t. list_any (eqb x) g.subjects ≡ t → IsSubject g x) [
      | true ↦ λ e. Contains-from_any {eq = eqb} (λ a b t. (Decides-eqb a b).0 t) x g.subjects e
      | false ↦ λ e. absurd (h (λ subject. true≢false (sym (list_any-from_Contains {eq = eqb} nat_eq_equiv x g.subjects subject) ∙ e)))
    ] refl

-- with the opening and the entries of before, a store represents the graph of before
pub stands_still : (old new : StoreState) (g : ProtectionGraph) → new.opening ≡ old.opening → new.entries ≡ old.entries → StandsFor old g → StandsFor new g
stands_still old new g opening entries stands = (λ i. graph_of_store (record { opening = opening i; entries = entries i; handed = new.handed; heap = new.heap; collections = new.collections })) ∙ stands

-- ---- commands

pub apply_done : {P : Type 0} (old new : Run P) (x : ℕ) (command : Command) (answer : Reply) → ((g : ProtectionGraph) → StandsFor old.store g → answer ≡ answer_of g x (deed.Plain command)) → ((g : ProtectionGraph) → StandsFor old.store g → StandsFor new.store (step g x (deed.Plain command))) → ((g : ProtectionGraph) → StandsFor old.store g → (Ok answer ≡ Err apply.NoSuchWorker) ↔ (¬ IsSubject g x)) → new.supply ≡ old.supply → new.helpers ≡ old.helpers → Handles old (line.Plain x command) (told.Reply answer) new
apply_done old new x command answer answers steps unknown supply helpers s shown =
    let subject = subject_held s.graph x (λ none. let e = (unknown s.graph shown.0).1 none in cc) in (
      record s { graph = step s.graph x (deed.Plain command) },
      (steps s.graph shown.0, ap values_left supply ∙ shown.1, helpers ∙ shown.2),
      inl (inl (subject, ap told.Reply (answers s.graph shown.0), refl)),
    )

-- the scene is as it was
same_scene : {P : Type 0} (old new : Run P) (s : Scene) → new.store.opening ≡ old.store.opening → new.store.entries ≡ old.store.entries → values_left new.supply ≡ values_left old.supply → new.helpers ≡ old.helpers → Shows old s → Shows new s
same_scene old new s opening entries supply helpers shown = (stands_still old.store new.store s.graph opening entries shown.0, supply ∙ shown.1, helpers ∙ shown.2)

pub apply_refused : {P : Type 0} (old new : Run P) (x : ℕ) (command : Command) (fault : ApplyFault) → ((g : ProtectionGraph) → StandsFor old.store g → (◌≡◌ {A = Result Reply ApplyFault} (Err fault) (Err apply.NoSuchWorker)) ↔ (¬ IsSubject g x)) → ((g : ProtectionGraph) → StandsFor old.store g → ◌≡◌ {A = Result Reply ApplyFault} (Err fault) (Err apply.HeapFull) → IsAllowed g x (deed.Plain command) × AddsEdge command) → IsUnchanged old.store new.store → new.supply ≡ old.supply → new.helpers ≡ old.helpers → Handles old (line.Plain x command) (told.Refused (apply_refusal fault)) new
apply_refused old new x command apply.NoSuchWorker unknown full same supply helpers s shown =
    (s, same_scene old new s same.opening same.entries (ap values_left supply) helpers shown, inl (inr ((unknown s.graph shown.0).0 refl, refl, refl)))
apply_refused old new x command apply.OutOfMemory unknown full same supply helpers s shown =
    let subject = subject_held s.graph x (λ none. let e = (unknown s.graph shown.0).1 none in cc) in
    (s, same_scene old new s same.opening same.entries (ap values_left supply) helpers shown, inr (refusal.Memory, subject, refl, refl))
apply_refused old new x command apply.HeapFull unknown full same supply helpers s shown =
    let subject = subject_held s.graph x (λ none. let e = (unknown s.graph shown.0).1 none in cc) in
    let allowed = full s.graph shown.0 refl in
    (s, same_scene old new s same.opening same.entries (ap values_left supply) helpers shown, inr (refusal.Heap, (subject, allowed.0, allowed.1), refl, refl))

-- ---- vertices

-- how the line is answered by which x makes a vertex of a kind, what it may be refused for, and what it enters
answers : (kind : Making) (x : ℕ) (label : RightSet) (s t : Scene) (a : Answer) → AnswersMaking s x (deed_making kind label) s.stock a t → Answers s (line_making kind x label) a t
answers Object x label s t a h = h
answers Subject x label s t a h = h

memory : (kind : Making) (x : ℕ) (label : RightSet) (s : Scene) → IsSubject s.graph x → s.stock ≢ [] → MayAnswerRefused s (line_making kind x label) refusal.Memory
memory Object x label s subject some = (subject, some)
memory Subject x label s subject some = (subject, some)

heap : (kind : Making) (x : ℕ) (label : RightSet) (value : Value) (s : Scene) → IsSubject s.graph x → s.stock ≢ [] → IsAllowed s.graph x (deed_making kind label value) → MayAnswerRefused s (line_making kind x label) refusal.Heap
heap Object x label value s subject some allowed = (subject, some, allowed)
heap Subject x label value s subject some allowed = (subject, some, allowed.0, allowed.1)

enters : (kind : Making) (x : ℕ) (label : RightSet) (value : Value) (left : List Value) (r : Reply) → entered (line_making kind x label) (told.Reply r) (value ∷ left) ≡ (record { worker = x; deed = deed_making kind label value; reply = r }) ∷ []
enters Object x label value left r = refl
enters Subject x label value left r = refl

enters_none : (kind : Making) (x : ℕ) (label : RightSet) (values : List Value) (r : Refusal) → entered (line_making kind x label) (told.Refused r) values ≡ []
enters_none Object x label values r = refl
enters_none Subject x label values r = refl

-- the deed is answered so, and changes nothing
record IsFull (g : ProtectionGraph) (x : ℕ) (d : Deed) (r : Reply) : Type 0 where
  subject : IsSubject g x
  answer : answer_of g x d ≡ r
  same : step g x d ≡ g

full_of : {g : ProtectionGraph} {x : ℕ} {d : Deed} {r : Reply} (b : Bool) (y : Reply) (h : ProtectionGraph) → IsSubject g x → answer_of g x d ≡ cond b y r → step g x d ≡ cond b h g → b ≡ false → IsFull g x d r
full_of {g = g} {r = r} b y h subject answer same closed = record {
  subject = subject;
  answer = answer ∙ ap (λ t. cond t y r) closed;
  same = same ∙ ap (λ t. cond t h g) closed;
}

vertices_full : (kind : Making) (g : ProtectionGraph) (x : ℕ) (label : RightSet) (value : Value) → IsSubject g x × (g.limit ≤ g.made) → IsFull g x (deed_making kind label value) reply.VerticesFull
vertices_full Object g x label value (subject, full) = full_of (nat_lt g.made g.limit) (reply.Name g.made) (with_vertex g x label value) subject refl refl (le-ltb g.made g.limit full)
vertices_full Subject g x label value (subject, full) =
    let few = nat_lt (length g.subjects) MAX_WORKERS in
    full_of (nat_lt g.made g.limit) (cond few (reply.Name g.made) reply.WorkersFull) (cond few (with_subject g x label value) g) subject refl refl (le-ltb g.made g.limit full)

workers_full : (kind : Making) (g : ProtectionGraph) (x : ℕ) (label : RightSet) (value : Value) → (kind ≡ Subject) × IsSubject g x × (g.made < g.limit) × (MAX_WORKERS ≤ length g.subjects) → IsFull g x (deed_making kind label value) reply.WorkersFull
workers_full Object g x label value (is, subject, room, many) = let no : ⊥ = cc in absurd no
workers_full Subject g x label value (is, subject, room, many) =
    let roomy = lt-ltb g.made g.limit room in
    let few = nat_lt (length g.subjects) MAX_WORKERS in
    full_of few (reply.Name g.made) (with_subject g x label value) subject (ap (λ b. cond b (cond few (reply.Name g.made) reply.WorkersFull) reply.VerticesFull) roomy) (ap (λ b. cond b (cond few (with_subject g x label value) g) g) roomy) (le-ltb (length g.subjects) MAX_WORKERS many)

-- what a store says that was to make a vertex of a kind for x, with this value
pub record Makes {P : Type 0} (old new : StoreState) (kind : Making) (x : ℕ) (label : RightSet) (value : Value) (made : Result ℕ (CreateRefused P)) : Type 0 where
  pub vertex : IfOk made (IsMadeFor (deed_making kind label value) x label value old new)
  pub refusals : MayRefuse (deed_making kind label value) x value old new made
  pub too_many : (g : ProtectionGraph) → StandsFor old g → IfErr made (λ refused. refused.why ≡ create.WorkersFull → (kind ≡ Subject) × IsSubject g x × (g.made < g.limit) × (MAX_WORKERS ≤ length g.subjects))

-- it was answered by the graph, with this value in front of the stock
answered : {P : Type 0} (s : Scene) (new : Run P) (kind : Making) (x : ℕ) (label : RightSet) (value : Value) (left : List Value) (r : Reply) → value ∷ left ≡ s.stock → IsSubject s.graph x → answer_of s.graph x (deed_making kind label value) ≡ r → StandsFor new.store (step s.graph x (deed_making kind label value)) → values_left new.supply ≡ stock_left r left s.stock → new.helpers ≡ s.helpers → (t : Scene) × Shows new t × Serves s (line_making kind x label) (told.Reply r) t
answered s new kind x label value left r stock subject answer stands supply helpers =
    let deed = deed_making kind label value in
    let t : Scene = record s { graph = step s.graph x deed; stock = stock_left (answer_of s.graph x deed) left s.stock } in
    let P : List Value → Type 0 = λ values. AnswersMaking s x (deed_making kind label) values (told.Reply r) t in (
      t,
      (stands, supply ∙ ap (λ a. stock_left a left s.stock) (sym answer), helpers),
      inl (answers kind x label s t (told.Reply r) (subst P stock (inl (subject, ap told.Reply (sym answer), refl)))),
    )

-- it found no room by the graph, with this value in front of the stock
answered_full : {P : Type 0} (s : Scene) (new : Run P) (kind : Making) (x : ℕ) (label : RightSet) (value : Value) (left : List Value) (r : Reply) → value ∷ left ≡ s.stock → IsFull s.graph x (deed_making kind label value) r → StandsFor new.store s.graph → values_left new.supply ≡ stock_left r left s.stock → new.helpers ≡ s.helpers → (t : Scene) × Shows new t × Serves s (line_making kind x label) (told.Reply r) t
answered_full s new kind x label value left r stock full stands supply helpers =
    answered s new kind x label value left r stock full.subject full.answer (subst (λ (h : ProtectionGraph). StandsFor new.store h) (sym full.same) stands) supply helpers

-- nothing was changed, and the value is back
making_refused : {P : Type 0} (store : StoreState) (helpers : ℕ) (new : Run P) (kind : Making) (x : ℕ) (label : RightSet) (value : Value) (left : List Value) (refused : CreateRefused P) → Makes store new.store kind x label value (Err refused) → values_left new.supply ≡ value ∷ left → new.helpers ≡ helpers → (why : CreateFault) → refused.why ≡ why → HandlesBy store (value ∷ left) helpers (line_making kind x label) (create_answer why) new
making_refused store helpers new kind x label value left refused makes supply same_helpers create.NoSuchWorker why s shown =
    let P : List Value → Type 0 = λ stock. AnswersMaking s x (deed_making kind label) stock (told.Refused refusal.Worker) s in
    (s, (makes.refusals.same_graph s.graph shown.0, supply ∙ shown.1, same_helpers ∙ shown.2), inl (answers kind x label s s (told.Refused refusal.Worker) (subst P shown.1 (inr ((makes.refusals.no_such_worker s.graph shown.0).0 why, refl, refl)))))
making_refused store helpers new kind x label value left refused makes supply same_helpers create.VerticesFull why s shown =
    answered_full s new kind x label value left reply.VerticesFull shown.1 (vertices_full kind s.graph x label value (makes.refusals.no_more s.graph shown.0 why)) (makes.refusals.same_graph s.graph shown.0) (supply ∙ shown.1) (same_helpers ∙ shown.2)
making_refused store helpers new kind x label value left refused makes supply same_helpers create.WorkersFull why s shown =
    answered_full s new kind x label value left reply.WorkersFull shown.1 (workers_full kind s.graph x label value (makes.too_many s.graph shown.0 why)) (makes.refusals.same_graph s.graph shown.0) (supply ∙ shown.1) (same_helpers ∙ shown.2)
making_refused store helpers new kind x label value left refused makes supply same_helpers create.OutOfMemory why s shown =
    let subject = subject_held s.graph x (λ none. let e = (makes.refusals.no_such_worker s.graph shown.0).1 none in cc) in
    let some : s.stock ≢ [] = λ none. let e : value ∷ left ≡ [] = shown.1 ∙ none in cc in
    (s, (makes.refusals.same_graph s.graph shown.0, supply ∙ shown.1, same_helpers ∙ shown.2), inr (refusal.Memory, memory kind x label s subject some, refl, refl))
making_refused store helpers new kind x label value left refused makes supply same_helpers create.HeapFull why s shown =
    let subject = subject_held s.graph x (λ none. let e = (makes.refusals.no_such_worker s.graph shown.0).1 none in cc) in
    let some : s.stock ≢ [] = λ none. let e : value ∷ left ≡ [] = shown.1 ∙ none in cc in
    (s, (makes.refusals.same_graph s.graph shown.0, supply ∙ shown.1, same_helpers ∙ shown.2), inr (refusal.Heap, heap kind x label value s subject some (makes.refusals.full s.graph shown.0 why).0, refl, refl))

-- a line by which x was to make a vertex, with the value that was taken from the stock
pub handles_making : {P : Type 0} (store : StoreState) (helpers : ℕ) (new : Run P) (kind : Making) (x : ℕ) (label : RightSet) (value : Value) (left : List Value) (made : Result ℕ (CreateRefused P)) → Makes store new.store kind x label value made → values_left new.supply ≡ values_back made ++ left → new.helpers ≡ helpers → HandlesBy store (value ∷ left) helpers (line_making kind x label) (making_answer made) new
handles_making store helpers new kind x label value left (Ok name) makes supply same_helpers s shown =
    let subject = subject_held s.graph x (λ none. (makes.refusals.no_such_worker s.graph shown.0).1 none) in
    answered s new kind x label value left (reply.Name name) shown.1 subject (makes.vertex.name s.graph shown.0) (makes.vertex.step s.graph shown.0) supply (same_helpers ∙ shown.2)
handles_making store helpers new kind x label value left (Err refused) makes supply same_helpers s shown =
    making_refused store helpers new kind x label value left refused makes (supply ∙ ap (λ v. v ∷ left) makes.refusals.handed_back) same_helpers refused.why refl s shown

-- ---- the entry of a line

-- a line that has none
pub makes_none : (old new : StoreState) (values : List Value) (l : Line) (a : Answer) → entered l a values ≡ [] → new.entries ≡ old.entries → new.opening ≡ old.opening → MakesEntryBy old values l a new
makes_none old new values l a none same opening = record {
  entries = same ∙ sym (append-nil old.entries) ∙ ap (λ (es : List Entry). old.entries ++ es) (sym none);
  opening = opening;
}

-- what a store enters of a deed by which it was to make a vertex for x
pub record EntersMade {P : Type 0} (old new : StoreState) (x : ℕ) (d : Deed) (made : Result ℕ (CreateRefused P)) : Type 0 where
  pub named : IfOk made (λ name. Enters old new x d (reply.Name name))
  pub no_more : IfErr made (λ refused. refused.why ≡ create.VerticesFull → OnlyEnters old new x d reply.VerticesFull)
  pub too_many : IfErr made (λ refused. refused.why ≡ create.WorkersFull → OnlyEnters old new x d reply.WorkersFull)
  pub others : IfErr made (λ refused. refused.why ≢ create.VerticesFull → refused.why ≢ create.WorkersFull → IsUnchanged old new)
  pub opening : new.opening ≡ old.opening

-- the entry has this reply
makes_one : (store new : StoreState) (kind : Making) (x : ℕ) (label : RightSet) (value : Value) (left : List Value) (r : Reply) → Enters store new x (deed_making kind label value) r → new.opening ≡ store.opening → MakesEntryBy store (value ∷ left) (line_making kind x label) (told.Reply r) new
makes_one store new kind x label value left r entry opening = record {
  entries = entry ∙ ap (λ (es : List Entry). store.entries ++ es) (sym (enters kind x label value left r));
  opening = opening;
}

-- the entry of a refusal that has one, and that there is none of another
making_refused_entry : (store new : StoreState) (kind : Making) (x : ℕ) (label : RightSet) (value : Value) (left : List Value) (why : CreateFault) → (why ≡ create.VerticesFull → OnlyEnters store new x (deed_making kind label value) reply.VerticesFull) → (why ≡ create.WorkersFull → OnlyEnters store new x (deed_making kind label value) reply.WorkersFull) → (why ≢ create.VerticesFull → why ≢ create.WorkersFull → IsUnchanged store new) → new.opening ≡ store.opening → MakesEntryBy store (value ∷ left) (line_making kind x label) (create_answer why) new
making_refused_entry store new kind x label value left create.VerticesFull no_more too_many others opening =
    makes_one store new kind x label value left reply.VerticesFull (no_more refl).entry opening
making_refused_entry store new kind x label value left create.WorkersFull no_more too_many others opening =
    makes_one store new kind x label value left reply.WorkersFull (too_many refl).entry opening
making_refused_entry store new kind x label value left why no_more too_many others opening =
    let same = others (λ e. cc) (λ e. cc) in
    makes_none store new (value ∷ left) (line_making kind x label) (create_answer why) (enters_none kind x label (value ∷ left) _) same.entries same.opening

pub making_entry : {P : Type 0} (store new : StoreState) (kind : Making) (x : ℕ) (label : RightSet) (value : Value) (left : List Value) (made : Result ℕ (CreateRefused P)) → EntersMade store new x (deed_making kind label value) made → MakesEntryBy store (value ∷ left) (line_making kind x label) (making_answer made) new
making_entry store new kind x label value left (Ok name) enters = makes_one store new kind x label value left (reply.Name name) enters.named enters.opening
making_entry store new kind x label value left (Err refused) enters = making_refused_entry store new kind x label value left refused.why enters.no_more enters.too_many enters.others enters.opening

-- where the stock is empty, the line is refused, and has none
pub without_stock : {P : Type 0} (old new : Run P) (kind : Making) (x : ℕ) (label : RightSet) → new.store ≡ old.store → values_left old.supply ≡ [] → values_left new.supply ≡ [] → new.helpers ≡ old.helpers → Handles old (line_making kind x label) (told.Refused refusal.Stock) new × MakesEntry old (line_making kind x label) (told.Refused refusal.Stock) new
without_stock old new kind x label same none left helpers = (
  (λ s shown.
      let P : List Value → Type 0 = λ stock. AnswersMaking s x (deed_making kind label) stock (told.Refused refusal.Stock) s in
      (s, (ap graph_of_store same ∙ shown.0, left ∙ sym none ∙ shown.1, helpers ∙ shown.2), inl (answers kind x label s s (told.Refused refusal.Stock) (subst P (sym none ∙ shown.1) (refl, refl))))),
  makes_none old.store new.store (values_left old.supply) (line_making kind x label) (told.Refused refusal.Stock) (enters_none kind x label (values_left old.supply) refusal.Stock) (ap (λ (t : StoreState). t.entries) same) (ap (λ (t : StoreState). t.opening) same),
)

-- ---- entries that are given up

-- a line is handled as it was before they were, and its entry is made
pub handles_before : {P : Type 0} (old mid : StoreState) (values : List Value) (helpers : ℕ) (l : Line) (a : Answer) (new : Run P) → IsAsBefore old mid → HandlesBy mid values helpers l a new → HandlesBy old values helpers l a new
handles_before old mid values helpers l a new before handles s shows = handles s (stands_still old mid s.graph before.opening before.entries shows.0, shows.1, shows.2)

pub makes_before : (old mid : StoreState) (values : List Value) (l : Line) (a : Answer) (new : StoreState) → IsAsBefore old mid → MakesEntryBy mid values l a new → MakesEntryBy old values l a new
makes_before old mid values l a new before makes = record {
  entries = makes.entries ∙ ap (λ (es : List Entry). es ++ entered l a values) before.entries;
  opening = makes.opening ∙ before.opening;
}

-- so it is where they are given up after it
pub handles_behind : {P : Type 0} (old : StoreState) (values : List Value) (helpers : ℕ) (l : Line) (a : Answer) (mid : Run P) (after : StoreState) → HandlesBy old values helpers l a mid → IsAsBefore mid.store after → HandlesBy old values helpers l a (record mid { store = after })
handles_behind old values helpers l a mid after handles before s shows =
    let told = handles s shows in
    (told.0, (stands_still mid.store after told.0.graph before.opening before.entries told.1.0, told.1.1, told.1.2), told.2)
