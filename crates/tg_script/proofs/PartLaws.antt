-- What lines leave: the scene after their entries, and where the script goes on.
use Rattle.std.proofs.Common.{◌≡◌, ◌∙◌, inl, inr, ℕ, ◌+◌, ◌-◌, Bool, false, List, [], ◌∷◌, ◌++◌, drop, length, length-append, Option, Some, None, Result, Ok, Err, refl, sym, ap, subst, arith, append_assoc, append-nil}
use Rattle.std.proofs.lemmas.List.{append_cancel_left}
use Rattle.tg_rights.specs.RightSet.{RightSet}
use Rattle.tg_model.specs.declared.command.Deed.{Deed}
use Rattle.tg_model.specs.declared.reply.Reply.{Reply}
use Rattle.tg_model.specs.declared.value.Value.{Value}
use Rattle.tg_model.specs.Graph.{ProtectionGraph}
use Rattle.tg_model.specs.Rules.{answer_of, step}
use Rattle.tg_journal.specs.declared.entry.Entry.{Entry}
use Rattle.tg_journal.specs.History.{graph_after}
use Rattle.tg_journal.proofs.HistoryLaws.{graph_after-append}
use Rattle.tg_store.specs.Store.{StoreState, graph_of_store}
use Rattle.tg_text.specs.declared.line.Line.{Line}
use Rattle.tg_text.specs.declared.line.Line.TheVariants as line
use Rattle.tg_text.specs.declared.answer.Answer.{Answer}
use Rattle.tg_text.specs.declared.answer.Answer.TheVariants as told
use Rattle.tg_text.specs.declared.answer.Refusal.{Refusal}
use Rattle.tg_text.specs.declared.answer.Refusal.TheVariants as refusal
use Rattle.tg_text.specs.declared.fault.ScriptFault.{ScriptFault}
use Rattle.tg_text.specs.declared.fault.ScriptFault.TheVariants as fault
use Rattle.tg_text.specs.Grammar.{line_text}
use Rattle.tg_text.specs.Reading.{Reads, opening_after}
use Rattle.tg_script.specs.declared.run.Run.{Run}
use Rattle.tg_script.specs.declared.script.Script.{Script}
use Rattle.tg_script.specs.Entering.{entered, making_entered}
use Rattle.tg_script.specs.Lines.{Follows, NextLine, PassesLine, PassesOn, ReadsFrom}
use Rattle.tg_script.specs.Parts.{scene_after, stock_after, stock_after_deed}
use Rattle.tg_script.specs.Script.{AnswersMaking, Scene, Serves, create_of, spawn_of, stock_left}
use Rattle.tg_script.specs.Watching.{AreAnswered}
use Rattle.tg_script.specs.Inner.Parts.{PassesLines, TakesStock}
use Rattle.tg_script.specs.Inner.Run.{Handles, MakesEntry, Shows}
use Rattle.tg_script.specs.Inner.Supply.{values_left}

-- ---- the scene after one line

-- an answer by which a line has no entry leaves the scene
unentered : (s t : Scene) (l : Line) (a b : Answer) → a ≡ b → entered l b s.stock ≡ [] → t ≡ s → t ≡ scene_after s (entered l a s.stock)
unentered s t l a b is none same = same ∙ ap (scene_after s) (sym none) ∙ ap (λ (x : Answer). scene_after s (entered l x s.stock)) (sym is)

refused_enters : (l : Line) (r : Refusal) (stock : List Value) → entered l (told.Refused r) stock ≡ []
refused_enters (line.Edge edge) r stock = refl
refused_enters (line.Create x label) r stock = refl
refused_enters (line.Spawn x label) r stock = refl
refused_enters (line.Plain x command) r stock = refl
refused_enters line.Full r stock = refl
refused_enters line.Minor r stock = refl

-- a vertex was made of the first value, or wasn't
made_scene : (s t : Scene) (x : ℕ) (making : Value → Deed) (value : Value) (rest : List Value) → value ∷ rest ≡ s.stock → ((r : Reply) (stock : List Value) → stock_after_deed (making value) r stock ≡ stock_left r (drop 1 stock) stock)
    → t ≡ record s { graph = step s.graph x (making value); stock = stock_left (answer_of s.graph x (making value)) rest s.stock }
    → t ≡ scene_after s (making_entered x making s.stock (answer_of s.graph x (making value)))
made_scene s t x making value rest has takes is =
    let r = answer_of s.graph x (making value) in
    let e : Entry = record { worker = x; deed = making value; reply = r } in
    let G : List Value → Scene = λ stock. record s { graph = step s.graph x (making value); stock = stock } in
    is
    ∙ ap (λ (l : List Value). G (stock_left r (drop 1 l) s.stock)) has
    ∙ ap G (sym (takes r s.stock))
    ∙ ap (λ (l : List Value). scene_after s (making_entered x making l r)) has

making_scene : (s t : Scene) (l : Line) (x : ℕ) (making : Value → Deed) (stock : List Value) (a : Answer) → stock ≡ s.stock → ((value : Value) (r : Reply) (values : List Value) → stock_after_deed (making value) r values ≡ stock_left r (drop 1 values) values)
    → ((r : Reply) (values : List Value) → entered l (told.Reply r) values ≡ making_entered x making values r) → AnswersMaking s x making stock a t → t ≡ scene_after s (entered l a s.stock)
making_scene s t l x making [] a has takes enters h = unentered s t l a (told.Refused refusal.Stock) h.0 (refused_enters l refusal.Stock s.stock) h.1
making_scene s t l x making (value ∷ rest) a has takes enters (inl h) =
    let r = answer_of s.graph x (making value) in
    made_scene s t x making value rest has (takes value) h.2 ∙ ap (scene_after s) (sym (enters r s.stock)) ∙ ap (λ (b : Answer). scene_after s (entered l b s.stock)) (sym h.1)
making_scene s t l x making (value ∷ rest) a has takes enters (inr h) = unentered s t l a (told.Refused refusal.Worker) h.1 (refused_enters l refusal.Worker s.stock) h.2

-- the scene after a line is that after the entry that it made
pub serves_scene : (s t : Scene) (l : Line) (a : Answer) → Serves s l a t → t ≡ scene_after s (entered l a s.stock)
serves_scene s t l a (inr h) = unentered s t l a (told.Refused h.0) h.2 (refused_enters l h.0 s.stock) h.3
serves_scene s t (line.Edge edge) a (inl h) = absurd h
serves_scene s t (line.Create x label) a (inl h) = making_scene s t (line.Create x label) x (create_of label) s.stock a refl (λ value r values. refl) (λ r values. refl) h
serves_scene s t (line.Spawn x label) a (inl h) = making_scene s t (line.Spawn x label) x (spawn_of label) s.stock a refl (λ value r values. refl) (λ r values. refl) h
serves_scene s t (line.Plain x command) a (inl (inl h)) = h.2 ∙ ap (λ (b : Answer). scene_after s (entered (line.Plain x command) b s.stock)) (sym h.1)
serves_scene s t (line.Plain x command) a (inl (inr h)) = unentered s t (line.Plain x command) a (told.Refused refusal.Worker) h.1 (refused_enters (line.Plain x command) refusal.Worker s.stock) h.2
serves_scene s t line.Full a (inl h) = unentered s t line.Full a (told.Collected (Some h.0)) h.2 refl h.3
serves_scene s t line.Minor a (inl h) = unentered s t line.Minor a (told.Collected None) h.0 refl h.1

-- ---- and after many

stock_after-append : (stock : List Value) (es more : List Entry) → stock_after stock (es ++ more) ≡ stock_after (stock_after stock es) more
stock_after-append stock [] more = refl
stock_after-append stock (e ∷ es) more = stock_after-append (stock_after_deed e.deed e.reply stock) es more

pub scene_after-append : (s : Scene) (es more : List Entry) → scene_after s (es ++ more) ≡ scene_after (scene_after s es) more
scene_after-append s es more = λ i. record {
  graph = graph_after-append s.graph es more i;
  stock = stock_after-append s.stock es more i;
  helpers = s.helpers;
}

-- lines after lines are answered from the scene after their entries
pub answered-append : (lines others : List Line) (s : Scene) (answers more : List Answer) (es made : List Entry) → AreAnswered s lines answers es → AreAnswered (scene_after s es) others more made → AreAnswered s (lines ++ others) (answers ++ more) (es ++ made)
answered-append [] others s answers more es made h k =
    let A : List Answer → Type 0 = λ x. AreAnswered s others (x ++ more) (es ++ made) in
    let E : List Entry → Type 0 = λ x. AreAnswered s others more (x ++ made) in
    let S : List Entry → Type 0 = λ x. AreAnswered (scene_after s x) others more made in
    subst A (sym h.0) (subst E (sym h.1) (subst S h.1 k))
answered-append (l ∷ lines) others s answers more es made (a, t, rest, later, serves, is, had, h) k =
    let S : Scene → Type 0 = λ x. AreAnswered x others more made in
    let here : scene_after s es ≡ scene_after t later =
    ap (scene_after s) had ∙ scene_after-append s (entered l a s.stock) later ∙ ap (λ (x : Scene). scene_after x later) (sym (serves_scene s t l a serves)) in (
      a,
      t,
      rest ++ more,
      later ++ made,
      serves,
      ap (λ (x : List Answer). x ++ more) is,
      ap (λ (x : List Entry). x ++ made) had ∙ append_assoc (entered l a s.stock) later made,
      answered-append lines others t rest more later made h (subst S here k),
    )

-- ---- the stock of a run

pub takes_none : {P : Type 0} (r : Run P) → TakesStock r r
takes_none r = record { made = []; entries = sym (append-nil r.store.entries); stock = refl; helpers = refl }

-- a line was answered, and has made its entry
pub takes_line : {P : Type 0} (old new : Run P) (l : Line) (a : Answer) → Handles old l a new → MakesEntry old l a new → TakesStock old new
takes_line old new l a handles makes =
    let s : Scene = record { graph = graph_of_store old.store; stock = values_left old.supply; helpers = old.helpers } in
    let v = handles s (refl, refl, refl) in
    let is = serves_scene s v.0 l a v.2 in
    record {
      made = entered l a (values_left old.supply);
      entries = makes.entries;
      stock = v.1.1 ∙ ap (λ (x : Scene). x.stock) is;
      helpers = v.1.2 ∙ ap (λ (x : Scene). x.helpers) is;
    }

pub takes_then : {P : Type 0} (old mid new : Run P) → TakesStock old mid → TakesStock mid new → TakesStock old new
takes_then old mid new first last = record {
  made = first.made ++ last.made;
  entries = last.entries ∙ ap (λ (x : List Entry). x ++ last.made) first.entries ∙ append_assoc old.store.entries first.made last.made;
  stock = last.stock ∙ ap (λ (x : List Value). stock_after x last.made) first.stock ∙ sym (stock_after-append (values_left old.supply) first.made last.made);
  helpers = last.helpers ∙ first.helpers;
}

-- the scene of a run after these entries
abbrev pub scene_of_run : {P : Type 0} → Run P → Scene
scene_of_run r = record { graph = graph_of_store r.store; stock = values_left r.supply; helpers = r.helpers }

pub run_scene : {P : Type 0} (old new : Run P) (es : List Entry) → TakesStock old new → new.store.opening ≡ old.store.opening → new.store.entries ≡ old.store.entries ++ es → scene_of_run new ≡ scene_after (scene_of_run old) es
run_scene old new es takes opening entries =
    let same : takes.made ≡ es = append_cancel_left old.store.entries takes.made es (sym takes.entries ∙ entries) in
    let graph : graph_of_store new.store ≡ graph_after (graph_of_store old.store) es =
    (λ i. graph_of_store (record { opening = opening i; entries = entries i; handed = new.store.handed; heap = new.store.heap; collections = new.store.collections }))
    ∙ graph_after-append _ old.store.entries es in
    let stock : values_left new.supply ≡ stock_after (values_left old.supply) es = takes.stock ∙ ap (stock_after (values_left old.supply)) same in
    λ i. record { graph = graph i; stock = stock i; helpers = takes.helpers i }

-- ---- where the script is

-- what is read where nothing but these is known
pub reads_at : (s t : Script) (room : ℕ) (opening : Bool) (bytes : List ℕ) (lines : List Line) (end : Option ScriptFault) (left : List ℕ) → t.workers ≡ s.workers → t.lines.room ≡ room → t.opening ≡ opening → (count : ℕ) → t.count ≡ count → ReadsFrom t bytes lines end left → Reads s.workers room count opening bytes lines end left
reads_at s t room opening bytes lines end left workers rooms opens count counts h =
    let W : ℕ → Type 0 = λ x. Reads x t.lines.room t.count t.opening bytes lines end left in
    let R : ℕ → Type 0 = λ x. Reads s.workers x t.count t.opening bytes lines end left in
    let C : ℕ → Type 0 = λ x. Reads s.workers room x t.opening bytes lines end left in
    let O : Bool → Type 0 = λ x. Reads s.workers room count x bytes lines end left in
    subst O opens (subst C counts (subst R rooms (subst W workers h)))

-- a line was taken, and its bytes
pub record TakesLineBytes (s : Script) (bytes : List ℕ) (l : Line) (t : Script) (rest : List ℕ) : Type 0 where
  pub further : (more : List ℕ) (others : List Line) (end : Option ScriptFault) (left : List ℕ) → ReadsFrom t (rest ++ more) others end left → ReadsFrom s (bytes ++ more) (l ∷ others) end left
  pub room : t.lines.room + length bytes ≡ s.lines.room + length rest

pub takes_bytes : (s t : Script) (bytes rest : List ℕ) (l : Line) → PassesLine s bytes l t rest → Follows s l t → PassesOn s (Some l) t → TakesLineBytes s bytes l t rest
takes_bytes s t bytes rest l passes follows on =
    let one = passes [] (Some fault.OutOfMemory) rest refl in
    let is : bytes ≡ line_text l ++ 10 ∷ rest = one.1 ∙ ap (λ (x : List ℕ). line_text l ++ 10 ∷ x) (sym one.5) in
    let size : length bytes ≡ length (line_text l) + length (10 ∷ rest) = ap length is ∙ length-append (line_text l) (10 ∷ rest) in
    let room : t.lines.room ≡ s.lines.room - (length (line_text l) + 1) = omega (arith, on) in
    record {
      further = λ more others end left h. (
        rest ++ more,
        ap (λ (x : List ℕ). x ++ more) is ∙ append_assoc (line_text l) (10 ∷ rest) more,
        one.2,
        one.3,
        one.4,
        reads_at s t (s.lines.room - (length (line_text l) + 1)) (opening_after s.opening l) (rest ++ more) others end left follows.workers room follows.opening (s.count + 1) follows.count h,
      );
      room = omega (arith, on, size);
    }

pub passes_none : (s : Script) (bytes : List ℕ) → PassesLines s bytes s bytes
passes_none s bytes = record { lines = []; further = λ more others end left h. h; room = refl }

pub passes_line : (start s t : Script) (bytes rest last : List ℕ) (l : Line) → PassesLines start bytes s rest → TakesLineBytes s rest l t last → PassesLines start bytes t last
passes_line start s t bytes rest last l so_far taken = record {
  lines = so_far.lines ++ l ∷ [];
  further = λ more others end left h.
      let P : List Line → Type 0 = λ x. ReadsFrom start (bytes ++ more) x end left in
      subst P (sym (append_assoc so_far.lines (l ∷ []) others)) (so_far.further more (l ∷ others) end left (taken.further more others end left h));
  room = omega (arith, so_far.room, taken.room);
}

-- the end of the bytes
pub at_end : (s : Script) (bytes left : List ℕ) → ReadsFrom s bytes [] None left → (bytes ≡ []) × (left ≡ [])
at_end s bytes left h = h

pub same_reads : (s t : Script) → PassesOn s None t → (bytes : List ℕ) (lines : List Line) (end : Option ScriptFault) (left : List ℕ) → ReadsFrom t bytes lines end left → ReadsFrom s bytes lines end left
same_reads s t on bytes lines end left h = reads_at s t s.lines.room s.opening bytes lines end left on.0 on.1 on.3 s.count on.2 h

pub passes_end : (start s t : Script) (bytes rest : List ℕ) → PassesLines start bytes s rest → PassesOn s None t → rest ≡ [] → PassesLines start bytes t []
passes_end start s t bytes rest so_far on none = record {
  lines = so_far.lines;
  further = λ more others end left h.
      let P : List ℕ → Type 0 = λ x. ReadsFrom s (x ++ more) others end left in
      so_far.further more others end left (subst P (sym none) (same_reads s t on more others end left h));
  room = omega (arith, so_far.room, on.1, ap length none);
}
