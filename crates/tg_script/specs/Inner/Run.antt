-- How a run under way stands to a scene, and what is said of the answer to a line.
use Rattle.std.specs.Prelude.{◌≡◌, ℕ, Bool, true, List, [], ◌∷◌, ◌++◌, Result, Ok, Err}
use Rattle.tg_model.specs.declared.value.Value.{Value}
use Rattle.tg_model.specs.declared.reply.Reply.TheVariants as reply
use Rattle.tg_rights.specs.RightSet.{RightSet}
use Rattle.tg_script.specs.Refusals.{create_answer}
use Rattle.tg_store.specs.declared.fault.CreateRefused.{CreateRefused}
use Rattle.tg_model.specs.declared.making.Making.{Making}
use Rattle.tg_model.specs.declared.making.Making.TheVariants.{Object, Subject}
use Rattle.tg_store.specs.Store.{StoreState, StandsFor}
use Rattle.tg_text.specs.declared.line.Line.{Line}
use Rattle.tg_text.specs.declared.line.Line.TheVariants as line
use Rattle.tg_text.specs.declared.answer.Answer.{Answer}
use Rattle.tg_text.specs.declared.answer.Answer.TheVariants as told
use Rattle.tg_script.specs.declared.run.Run.{Run}
use Rattle.tg_script.specs.Entering.{entered}
use Rattle.tg_script.specs.Inner.Supply.{values_left}
use Rattle.tg_script.specs.Script.{Scene, Serves}

-- the store represents the scene's graph, its stock is left, and its collections have as many helpers
abbrev pub ShowsBy : StoreState → List Value → ℕ → Scene → Type 0
ShowsBy store values helpers s = StandsFor store s.graph × (values ≡ s.stock) × (helpers ≡ s.helpers)

abbrev pub Shows : {P : Type 0} → Run P → Scene → Type 0
Shows r t = ShowsBy r.store (values_left r.supply) r.helpers t

-- whatever scene was shown, the run now shows one by which the line was served
abbrev pub HandlesBy : {P : Type 0} → StoreState → List Value → ℕ → Line → Answer → Run P → Type 0
HandlesBy store values helpers l a new = (s : Scene) → ShowsBy store values helpers s → (t : Scene) × Shows new t × Serves s l a t

abbrev pub Handles : {P : Type 0} → Run P → Line → Answer → Run P → Type 0
Handles old l a new = HandlesBy old.store (values_left old.supply) old.helpers l a new

-- entries may have been given up, and nothing else changed that a line is answered by
pub record IsAsBefore (old new : StoreState) : Type 0 where
  pub entries : new.entries ≡ old.entries
  pub opening : new.opening ≡ old.opening

-- the same, but none was given up where they are held
pub record IsHeeded (holds : Bool) (old new : StoreState) : Type 0 where
  pub same : IsAsBefore old new
  pub held : holds ≡ true → new.handed ≡ old.handed

-- The line made exactly the entry that a line makes which is answered so, where these values were left of the stock, and the opening
-- is the same still.
pub record MakesEntryBy (old : StoreState) (values : List Value) (l : Line) (a : Answer) (new : StoreState) : Type 0 where
  pub entries : new.entries ≡ old.entries ++ entered l a values
  pub opening : new.opening ≡ old.opening

abbrev pub MakesEntry : {P : Type 0} → Run P → Line → Answer → Run P → Type 0
MakesEntry old l a new = MakesEntryBy old.store (values_left old.supply) l a new.store

-- the same, and where they are held no entry was given up
pub record EntersLine {P : Type 0} (holds : Bool) (old : Run P) (l : Line) (a : Answer) (new : Run P) : Type 0 where
  pub entry : MakesEntry old l a new
  pub held : holds ≡ true → new.store.handed ≡ old.store.handed

-- the line by which x makes a vertex of this kind
abbrev pub line_making : Making → ℕ → RightSet → Line
line_making Object x label = line.Create x label
line_making Subject x label = line.Spawn x label

-- how it is told that a vertex was made, or why none was
abbrev pub making_answer : {P : Type 0} → Result ℕ (CreateRefused P) → Answer
making_answer (Ok name) = told.Reply (reply.Name name)
making_answer (Err refused) = create_answer refused.why

-- what comes back to the stock then
abbrev pub values_back : {P : Type 0} → Result ℕ (CreateRefused P) → List Value
values_back (Ok name) = []
values_back (Err refused) = refused.draft ∷ []
