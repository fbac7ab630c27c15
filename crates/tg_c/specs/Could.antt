-- The questions of C about the future. A question is asked of a store in its place, and the answer is in another place.
use Rattle.std.specs.Prelude.{◌≡◌, ◌≢◌, ◌⊎◌, ℕ, ◌==◌, Bool, true, false, List, [], ◌∷◌, Some, Result, Ok, Err, IfOk, IfErr, if◌then◌else◌, length, map, slice_get, ok_or}
use Rattle.std.specs.Option.{IsSome}
use Rattle.std.specs.List.{All}
use Rattle.tg_rights.specs.declared.Right.{Right}
use Rattle.tg_rights.specs.RightSet.{right_of_bit}
use Rattle.tg_model.specs.declared.reply.Reply.TheVariants.{Done}
use Rattle.tg_model.specs.Graph.{ProtectionGraph, IsSubject, IsSound}
use Rattle.tg_could.specs.Answered.{turns_of}
use Rattle.tg_could.specs.Turns.{Turn}
use Rattle.tg_could.specs.Reached.{IsReachedPicture, IsToldOf, JoinReached, with_edges}
use Rattle.tg_could.specs.declared.answer.Answer.{Answer}
use Rattle.tg_could.specs.declared.answer.Answer.TheVariants.{Never, Could, WantsNames, Open}
use Rattle.tg_could.specs.declared.reached.ReachedAnswer.{ReachedAnswer}
use Rattle.tg_could.specs.declared.reached.ReachedAnswer.TheVariants.{Unreached, Of}
use Rattle.tg_store.specs.Store.{StandsFor}
use Rattle.tg_graph.specs.Shown.{shown_in}
use Rattle.tg_c.specs.declared.answer.AnswerPlace.{AnswerPlace}
use Rattle.tg_c.specs.declared.foresee.SupposedScene.{SupposedScene}
use Rattle.tg_c.specs.declared.forms.EdgeIn.{EdgeIn}
use Rattle.tg_c.specs.declared.place.StorePlace.{StorePlace}
use Rattle.tg_c.specs.declared.records.RecordOut.{RecordOut}
use Rattle.tg_c.specs.declared.refusal.CallRefusal.{CallRefusal}
use Rattle.tg_c.specs.declared.refusal.CallRefusal.TheVariants as refusal
use Rattle.tg_c.specs.Calls.{AreMet, Demand, IsFirstUnmet, IsMemoryOr, IsStatusWhere, demand, state_in}
use Rattle.tg_c.specs.Forms.{HaveLabels, edge_in}
use Rattle.tg_c.specs.Records.{answered, deed_out, numbers_replied, record_with}
use Rattle.tg_c.specs.Statuses.{status_of}

-- ---- the question

-- each of these is an active subject
abbrev pub AreActive : ProtectionGraph → List ℕ → Type 0
AreActive g names = All (IsSubject g) names

-- The scene of a question on a graph. All silent subjects are active subjects. The scene has the picture of the reached vertices,
-- and the edges.
pub record IsSceneOf (g : ProtectionGraph) (silent : List ℕ) (as_if : List EdgeIn) (scene : SupposedScene) : Type 0 where
  pub active : AreActive g silent
  pub sound : IsSound g
  pub picture : IsReachedPicture scene.picture g
  pub edges : scene.as_if.items ≡ map edge_in as_if

-- The answer is right for the graph with the supposed edges. All silent subjects are active subjects, and each edge joins two
-- vertices that are reached.
pub record IsForeseenOn (g : ProtectionGraph) (silent : List ℕ) (as_if : List EdgeIn) (x : ℕ) (right : Right) (y : ℕ) (told : ReachedAnswer) : Type 0 where
  pub active : AreActive g silent
  pub joined : JoinReached g (map edge_in as_if)
  pub told_of : IsToldOf silent (with_edges g (map edge_in as_if)) x right y told

-- Why there is no answer. Either a silent name is no active subject. Or all are, and memory ran out, or an edge doesn't join two
-- vertices that are reached.
abbrev pub IsRefusedOn : ProtectionGraph → List ℕ → List EdgeIn → CallRefusal → Type 0
IsRefusedOn g silent as_if why =
    ((¬ AreActive g silent) × (why ≡ refusal.NoSuchWorker))
    ⊎ (AreActive g silent × IsMemoryOr refusal.BadEdge (¬ JoinReached g (map edge_in as_if)) why)

-- the demands on the edges and on the two places, in the order in which they are checked, before the store is asked
abbrev pub asked_of_places : StorePlace → Bool → List EdgeIn → List Demand
asked_of_places place is_open as_if =
    demand (HaveLabels as_if) refusal.BadRights
    ∷ demand (is_open ≡ false) refusal.AlreadyOpen
    ∷ demand (place.is_open ≡ true) refusal.NotOpen
    ∷ []

-- the demands of a question, which are that the bit is a right's, and then the same as above
abbrev pub asked_first : StorePlace → Bool → List EdgeIn → ℕ → List Demand
asked_first place is_open as_if right = demand (IsSome (right_of_bit right)) refusal.BadRights ∷ asked_of_places place is_open as_if

-- the answer to a question to a store in its place, whether the answer's place was open or not
pub record IsForeseen (place : StorePlace) (is_open : Bool) (silent : List ℕ) (as_if : List EdgeIn) (x right y : ℕ) (told : ReachedAnswer) : Type 0 where
  pub met : AreMet (asked_first place is_open as_if right)
  pub told_of : (g : ProtectionGraph) → StandsFor (state_in place) g → (r : Right) → right_of_bit right ≡ Some r → IsForeseenOn g silent as_if x r y told

-- Why a question is refused. Either a demand isn't met, and the first one is the reason. Or all are met, and the reason is the
-- store's graph or lack of memory.
abbrev pub IsRefusedQuestion : StorePlace → Bool → List ℕ → List EdgeIn → ℕ → CallRefusal → Type 0
IsRefusedQuestion place is_open silent as_if right why =
    IsFirstUnmet (asked_first place is_open as_if right) why
    ⊎ (AreMet (asked_first place is_open as_if right) × ((g : ProtectionGraph) → StandsFor (state_in place) g → IsRefusedOn g silent as_if why))

-- A question of C. The store is as it was. If the question is refused, the answer's place is as it was too.
pub record Foresees (old new : StorePlace) (silent : List ℕ) (as_if : List EdgeIn) (x right y : ℕ) (before after : AnswerPlace) (status : ℕ) : Type 0 where
  pub stays : new.is_open ≡ old.is_open
  pub same : old.is_open ≡ true → state_in new ≡ state_in old
  pub told : status ≡ 0 → (after.is_open ≡ true) × IsForeseen old before.is_open silent as_if x right y after.handle.opened.told
  pub refused : status ≢ 0 → IsStatusWhere (IsRefusedQuestion old before.is_open silent as_if right) status
  pub kept : status ≢ 0 → after ≡ before

-- ---- the answer

-- never, now, could, could with more names, open
abbrev pub outlook_kind : Answer → ℕ
outlook_kind (Never separation) = 0
outlook_kind (Could turns) = if length turns.items == 0 then 1 else 2
outlook_kind (WantsNames turns names) = 3
outlook_kind Open = 5

-- the kind of an answer, which is one of these kinds, or that x isn't reached
abbrev pub kind_in : ReachedAnswer → ℕ
kind_in Unreached = 4
kind_in (Of answer) = outlook_kind answer

-- the kind of an answer, or why there is none
abbrev pub kind_told : Result ReachedAnswer CallRefusal → Result ℕ CallRefusal
kind_told (Ok told) = Ok (kind_in told)
kind_told (Err why) = Err why

-- A question of C for the kind of the answer alone. The store is as it was.
pub record ForeseesKind (old new : StorePlace) (silent : List ℕ) (as_if : List EdgeIn) (x right y : ℕ) (tells : Result ℕ CallRefusal → Type 0) : Type 0 where
  pub stays : new.is_open ≡ old.is_open
  pub same : old.is_open ≡ true → state_in new ≡ state_in old
  pub answer : Result ReachedAnswer CallRefusal
  pub told : tells (kind_told answer)
  pub is : IfOk answer (IsForeseen old false silent as_if x right y)
  pub refused : IfErr answer (IsRefusedQuestion old false silent as_if right)

-- how many names are lacking
abbrev pub names_answered : Answer → ℕ
names_answered (Never separation) = 0
names_answered (Could turns) = 0
names_answered (WantsNames turns names) = names
names_answered Open = 0

abbrev pub names_told : ReachedAnswer → ℕ
names_told Unreached = 0
names_told (Of answer) = names_answered answer

-- the turns by which the right comes about
abbrev pub turns_in : ReachedAnswer → List Turn
turns_in Unreached = []
turns_in (Of answer) = turns_of answer

-- the turn at a place. Places are counted from 0, and there is no turn after the last
abbrev pub turn_at : ℕ → ReachedAnswer → Result Turn CallRefusal
turn_at at told = ok_or (slice_get (turns_in told) at) refusal.BadPlace

-- ---- how it is reported

-- A call on an answer. A closed answer is refused with `NotOpen`, and an open answer is as it was.
pub record Consults {T : Type 0} (what : ReachedAnswer → Result T CallRefusal) (old new : AnswerPlace) (tells : Result T CallRefusal → Type 0) : Type 0 where
  pub not_open : old.is_open ≡ false → tells (Err refusal.NotOpen) × (new.is_open ≡ false)
  pub told : old.is_open ≡ true → tells (what old.handle.opened.told) × (new.is_open ≡ true) × (new.handle.opened ≡ old.handle.opened)

-- the turn as an entry that has no reply
abbrev pub turn_out : Turn → RecordOut
turn_out turn = record_with turn.0 (deed_out turn.1) (answered 0 0) (length (numbers_replied turn.1 Done)) 0

-- the out parameters of a call for a turn
pub record TurnOut : Type 0 where
  pub record_out : RecordOut
  pub numbers : List ℕ

abbrev pub turn_told : RecordOut → List ℕ → TurnOut
turn_told record_out numbers = record { record_out = record_out; numbers = numbers }

abbrev pub TellsTurn : ℕ → TurnOut → TurnOut → Result Turn CallRefusal → Type 0
TellsTurn status old new (Ok turn) = (status ≡ 0)
    × (new ≡ record { record_out = turn_out turn; numbers = shown_in (numbers_replied turn.1 Done) old.numbers })
TellsTurn status old new (Err why) = (status ≡ status_of why) × (new ≡ old)
