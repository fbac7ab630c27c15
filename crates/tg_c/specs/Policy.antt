-- A policy of C. It has many questions in one call, each of which is to be answered never.
use Rattle.std.specs.Prelude.{◌≡◌, ◌≢◌, ◌⊎◌, ℕ, ◌<◌, ◌≤◌, Bool, true, List, ◌∷◌, Option, Some, None, length, map, slice_index_or}
use Rattle.std.specs.Option.{IsSome}
use Rattle.std.specs.List.{All, AllWithin}
use Rattle.tg_rights.specs.declared.Right.{Right}
use Rattle.tg_rights.specs.RightSet.{right_of_bit}
use Rattle.tg_model.specs.declared.edge.Edge.{Edge}
use Rattle.tg_model.specs.Graph.{ProtectionGraph, IsReachable, IsSound}
use Rattle.tg_model.specs.Picture.{Shown}
use Rattle.tg_could.specs.Reached.{IsReachedPicture, IsToldOf, JoinReached, with_edges}
use Rattle.tg_could.specs.Turns.{NeverHolds}
use Rattle.tg_could.specs.declared.reached.ReachedAnswer.{ReachedAnswer}
use Rattle.tg_store.specs.Store.{StandsFor}
use Rattle.tg_c.specs.declared.answer.AnswerPlace.{AnswerPlace}
use Rattle.tg_c.specs.declared.forms.EdgeIn.{EdgeIn}
use Rattle.tg_c.specs.declared.forms.QuestionIn.{QuestionIn}
use Rattle.tg_c.specs.declared.place.StorePlace.{StorePlace}
use Rattle.tg_c.specs.declared.policy.PolicyBreach.{PolicyBreach}
use Rattle.tg_c.specs.declared.refusal.CallRefusal.{CallRefusal}
use Rattle.tg_c.specs.declared.refusal.CallRefusal.TheVariants as refusal
use Rattle.tg_c.specs.declared.view.sight.Sight.{Sight}
use Rattle.tg_c.specs.Calls.{AreMet, Demand, IsFirstUnmet, IsStatusWhere, demand, state_in}
use Rattle.tg_c.specs.Could.{AreActive, IsRefusedOn, asked_of_places, kind_in}
use Rattle.tg_c.specs.Forms.{edge_in}
use Rattle.tg_c.specs.View.{IsSightOf}

-- ---- what is asked

-- each question is about one right
abbrev pub AskRights : List QuestionIn → Type 0
AskRights questions = All (λ q. IsSome (right_of_bit q.right)) questions

-- the demands of a policy, in the order in which they are checked, before the store is asked
abbrev pub asked_of_policy : StorePlace → Bool → List EdgeIn → List QuestionIn → List Demand
asked_of_policy place is_open as_if questions = demand (AskRights questions) refusal.BadRights ∷ asked_of_places place is_open as_if

-- ---- the answer on a graph

-- x is reached or isn't made yet, and never holds the right over y
abbrev pub IsNeverTold : List ℕ → ProtectionGraph → QuestionIn → Type 0
IsNeverTold silent g q = (right : Right) → right_of_bit q.right ≡ Some right → (IsReachable g q.x ⊎ (g.made ≤ q.x)) × NeverHolds silent g q.x right q.y

-- the answer is right for the question
abbrev pub IsToldTo : List ℕ → ProtectionGraph → QuestionIn → ReachedAnswer → Type 0
IsToldTo silent g q told = (right : Right) → right_of_bit q.right ≡ Some right → IsToldOf silent g q.x right q.y told

-- Nothing that is asked before this place ever comes about. The answer is that to the question at the place, and isn't never.
pub record IsBreachOfPolicy (silent : List ℕ) (g : ProtectionGraph) (questions : List QuestionIn) (place : ℕ) (told : ReachedAnswer) : Type 0 where
  pub before : AllWithin (IsNeverTold silent g) questions 0 place
  pub inside : place < length questions
  pub answer : (d : QuestionIn) → IsToldTo silent g (slice_index_or questions place d) told
  pub more : kind_in told ≢ 0

-- nothing that is asked ever comes about, or this is the first question that isn't answered so
abbrev pub IsPolicyOutcome : List ℕ → ProtectionGraph → List QuestionIn → Option PolicyBreach → Type 0
IsPolicyOutcome silent g questions None = All (IsNeverTold silent g) questions
IsPolicyOutcome silent g questions (Some breach) = IsBreachOfPolicy silent g questions breach.place breach.answer.value.told

-- It holds of each graph with these edges too of which a scene has the picture and a view. A scene has the picture of what is reached
-- without the edges.
abbrev pub OnSupposed : Shown → List ℕ → List Edge → Sight → (ProtectionGraph → Type 0) → Type 0
OnSupposed picture silent edges sight holds = (g : ProtectionGraph) → IsSound g → IsReachedPicture picture g → JoinReached g edges
    → IsSightOf silent (with_edges g edges) sight → holds (with_edges g edges)

-- ---- the call

-- The outcome on a graph with the supposed edges. All silent subjects are active subjects, and each edge joins two vertices that are
-- reached.
pub record IsPolicyOn (g : ProtectionGraph) (silent : List ℕ) (as_if : List EdgeIn) (questions : List QuestionIn) (told : Option PolicyBreach) : Type 0 where
  pub active : AreActive g silent
  pub joined : JoinReached g (map edge_in as_if)
  pub told_of : IsPolicyOutcome silent (with_edges g (map edge_in as_if)) questions told

-- the outcome of a policy of a store in its place, whether the answer's place was open or not
pub record IsPolicyAnswered (place : StorePlace) (is_open : Bool) (silent : List ℕ) (as_if : List EdgeIn) (questions : List QuestionIn) (told : Option PolicyBreach) : Type 0 where
  pub met : AreMet (asked_of_policy place is_open as_if questions)
  pub told_on : (g : ProtectionGraph) → StandsFor (state_in place) g → IsPolicyOn g silent as_if questions told

-- Why a policy isn't answered. Either a demand isn't met, and the first one is the reason. Or all are met, and the reason is the
-- store's graph or lack of memory.
abbrev pub IsRefusedPolicy : StorePlace → Bool → List ℕ → List EdgeIn → List QuestionIn → CallRefusal → Type 0
IsRefusedPolicy place is_open silent as_if questions why =
    IsFirstUnmet (asked_of_policy place is_open as_if questions) why
    ⊎ (AreMet (asked_of_policy place is_open as_if questions) × ((g : ProtectionGraph) → StandsFor (state_in place) g → IsRefusedOn g silent as_if why))

-- What C gets. The place is that of the first breach, and the answer's place has its answer. If there is no breach, the place is the
-- number of questions, and the answer's place is as it was.
abbrev pub TellsBreach : List QuestionIn → ℕ → AnswerPlace → AnswerPlace → Option PolicyBreach → Type 0
TellsBreach questions at before after None = (at ≡ length questions) × (after ≡ before)
TellsBreach questions at before after (Some breach) = (at ≡ breach.place) × (after.is_open ≡ true) × (after.handle.opened ≡ breach.answer.value)

-- the place of the first breach, before and after the call
pub record PlaceOut : Type 0 where
  pub old : ℕ
  pub new : ℕ

abbrev pub place_out : ℕ → ℕ → PlaceOut
place_out old new = record { old = old; new = new }

-- A policy of C. The store is as it was. If the policy is refused, the answer's place and the place of the breach are as they were too.
pub record AsksPolicy (old new : StorePlace) (silent : List ℕ) (as_if : List EdgeIn) (questions : List QuestionIn) (at : PlaceOut) (before after : AnswerPlace) (status : ℕ) : Type 0 where
  pub stays : new.is_open ≡ old.is_open
  pub same : old.is_open ≡ true → state_in new ≡ state_in old
  pub told : status ≡ 0 → (outcome : Option PolicyBreach) × IsPolicyAnswered old before.is_open silent as_if questions outcome × TellsBreach questions at.new before after outcome
  pub refused : status ≢ 0 → IsStatusWhere (IsRefusedPolicy old before.is_open silent as_if questions) status
  pub kept : status ≢ 0 → (after ≡ before) × (at.new ≡ at.old)
