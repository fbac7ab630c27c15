-- A deed of a kept store, with the answer of the store, and the entries that are left if the file fails. Each answer is the answer
-- of the store's own call.
use Rattle.std.specs.Prelude.{◌≡◌, ◌≢◌, ◌↔◌, ◌⊎◌, ℕ, ◌<◌, ◌≤◌, List, [], ◌∷◌, length, Option, Some, Result, Err, IfOk, IfErr, OnErr, OnOk, IsTrue, Vec}
use Rattle.sqlite_disk.specs.declared.Disk as disk
use Rattle.tg_rights.specs.RightSet.{RightSet}
use Rattle.tg_model.specs.declared.command.Command.{Command}
use Rattle.tg_model.specs.declared.command.Deed.{Deed}
use Rattle.tg_model.specs.declared.command.Deed.TheVariants.{Plain}
use Rattle.tg_model.specs.declared.making.Making.{Making}
use Rattle.tg_model.specs.declared.making.Making.TheVariants.{Subject}
use Rattle.tg_model.specs.declared.opening.TheConstants.{MAX_WORKERS}
use Rattle.tg_model.specs.declared.reply.Denial.{Denial}
use Rattle.tg_model.specs.declared.reply.Reply.{Reply}
use Rattle.tg_model.specs.declared.reply.Reply.TheVariants as reply
use Rattle.tg_model.specs.declared.value.Value.{Value}
use Rattle.tg_model.specs.Graph.{ProtectionGraph, IsSubject, listing_of}
use Rattle.tg_model.specs.Making.{deed_making}
use Rattle.tg_journal.specs.declared.entry.Entry.{Entry}
use Rattle.tg_journal.specs.History.{IsLegal}
use Rattle.tg_store.specs.declared.fault.ApplyFault.{ApplyFault}
use Rattle.tg_store.specs.declared.fault.ApplyFault.TheVariants as apply
use Rattle.tg_store.specs.declared.fault.CreateFault.TheVariants as create
use Rattle.tg_store.specs.declared.fault.CreateRefused.{CreateRefused}
use Rattle.tg_store.specs.declared.handing.Hand.{Hand}
use Rattle.tg_store.specs.declared.handing.Handed.{Handed}
use Rattle.tg_store.specs.Handing.{ComesOfHand, LacksCellsToHand, denied_in_hand, entries_of_hand}
use Rattle.tg_store.specs.Leaving.{HasLeft}
use Rattle.tg_store.specs.Made.{IsCrowdedOut, IsMadeFor, MayRefuse}
use Rattle.tg_store.specs.Store.{StoreState, Enters, IsUnchanged, OnlyEnters, StandsFor, graph_of_store}
use Rattle.tg_store.specs.Withdrawing.{IsWithdrawn}
use Rattle.tg_keep.specs.Files.{LeavesOpen}
use Rattle.tg_keep.specs.Lines.{history_of}
use Rattle.tg_kept.specs.Texts.{SaysFront}

-- A worker asked for a vertex.
pub record MakesOrRefuses {P : Type 0} (kind : Making) (worker : ℕ) (label : RightSet) (draft : Value) (old new : StoreState) (answer : Result ℕ (CreateRefused P)) : Type 0 where
  pub entry : IfOk answer (λ name. Enters old new worker (deed_making kind label draft) (reply.Name name))
  pub made : IfOk answer (IsMadeFor (deed_making kind label draft) worker label draft old new)
  pub refusals : MayRefuse (deed_making kind label draft) worker draft old new answer
  pub no_more_entry : IfErr answer (λ refused. refused.why ≡ create.VerticesFull → OnlyEnters old new worker (deed_making kind label draft) reply.VerticesFull)
  pub too_many : (g : ProtectionGraph) → StandsFor old g → IfErr answer (λ refused. refused.why ≡ create.WorkersFull →
      (kind ≡ Subject) × IsSubject g worker × (g.made < g.limit) × (MAX_WORKERS ≤ length g.subjects))
  pub crowded : kind ≡ Subject → (g : ProtectionGraph) → StandsFor old g → IsSubject g worker → g.made < g.limit → MAX_WORKERS ≤ length g.subjects → IsCrowdedOut answer
  pub too_many_entry : IfErr answer (λ refused. refused.why ≡ create.WorkersFull → OnlyEnters old new worker (deed_making kind label draft) reply.WorkersFull)
  pub refused : IfErr answer (λ refused. refused.why ≢ create.VerticesFull → refused.why ≢ create.WorkersFull → IsUnchanged old new)

-- A worker asked to hand rights on.
pub record Hands (hand : Hand) (old new : StoreState) (answer : Result Handed ApplyFault) : Type 0 where
  pub comes : IfOk answer (ComesOfHand hand old new)
  pub no_such_worker : (g : ProtectionGraph) → StandsFor old g → (answer ≡ Err apply.NoSuchWorker) ↔ (¬ IsSubject g hand.via)
  pub full : answer ≡ Err apply.HeapFull → LacksCellsToHand hand old
  pub refused : OnErr answer (IsUnchanged old new)

-- Rights over a target were to be withdrawn from all vertices but these names.
pub record Withdraws {A E : Type 0} (target : ℕ) (rights : RightSet) (keep : List ℕ) (old new : StoreState) (answer : Result (Vec ℕ A) E) : Type 0 where
  pub withdrawn : IfOk answer (λ names. IsWithdrawn target rights keep old new names.items)
  pub refused : OnErr answer (IsUnchanged old new)

-- A worker was to leave.
pub record LeavesOrRefuses (worker : ℕ) (old new : StoreState) (answer : Result ℕ ApplyFault) : Type 0 where
  pub left : OnOk answer (HasLeft worker old new)
  pub count : (g : ProtectionGraph) → StandsFor old g → IfOk answer (λ count. count ≡ length (listing_of g.label g.made worker))
  pub no_such_worker : (g : ProtectionGraph) → StandsFor old g → (answer ≡ Err apply.NoSuchWorker) ↔ (¬ IsSubject g worker)
  pub never_full : answer ≢ Err apply.HeapFull
  pub refused : OnErr answer (IsUnchanged old new)

-- ---- if the store is lost

-- no entry was made, or all of these entries
abbrev pub AreNoneOr : List Entry → List Entry → Type 0
AreNoneOr all made = (made ≡ []) ⊎ (made ≡ all)

-- no entry was made, or the entry by which a worker asks for a vertex
abbrev pub AreOfMaking : ℕ → Deed → List Entry → Type 0
AreOfMaking worker deed made = (made ≡ []) ⊎ ((answer : Reply) × (made ≡ (record { worker = worker; deed = deed; reply = answer }) ∷ []))

-- the entries of a hand, of which these rights were removed again, or the entry of the command that the graph denies
abbrev pub AreHandedOn : Hand → List Entry → Type 0
AreHandedOn h made = (back : Option RightSet) × (made ≡ entries_of_hand h back)

abbrev pub AreDenied : ProtectionGraph → Hand → List Entry → Type 0
AreDenied g h made = (command : Command) × ((denial : Denial) × ((denied_in_hand g.label g.value h ≡ Some (command, denial))
    × (made ≡ (record { worker = h.via; deed = Plain command; reply = reply.Denied denial }) ∷ [])))

-- no entry was made, or the entries of a hand
abbrev pub AreOfHand : ProtectionGraph → Hand → List Entry → Type 0
AreOfHand g h made = (made ≡ []) ⊎ (AreHandedOn h made ⊎ AreDenied g h made)

-- The store is lost, and the file isn't. The deed made entries of its own, which are legal. Each content that a crash may leave says the
-- history of the store, and a front of these entries. It isn't that of a closed file.
pub record LosesDeed {D : Type 0} (g : disk.Ghosts D) (AreTheirs : List Entry → Type 0) (s : StoreState) (old new : D) : Type 0 where
  pub made : List Entry
  pub theirs : AreTheirs made
  pub legal : IsLegal (graph_of_store s) made
  pub crash : IsTrue (g.is_clean new) → (c : List ℕ) → g.may_leave new c → SaysFront s.opening.plan s.entries made (history_of c)
  pub unclosed : IsTrue (g.is_clean new) → LeavesOpen g.may_leave new
  pub calm : g.is_clean new ≡ g.is_clean old
