-- The answers in C about rights that a worker hands on.
use Rattle.std.specs.Prelude.{◌≡◌, ◌↔◌, ℕ, Some, None, Result, Ok, Err, IfOk, OnErr}
use Rattle.tg_rights.specs.RightSet.{RightSet}
use Rattle.tg_model.specs.Graph.{ProtectionGraph, IsSubject}
use Rattle.tg_store.specs.Handing.{ComesOfHand, LacksCellsToHand}
use Rattle.tg_store.specs.Store.{StoreState, IsUnchanged, StandsFor}
use Rattle.tg_store.specs.declared.fault.ApplyFault.{ApplyFault}
use Rattle.tg_store.specs.declared.fault.ApplyFault.TheVariants as apply
use Rattle.tg_store.specs.declared.handing.Hand.{Hand}
use Rattle.tg_store.specs.declared.handing.Handed.{Handed}
use Rattle.tg_store.specs.declared.handing.Handed.TheVariants.{Done, Denied}
use Rattle.tg_c.specs.declared.forms.DenialOut.{DenialOut}
use Rattle.tg_c.specs.declared.forms.HandIn.{HandIn}
use Rattle.tg_c.specs.declared.place.StorePlace.{StorePlace}
use Rattle.tg_c.specs.declared.refusal.CallRefusal.{CallRefusal}
use Rattle.tg_c.specs.declared.refusal.CallRefusal.TheVariants as refusal
use Rattle.tg_c.specs.Calls.{IsCall, Refuses}
use Rattle.tg_c.specs.Forms.{denial_out, label_at, rights_out}
use Rattle.tg_c.specs.Statuses.{of_apply, status_of}

-- the answer to a worker that hands rights on, with the clauses of the store's `hand`
pub record IsHandAnswered (h : Hand) (old new : StoreState) (answer : Result Handed ApplyFault) : Type 0 where
  pub comes : IfOk answer (ComesOfHand h old new)
  pub no_such_worker : (g : ProtectionGraph) → StandsFor old g → (answer ≡ Err apply.NoSuchWorker) ↔ (¬ IsSubject g h.via)
  pub full : answer ≡ Err apply.HeapFull → LacksCellsToHand h old
  pub refused : OnErr answer (IsUnchanged old new)

abbrev pub HandsRights : StorePlace → StorePlace → Hand → (Result Handed CallRefusal → Type 0) → Type 0
HandsRights old new h = IsCall of_apply (IsHandAnswered h) old new

-- the hand that C asks for, with the label of its rights
abbrev pub hand_of : HandIn → RightSet → Hand
hand_of form label = record { via = form.via; from = form.from; to = form.to; target = form.target; rights = label }

-- A hand, whose rights C passes as bits. If the bits are no label's, it is refused, and else the store is asked.
pub record HandsOfForm (old new : StorePlace) (form : HandIn) (tells : Result Handed CallRefusal → Type 0) : Type 0 where
  pub asked : (label : RightSet) → label_at form.rights ≡ Some label → HandsRights old new (hand_of form label) tells
  pub bad_rights : label_at form.rights ≡ None → Refuses old new tells refusal.BadRights

-- the out parameters of a hand
pub record HandOut : Type 0 where
  pub removed : ℕ
  pub denial : DenialOut

abbrev pub hand_out : ℕ → DenialOut → HandOut
hand_out removed denial = record { removed = removed; denial = denial }

-- The out parameters that C gets. They say which rights were removed again, or which command was denied and why.
abbrev pub TellsHanded : ℕ → HandOut → HandOut → Result Handed CallRefusal → Type 0
TellsHanded status old new (Ok (Done back)) = (status ≡ 0) × (new ≡ record { removed = rights_out back; denial = old.denial })
TellsHanded status old new (Ok (Denied command denial)) = (status ≡ 1) × (new ≡ record { removed = old.removed; denial = denial_out denial })
TellsHanded status old new (Err why) = (status ≡ status_of why) × (new ≡ old)
