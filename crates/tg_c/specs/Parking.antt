-- What C gets of a user that a host parks or unparks.
use Rattle.std.specs.Prelude.{◌≡◌, ◌↔◌, ℕ, Result, Ok, Err, IfOk, OnErr}
use Rattle.tg_model.specs.Graph.{ProtectionGraph, IsSubject}
use Rattle.tg_store.specs.Parking.{ComesOfParking, IsInUse, KeepsGraph}
use Rattle.tg_store.specs.Unparking.{ComesOfUnparking}
use Rattle.tg_store.specs.Store.{StoreState, StandsFor}
use Rattle.tg_store.specs.declared.parking.Parked.{Parked}
use Rattle.tg_store.specs.declared.parking.Parked.TheVariants.{Done, Denied}
use Rattle.tg_store.specs.declared.parking.ParkFault.{ParkFault}
use Rattle.tg_store.specs.declared.parking.ParkFault.TheVariants as fault
use Rattle.tg_store.specs.declared.parking.Parking.{Parking}
use Rattle.tg_c.specs.declared.forms.DenialOut.{DenialOut}
use Rattle.tg_c.specs.declared.forms.ParkingIn.{ParkingIn}
use Rattle.tg_c.specs.declared.place.StorePlace.{StorePlace}
use Rattle.tg_c.specs.declared.refusal.CallRefusal.{CallRefusal}
use Rattle.tg_c.specs.Calls.{IsCall}
use Rattle.tg_c.specs.Forms.{denial_out}
use Rattle.tg_c.specs.Statuses.{of_park, status_of}

-- the answer to a host that parks a user: the clauses of the store's `park`
pub record IsParkingAnswered (p : Parking) (old new : StoreState) (answer : Result Parked ParkFault) : Type 0 where
  pub comes : IfOk answer (ComesOfParking p old new)
  pub no_such_worker : (g : ProtectionGraph) → StandsFor old g → (answer ≡ Err fault.NoSuchWorker) ↔ (¬ (IsSubject g p.host × IsSubject g p.user))
  pub in_use : (g : ProtectionGraph) → StandsFor old g → answer ≡ Err fault.InUse → IsInUse g.label p.user p.account
  pub refused : OnErr answer (KeepsGraph old new)

abbrev pub Parks : StorePlace → StorePlace → Parking → (Result Parked CallRefusal → Type 0) → Type 0
Parks old new p = IsCall of_park (IsParkingAnswered p) old new

-- the answer to a host that unparks a user: the clauses of the store's `unpark`
pub record IsUnparkingAnswered (p : Parking) (old new : StoreState) (answer : Result Parked ParkFault) : Type 0 where
  pub comes : IfOk answer (ComesOfUnparking p old new)
  pub no_such_worker : (g : ProtectionGraph) → StandsFor old g → (answer ≡ Err fault.NoSuchWorker) ↔ (¬ (IsSubject g p.host × IsSubject g p.user))
  pub in_use : (g : ProtectionGraph) → StandsFor old g → answer ≡ Err fault.InUse → IsInUse g.label p.account p.user
  pub refused : OnErr answer (KeepsGraph old new)

abbrev pub Unparks : StorePlace → StorePlace → Parking → (Result Parked CallRefusal → Type 0) → Type 0
Unparks old new p = IsCall of_park (IsUnparkingAnswered p) old new

-- the parking or the unparking that C asks for
abbrev pub parking_in : ParkingIn → Parking
parking_in form = record { host = form.host; user = form.user; account = form.account }

-- the out parameters of a parking and of an unparking
pub record ParkRoom : Type 0 where
  pub edges : ℕ
  pub denial : DenialOut

abbrev pub park_room : ℕ → DenialOut → ParkRoom
park_room edges denial = record { edges = edges; denial = denial }

-- what C gets: how many edges the user had or got; or why the host's grant was denied
abbrev pub TellsParked : ℕ → ParkRoom → ParkRoom → Result Parked CallRefusal → Type 0
TellsParked status old new (Ok (Done edges)) = (status ≡ 0) × (new ≡ record { edges = edges; denial = old.denial })
TellsParked status old new (Ok (Denied denial)) = (status ≡ 1) × (new ≡ record { edges = old.edges; denial = denial_out denial })
TellsParked status old new (Err why) = (status ≡ status_of why) × (new ≡ old)
