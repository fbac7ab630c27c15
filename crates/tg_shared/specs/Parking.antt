-- What the keeper's parking or unparking of a user leaves, and what the keeper knows then.
use Rattle.std.specs.Prelude.{◌≡◌, ◌↔◌, ◌+◌, ℕ, List, [], ◌∷◌, ◌++◌, Result, Err, IfOk, OnErr}
use Rattle.tg_model.specs.declared.command.Command.{Command}
use Rattle.tg_model.specs.declared.command.Deed.TheVariants.{Plain}
use Rattle.tg_model.specs.declared.reply.Denial.{Denial}
use Rattle.tg_model.specs.declared.reply.Reply.TheVariants as reply
use Rattle.tg_model.specs.Graph.{ProtectionGraph, IsSubject, without_subject}
use Rattle.tg_journal.specs.declared.entry.Entry.{Entry}
use Rattle.tg_passes.specs.declared.signed.Maker.TheVariants.{Keeper}
use Rattle.tg_passes.specs.declared.signed.Signed.{Signed}
use Rattle.tg_passes.specs.Passes.{BeginsWith, Sees, sign_all}
use Rattle.tg_store.specs.declared.parking.Parking.{Parking}
use Rattle.tg_store.specs.declared.parking.ParkFault.{ParkFault}
use Rattle.tg_store.specs.declared.parking.ParkFault.TheVariants as fault
use Rattle.tg_store.specs.declared.parking.Parked.{Parked}
use Rattle.tg_store.specs.declared.parking.Parked.TheVariants.{Done, Denied}
use Rattle.tg_store.specs.Parking.{ComesOfParking, IsInUse, KeepsGraph, key_of, parked, parking}
use Rattle.tg_store.specs.Unparking.{ComesOfUnparking, take_key_of, unparked, unparking}
use Rattle.tg_store.specs.Store.{StoreState, StandsFor, graph_of_store}
use Rattle.tg_shared.specs.Sessions.{AtSeen, KeeperState, SharedStart, graph_seen, keeper_knowledge}

-- ---- in the lock

-- The host and the user are both subjects.
abbrev pub AreBothSubjects : Parking → ProtectionGraph → Type 0
AreBothSubjects p g = IsSubject g p.host × IsSubject g p.user

-- The store's answer to a parking or an unparking. Either this comes of it, or it is refused, and the store has the same graph.
-- `NoSuchWorker` is the refusal exactly if the host or the user is no subject. `InUse` is the refusal only if the second vertex
-- holds something, or the first one has an edge to it.
pub record AnswersParking (p : Parking) (comes : StoreState → StoreState → Parked → Type 0) (from to : ℕ) (old new : StoreState) (result : Result Parked ParkFault) : Type 0 where
  pub comes_of : IfOk result (comes old new)
  pub no_such_worker : (g : ProtectionGraph) → StandsFor old g → (result ≡ Err fault.NoSuchWorker) ↔ (¬ AreBothSubjects p g)
  pub in_use : (g : ProtectionGraph) → StandsFor old g → result ≡ Err fault.InUse → IsInUse g.label from to
  pub refused : OnErr result (KeepsGraph old new)

-- The answer to a parking: what the user holds goes into the account.
abbrev pub ParksUser : Parking → StoreState → StoreState → Result Parked ParkFault → Type 0
ParksUser p = AnswersParking p (ComesOfParking p) p.user p.account

-- The answer to an unparking: the user takes what the account holds.
abbrev pub UnparksUser : Parking → StoreState → StoreState → Result Parked ParkFault → Type 0
UnparksUser p = AnswersParking p (ComesOfUnparking p) p.account p.user

-- ---- the entries

-- the entry of the host's grant, if it is denied
abbrev pub denied_key : Command → ℕ → Denial → List Entry
denied_key key host denial = (record { worker = host; deed = Plain key; reply = reply.Denied denial }) ∷ []

-- the entries of a parking with this answer
abbrev pub entries_of_park : ProtectionGraph → Parking → Parked → List Entry
entries_of_park g p (Done edges) = parking g p
entries_of_park g p (Denied denial) = denied_key (key_of p) p.host denial

-- the entries of an unparking with this answer
abbrev pub entries_of_unpark : ProtectionGraph → Parking → Parked → List Entry
entries_of_unpark g p (Done edges) = unparking g p
entries_of_unpark g p (Denied denial) = denied_key (take_key_of p) p.host denial

-- how many entries a parking with this answer makes: two for each edge, and three
abbrev pub count_of_park : Parked → ℕ
count_of_park (Done edges) = edges + edges + 3
count_of_park (Denied denial) = 1

-- how many entries an unparking with this answer makes: one for each edge, and three
abbrev pub count_of_unpark : Parked → ℕ
count_of_unpark (Done edges) = edges + 3
count_of_unpark (Denied denial) = 1

-- ---- what the keeper knows

-- The keeper made these entries in one call, and this came of the call. A store may have been in the lock when exactly the entries
-- before the call had been made since the start. The call made of it a store that may have been in the lock next. The keeper sees
-- the entries before. It has made exactly the new entries, and has then seen both.
pub record HasMadeAtOnce (start : SharedStart) (comes : StoreState → StoreState → Type 0) (entries : ProtectionGraph → List Entry) (old new : KeeperState) : Type 0 where
  pub before : List Signed
  pub sees : Sees before (keeper_knowledge old)
  pub came : AtSeen start before (λ s. AtSeen start new.seen (comes s))
  pub made : new.made ≡ old.made ++ entries (graph_seen start before)
  pub seen : new.seen ≡ before ++ sign_all Keeper (entries (graph_seen start before))
  pub next : new.next ≡ old.next

-- The keeper parked a user, or the host's grant was denied.
abbrev pub HasParked : SharedStart → Parking → KeeperState → KeeperState → Parked → Type 0
HasParked start p old new answer = HasMadeAtOnce start (λ s next. ComesOfParking p s next answer) (λ g. entries_of_park g p answer) old new

-- The keeper unparked a user, or the host's grant was denied.
abbrev pub HasUnparked : SharedStart → Parking → KeeperState → KeeperState → Parked → Type 0
HasUnparked start p old new answer = HasMadeAtOnce start (λ s next. ComesOfUnparking p s next answer) (λ g. entries_of_unpark g p answer) old new

-- When exactly these entries had been made since the start, the host or the user was no subject.
abbrev pub LacksWorkerAtSeen : SharedStart → List Signed → Parking → Type 0
LacksWorkerAtSeen start seen p = AtSeen start seen (λ s. ¬ AreBothSubjects p (graph_of_store s))

-- When exactly these entries had been made since the start, the second vertex held something, or the first one had an edge to it.
abbrev pub IsInUseAtSeen : SharedStart → List Signed → ℕ → ℕ → Type 0
IsInUseAtSeen start seen from to = AtSeen start seen (λ s. IsInUse (graph_of_store s).label from to)

-- ---- who stops being a subject

-- The graph after these entries is the graph after a front of them, in which the user was parked. The user stopped being a subject,
-- and nobody else did.
pub record ParksOnly (start : SharedStart) (seen : List Signed) (p : Parking) : Type 0 where
  pub before : List Signed
  pub begins : BeginsWith seen before
  pub graph : graph_seen start seen ≡ parked (graph_seen start before) p
  pub subjects : (graph_seen start seen).subjects ≡ without_subject (graph_seen start before).subjects p.user

-- The graph after these entries is the graph after a front of them, in which the user was unparked. The same vertices are subjects.
pub record UnparksOnly (start : SharedStart) (seen : List Signed) (p : Parking) : Type 0 where
  pub before : List Signed
  pub begins : BeginsWith seen before
  pub graph : graph_seen start seen ≡ unparked (graph_seen start before) p
  pub subjects : (graph_seen start seen).subjects ≡ (graph_seen start before).subjects

-- The graph after these entries is the graph after a front of them.
pub record ChangesNothing (start : SharedStart) (seen : List Signed) : Type 0 where
  pub before : List Signed
  pub begins : BeginsWith seen before
  pub graph : graph_seen start seen ≡ graph_seen start before
