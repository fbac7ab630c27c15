-- The parts of an answer that C gets. They are the status, and the values of the out parameters. A refused call writes to no out
-- parameter.
use Rattle.std.specs.Prelude.{◌≡◌, ℕ, List, Result, Ok, Err, length}
use Rattle.tg_rights.specs.RightSet.{RightSet}
use Rattle.tg_model.specs.declared.opening.OpeningFault.{OpeningFault}
use Rattle.tg_model.specs.declared.opening.OpeningFault.TheVariants as opening
use Rattle.tg_model.specs.declared.reply.Reply.{Reply}
use Rattle.tg_model.specs.declared.reply.Reply.TheVariants.{Done, Name, Values, Edges, Denied, VerticesFull, WorkersFull}
use Rattle.tg_store.specs.declared.census.Census.{Census}
use Rattle.tg_store.specs.declared.fault.OpenFault.{OpenFault}
use Rattle.tg_store.specs.declared.fault.OpenFault.TheVariants as opened
use Rattle.tg_store.specs.declared.fault.ReopenFault.{ReopenFault}
use Rattle.tg_store.specs.declared.fault.ReopenFault.TheVariants as again
use Rattle.tg_store.specs.declared.fault.ApplyFault.{ApplyFault}
use Rattle.tg_store.specs.declared.fault.ApplyFault.TheVariants as apply
use Rattle.tg_store.specs.declared.fault.CreateFault.{CreateFault}
use Rattle.tg_store.specs.declared.fault.CreateFault.TheVariants as create
use Rattle.tg_store.specs.declared.parking.ParkFault.{ParkFault}
use Rattle.tg_store.specs.declared.parking.ParkFault.TheVariants as park
use Rattle.tg_space.specs.declared.room_fault.RoomFault.{RoomFault}
use Rattle.tg_space.specs.declared.room_fault.RoomFault.TheVariants as no_room
use Rattle.tg_journal.specs.declared.auditor.PartFault.{PartFault}
use Rattle.tg_journal.specs.declared.auditor.PartFault.TheVariants as part
use Rattle.tg_journal.specs.declared.entry.Entry.{Entry}
use Rattle.tg_store.specs.declared.fault.StoreAuditFault.{StoreAuditFault}
use Rattle.tg_store.specs.declared.fault.StoreAuditFault.TheVariants as audit
use Rattle.tg_c.specs.declared.refusal.CallRefusal.{CallRefusal}
use Rattle.tg_c.specs.declared.refusal.CallRefusal.TheVariants as refusal
use Rattle.tg_c.specs.declared.refusal.ResumeFault.{ResumeFault}
use Rattle.tg_c.specs.declared.refusal.ResumeFault.TheVariants as resumed
use Rattle.tg_c.specs.declared.forms.CensusOut.{CensusOut}
use Rattle.tg_c.specs.declared.forms.DenialOut.{DenialOut}
use Rattle.tg_c.specs.declared.forms.EdgeOut.{EdgeOut}
use Rattle.tg_c.specs.declared.records.RecordOut.{RecordOut}
use Rattle.tg_graph.specs.Shown.{shown_in}
use Rattle.tg_c.specs.Forms.{census_out, denial_out, edges_shown_in}
use Rattle.tg_c.specs.Records.{edges_entered, numbers_entered, record_of}

-- ---- the numbers

-- The status of each refusal. Each family has a range of 16 numbers, so that later refusals find room in theirs.
abbrev pub status_of : CallRefusal → ℕ
status_of refusal.NotOpen = 16
status_of refusal.AlreadyOpen = 17
status_of refusal.OutOfMemory = 32
status_of refusal.HeapFull = 33
status_of refusal.VerticesFull = 34
status_of refusal.WorkersFull = 35
status_of refusal.NoSuchWorker = 48
status_of refusal.InUse = 49
status_of refusal.BadRights = 64
status_of refusal.BadLaw = 65
status_of refusal.BadKind = 66
status_of refusal.BadWorkers = 80
status_of refusal.BadLimits = 81
status_of refusal.BadEdge = 82
status_of refusal.BadValues = 83
status_of refusal.BadEntry = 96
status_of refusal.BadPlace = 97
status_of refusal.NotWhole = 98
status_of refusal.NotAudited = 99

-- ---- how the store's refusals are reported

abbrev pub of_opening : OpeningFault → CallRefusal
of_opening opening.BadWorkers = refusal.BadWorkers
of_opening opening.BadLimits = refusal.BadLimits
of_opening (opening.BadEdge at) = refusal.BadEdge
of_opening (opening.BadValues at) = refusal.BadValues

abbrev pub of_open : OpenFault → CallRefusal
of_open (opened.PayloadMismatch at) = refusal.BadValues
of_open opened.OutOfMemory = refusal.OutOfMemory
of_open opened.HeapFull = refusal.HeapFull

abbrev pub of_reopen : ReopenFault → CallRefusal
of_reopen again.LimitDiffers = refusal.BadLimits
of_reopen again.NoSubject = refusal.BadWorkers
of_reopen again.OutOfMemory = refusal.OutOfMemory
of_reopen again.HeapFull = refusal.HeapFull

abbrev pub of_apply : ApplyFault → CallRefusal
of_apply apply.NoSuchWorker = refusal.NoSuchWorker
of_apply apply.OutOfMemory = refusal.OutOfMemory
of_apply apply.HeapFull = refusal.HeapFull

abbrev pub of_park : ParkFault → CallRefusal
of_park park.NoSuchWorker = refusal.NoSuchWorker
of_park park.InUse = refusal.InUse
of_park park.OutOfMemory = refusal.OutOfMemory
of_park park.HeapFull = refusal.HeapFull

abbrev pub of_create : CreateFault → CallRefusal
of_create create.NoSuchWorker = refusal.NoSuchWorker
of_create create.VerticesFull = refusal.VerticesFull
of_create create.WorkersFull = refusal.WorkersFull
of_create create.OutOfMemory = refusal.OutOfMemory
of_create create.HeapFull = refusal.HeapFull

abbrev pub of_collect : RoomFault → CallRefusal
of_collect no_room.OutOfMemory = refusal.OutOfMemory
of_collect no_room.HeapFull = refusal.HeapFull

abbrev pub of_audit : StoreAuditFault → CallRefusal
of_audit audit.NotWhole = refusal.NotWhole
of_audit audit.OutOfMemory = refusal.OutOfMemory
of_audit (audit.BadEntry at) = refusal.BadEntry

abbrev pub of_part : PartFault → CallRefusal
of_part (part.BadPlace due start end) = refusal.BadPlace
of_part (part.BadEntry at) = refusal.BadEntry
of_part (part.OutOfMemory at) = refusal.OutOfMemory

abbrev pub of_resume : ResumeFault → CallRefusal
of_resume resumed.BadPlace = refusal.BadPlace
of_resume resumed.Unread = refusal.OutOfMemory
of_resume resumed.BadEntry = refusal.BadEntry
of_resume (resumed.NoRoom why) = of_collect why

-- the answer, with its refusal as C knows it
abbrev pub refused_as : {T E : Type 0} → (E → CallRefusal) → Result T E → Result T CallRefusal
refused_as name (Ok value) = Ok value
refused_as name (Err why) = Err (name why)

-- ---- what each answer is reported as

-- of a command that is answered by no more than that it was done, or denied
abbrev pub TellsDone : ℕ → DenialOut → DenialOut → Result Reply CallRefusal → Type 0
TellsDone status old new (Ok Done) = (status ≡ 0) × (new ≡ old)
TellsDone status old new (Ok (Denied denial)) = (status ≡ 1) × (new ≡ denial_out denial)
TellsDone status old new (Ok (Name name)) = ⊥
TellsDone status old new (Ok (Values values)) = ⊥
TellsDone status old new (Ok (Edges edges)) = ⊥
TellsDone status old new (Ok VerticesFull) = ⊥
TellsDone status old new (Ok WorkersFull) = ⊥
TellsDone status old new (Err why) = (status ≡ status_of why) × (new ≡ old)

-- of a retire, which is answered by no more than that it was done
abbrev pub TellsRetired : ℕ → Result Reply CallRefusal → Type 0
TellsRetired status (Ok Done) = status ≡ 0
TellsRetired status (Ok (Denied denial)) = ⊥
TellsRetired status (Ok (Name name)) = ⊥
TellsRetired status (Ok (Values values)) = ⊥
TellsRetired status (Ok (Edges edges)) = ⊥
TellsRetired status (Ok VerticesFull) = ⊥
TellsRetired status (Ok WorkersFull) = ⊥
TellsRetired status (Err why) = status ≡ status_of why

-- the out parameters of a read
pub record ReadOut : Type 0 where
  pub count : ℕ
  pub numbers : List ℕ
  pub denial : DenialOut

abbrev pub read_out : ℕ → List ℕ → DenialOut → ReadOut
read_out count numbers denial = record { count = count; numbers = numbers; denial = denial }

abbrev pub TellsRead : ℕ → ReadOut → ReadOut → Result Reply CallRefusal → Type 0
TellsRead status old new (Ok (Values values)) = (status ≡ 0)
    × (new ≡ record { count = length values; numbers = shown_in values old.numbers; denial = old.denial })
TellsRead status old new (Ok (Denied denial)) = (status ≡ 1)
    × (new ≡ record { count = old.count; numbers = old.numbers; denial = denial_out denial })
TellsRead status old new (Ok Done) = ⊥
TellsRead status old new (Ok (Name name)) = ⊥
TellsRead status old new (Ok (Edges edges)) = ⊥
TellsRead status old new (Ok VerticesFull) = ⊥
TellsRead status old new (Ok WorkersFull) = ⊥
TellsRead status old new (Err why) = (status ≡ status_of why) × (new ≡ old)

-- the out parameters of a list, which is never denied
pub record ListOut : Type 0 where
  pub count : ℕ
  pub edges : List EdgeOut

abbrev pub list_out : ℕ → List EdgeOut → ListOut
list_out count edges = record { count = count; edges = edges }

abbrev pub TellsList : ℕ → ListOut → ListOut → Result Reply CallRefusal → Type 0
TellsList status old new (Ok (Edges edges)) = (status ≡ 0) × (new ≡ record { count = length edges; edges = edges_shown_in edges old.edges })
TellsList status old new (Ok Done) = ⊥
TellsList status old new (Ok (Denied denial)) = ⊥
TellsList status old new (Ok (Name name)) = ⊥
TellsList status old new (Ok (Values values)) = ⊥
TellsList status old new (Ok VerticesFull) = ⊥
TellsList status old new (Ok WorkersFull) = ⊥
TellsList status old new (Err why) = (status ≡ status_of why) × (new ≡ old)

-- the out parameters of an inspect
pub record InspectOut : Type 0 where
  pub count : ℕ
  pub edges : List EdgeOut
  pub denial : DenialOut

abbrev pub inspect_out : ℕ → List EdgeOut → DenialOut → InspectOut
inspect_out count edges denial = record { count = count; edges = edges; denial = denial }

abbrev pub TellsInspect : ℕ → InspectOut → InspectOut → Result Reply CallRefusal → Type 0
TellsInspect status old new (Ok (Edges edges)) = (status ≡ 0)
    × (new ≡ record { count = length edges; edges = edges_shown_in edges old.edges; denial = old.denial })
TellsInspect status old new (Ok (Denied denial)) = (status ≡ 1)
    × (new ≡ record { count = old.count; edges = old.edges; denial = denial_out denial })
TellsInspect status old new (Ok Done) = ⊥
TellsInspect status old new (Ok (Name name)) = ⊥
TellsInspect status old new (Ok (Values values)) = ⊥
TellsInspect status old new (Ok VerticesFull) = ⊥
TellsInspect status old new (Ok WorkersFull) = ⊥
TellsInspect status old new (Err why) = (status ≡ status_of why) × (new ≡ old)

-- of a call for the edges to a vertex
abbrev pub TellsEdges : ℕ → ListOut → ListOut → Result (List (ℕ × RightSet)) CallRefusal → Type 0
TellsEdges status old new (Ok edges) = (status ≡ 0) × (new ≡ record { count = length edges; edges = edges_shown_in edges old.edges })
TellsEdges status old new (Err why) = (status ≡ status_of why) × (new ≡ old)

-- of a call that answers no more than that it was done
abbrev pub TellsOnly : ℕ → Result (Unit {0}) CallRefusal → Type 0
TellsOnly status (Ok done) = status ≡ 0
TellsOnly status (Err why) = status ≡ status_of why

-- of a create, a collection, a count and an audit
abbrev pub TellsNumber : ℕ → ℕ → ℕ → Result ℕ CallRefusal → Type 0
TellsNumber status old new (Ok number) = (status ≡ 0) × (new ≡ number)
TellsNumber status old new (Err why) = (status ≡ status_of why) × (new ≡ old)

-- the out parameters of a call for names
pub record NamesOut : Type 0 where
  pub count : ℕ
  pub names : List ℕ

abbrev pub names_out : ℕ → List ℕ → NamesOut
names_out count names = record { count = count; names = names }

abbrev pub TellsNames : ℕ → NamesOut → NamesOut → Result (List ℕ) CallRefusal → Type 0
TellsNames status old new (Ok names) = (status ≡ 0) × (new ≡ record { count = length names; names = shown_in names old.names })
TellsNames status old new (Err why) = (status ≡ status_of why) × (new ≡ old)

-- the out parameters of a call for an entry
pub record EntryOut : Type 0 where
  pub record_out : RecordOut
  pub numbers : List ℕ
  pub edges : List EdgeOut

abbrev pub entry_out : RecordOut → List ℕ → List EdgeOut → EntryOut
entry_out record_out numbers edges = record { record_out = record_out; numbers = numbers; edges = edges }

abbrev pub TellsEntry : ℕ → EntryOut → EntryOut → Result Entry CallRefusal → Type 0
TellsEntry status old new (Ok entry) = (status ≡ 0)
    × (new ≡ record { record_out = record_of entry; numbers = shown_in (numbers_entered entry) old.numbers; edges = edges_shown_in (edges_entered entry) old.edges })
TellsEntry status old new (Err why) = (status ≡ status_of why) × (new ≡ old)

abbrev pub TellsCensus : ℕ → CensusOut → CensusOut → Result Census CallRefusal → Type 0
TellsCensus status old new (Ok census) = (status ≡ 0) × (new ≡ census_out census)
TellsCensus status old new (Err why) = (status ≡ status_of why) × (new ≡ old)
