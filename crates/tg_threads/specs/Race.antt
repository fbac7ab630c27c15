-- The outcome of a whole script whose workers run their lines side by side.
use Rattle.std.specs.Prelude.{◌≡◌, ◌⊎◌, ℕ, ◌+◌, ◌<◌, ◌≤◌, Bool, true, false, List, [], ◌++◌, drop, length, map, Option, Some, None, Result, Ok, Err, IsOk, IfErr, IfOk, OnOk}
use Rattle.std.specs.List.{All}
use Rattle.std.specs.declared.vec.Vec.{Vec}
use Rattle.tg_model.specs.declared.value.Value.{Value}
use Rattle.tg_model.specs.Graph.{ProtectionGraph}
use Rattle.tg_model.specs.Opened.{IsPlan}
use Rattle.tg_journal.specs.declared.auditor.PartFault.{PartFault}
use Rattle.tg_journal.specs.declared.auditor.PartFault.TheVariants as part
use Rattle.tg_journal.specs.declared.entry.Entry.{Entry}
use Rattle.tg_journal.specs.Auditing.{StandsAt}
use Rattle.tg_journal.specs.History.{IsLegal, graph_after}
use Rattle.tg_journal.specs.Live.{AuditState}
use Rattle.tg_text.specs.declared.line.Line.{Line}
use Rattle.tg_text.specs.declared.fault.ScriptFault.{ScriptFault}
use Rattle.tg_text.specs.declared.fault.ScriptFault.TheVariants as script
use Rattle.tg_text.specs.Reading.{ReadsScript}
use Rattle.tg_text.specs.Sinks.{KeepsBytes}
use Rattle.tg_script.specs.declared.going.RunOn.{RunOn}
use Rattle.tg_script.specs.Lines.{IsOfKeeping}
use Rattle.tg_script.specs.Opening.{IsCommand}
use Rattle.tg_script.specs.Script.{Start, CanOpen, HasRoomForWorkers, commands_of}
use Rattle.tg_script.specs.Running.{IsDue}
use Rattle.tg_store.specs.declared.fault.StoreAuditFault.{StoreAuditFault}
use Rattle.tg_store.specs.declared.fault.StoreAuditFault.TheVariants as audit
use Rattle.tg_store.specs.Origin.{opened_by, start_at}
use Rattle.tg_store.specs.Store.{IsFaithful, StoreState, graph_of_store}
use Rattle.tg_threads.specs.declared.fault.RaceFault.{RaceFault}
use Rattle.tg_threads.specs.declared.fault.RaceFault.TheVariants as fault
use Rattle.tg_threads.specs.declared.threads.ThreadsFault.{ThreadsFault}
use Rattle.tg_threads.specs.declared.threads.ThreadsFault.TheVariants as threads
use Rattle.tg_threads.specs.declared.race.OpenedRace.{OpenedRace}
use Rattle.tg_threads.specs.declared.race.Raced.{Raced}
use Rattle.tg_threads.specs.declared.race.RanLines.{RanLines}
use Rattle.tg_threads.specs.declared.race_on.RaceOn.{RaceOn}
use Rattle.tg_threads.specs.declared.work.Finished.{Finished}
use Rattle.tg_threads.specs.Boxes.{boxed}
use Rattle.tg_passes.specs.Passes.{BeginsWith, entries_of}
use Rattle.tg_shared.specs.Sessions.{AreSharedOut, AtSome, MayClose, SessionState, SharedStart, count_of, handed_of, held_from, parts_of, sessions_made, since, subjects_at}
use Rattle.tg_script.specs.Entering.{plan_of}
use Rattle.tg_threads.specs.Output.{IsRaceOutput, IsRaceOutputOn, RaceText, RaceTextOn, arena_of}
use Rattle.tg_threads.specs.Shares.{IsInScriptOrder, all_sessions}
use Rattle.tg_threads.specs.Tasks.{AllBring, AreRaced, all_assigned}

-- ---- the script and its store

-- the bytes are a whole script of these lines, and its store can be opened
abbrev pub IsWhole : Start → List ℕ → List Line → List ℕ → Type 0
IsWhole start bytes lines left = ReadsScript start.workers bytes lines None left × CanOpen start

-- Why a store isn't opened. A limit is out of its range, or else memory ran out, or there are fewer blocks than workers.
abbrev pub IsOpenFault : Start → ScriptFault → Type 0
IsOpenFault start script.BadLimits = ¬ HasRoomForWorkers start
IsOpenFault start script.OutOfMemory = HasRoomForWorkers start
IsOpenFault start script.HeapFull = HasRoomForWorkers start × (start.blocks < start.workers)
IsOpenFault start f = ⊥

-- Either the bytes are lines up to this fault, which occurred when they were read or kept. Or they are a whole script, and this
-- fault occurred when its store was opened.
abbrev pub IsNotRun : Start → List ℕ → ScriptFault → List ℕ → Type 0
IsNotRun start bytes f left =
    (lines : List Line)
    × ((IsOfKeeping f × ReadsScript start.workers bytes lines (Some f) left) ⊎ (ReadsScript start.workers bytes lines None left × IsOpenFault start f))

-- A fault after the opening, before anything is written. The audit finds no fault.
abbrev pub IsBeforeWriting : RaceFault → Type 0
IsBeforeWriting (fault.Script f) = ⊥
IsBeforeWriting fault.OutOfMemory = Unit {0}
IsBeforeWriting fault.NoThread = Unit {0}
IsBeforeWriting fault.ReceiptMismatch = Unit {0}
IsBeforeWriting fault.AuditFailed = ⊥
IsBeforeWriting fault.WriteFailed = ⊥

-- A fault that occurs while the results of the lines are written. The audit finds no fault.
abbrev pub IsOfTelling : RaceFault → Type 0
IsOfTelling fault.OutOfMemory = Unit {0}
IsOfTelling fault.WriteFailed = Unit {0}
IsOfTelling f = ⊥

-- This holds if a race ends with this fault, whatever is known of the bytes of its source and its sink. A race ends for its limits
-- only if they are at fault, and the audit finds no fault.
abbrev pub IsRaceDue : Start → RaceFault → Type 0
IsRaceDue start (fault.Script f) = IsDue start f
IsRaceDue start fault.AuditFailed = ⊥
IsRaceDue start f = Unit {0}

-- the same of a race from a history on, whose script is read and kept, and has no opening
abbrev pub IsRaceDueOn : RaceFault → Type 0
IsRaceDueOn (fault.Script f) = IsOfKeeping f
IsRaceDueOn fault.AuditFailed = ⊥
IsRaceDueOn f = Unit {0}

-- a fault of the threads, and a fault of the audit, as a fault of a race
abbrev pub of_threads : ThreadsFault → RaceFault
of_threads threads.OutOfMemory = fault.OutOfMemory
of_threads threads.NoThread = fault.NoThread
of_threads threads.NoSuchWorker = fault.ReceiptMismatch

abbrev pub race_fault_of_audit : StoreAuditFault → RaceFault
race_fault_of_audit audit.NotWhole = fault.AuditFailed
race_fault_of_audit audit.OutOfMemory = fault.OutOfMemory
race_fault_of_audit (audit.BadEntry at) = fault.AuditFailed

abbrev pub race_fault_of_part : PartFault → RaceFault
race_fault_of_part (part.BadPlace due start end) = fault.AuditFailed
race_fault_of_part (part.BadEntry at) = fault.AuditFailed
race_fault_of_part (part.OutOfMemory at) = fault.OutOfMemory

-- ---- how often the source and the sink failed

-- how many failures of the source an outcome of a race is
abbrev pub race_read_failures : {T : Type 0} → Result T RaceFault → ℕ
race_read_failures (Err (fault.Script script.ReadFailed)) = 1
race_read_failures r = 0

-- how many failures of the sink an outcome of a race is, without the finish of the sink
abbrev pub race_write_failures : {T : Type 0} → Result T RaceFault → ℕ
race_write_failures (Err fault.WriteFailed) = 1
race_write_failures (Err (fault.Script script.WriteFailed)) = 1
race_write_failures r = 0

-- ---- the whole

-- A kind of race, by the bytes of its script and the bytes that are left unread. It says when the bytes are a whole script of these
-- lines, when they are no such script by this fault, which text may be written for the lines, and which fault may end the race.
pub record RaceKind : Type 1 where
  pub IsRead : List ℕ → List Line → List ℕ → Type 0
  pub IsUnread : List ℕ → ScriptFault → List ℕ → Type 0
  pub IsText : List Line → List ℕ → Type 0
  pub IsEnd : RaceFault → Type 0

-- a race from this start, and a race from a history on, with this text
abbrev pub race_from : RaceText → Start → RaceKind
race_from race_text start = record { IsRead = IsWhole start; IsUnread = IsNotRun start; IsText = IsRaceOutput race_text start; IsEnd = IsRaceDue start }

abbrev pub race_on : {P : Type 0} → RaceTextOn → RunOn P → RaceKind
race_on race_text from = record {
  IsRead = λ bytes lines left. ReadsScript 0 bytes lines None left;
  IsUnread = λ bytes f left. (lines : List Line) × IsOfKeeping f × ReadsScript 0 bytes lines (Some f) left;
  IsText = λ lines. IsRaceOutputOn race_text from (commands_of lines);
  IsEnd = IsRaceDueOn;
}

-- The bytes in a sink after a race over these bytes, if it had `before`, and the bytes that are left unread. The sink gets a text
-- that may be written for the whole script, or a front of that text if the sink failed. It gets nothing if the script has a fault,
-- if its store can't be opened, or if anything else was lacking. The audit never fails.
abbrev pub HasRaced : {T : Type 0} → RaceKind → List ℕ → List ℕ → Result T RaceFault → List ℕ → Option (List ℕ) → Type 0
HasRaced kind bytes before (Ok done) left after =
    (lines : List Line) × (text : List ℕ) × kind.IsRead bytes lines left × kind.IsText lines text × (after ≡ Some (before ++ text))
HasRaced kind bytes before (Err fault.WriteFailed) left after =
    (lines : List Line) × (front : List ℕ) × (rest : List ℕ) × kind.IsRead bytes lines left × kind.IsText lines (front ++ rest) × (after ≡ Some (before ++ front))
HasRaced kind bytes before (Err (fault.Script f)) left after = kind.IsUnread bytes f left × (after ≡ Some before)
HasRaced kind bytes before (Err fault.AuditFailed) left after = ⊥
HasRaced kind bytes before (Err f) left after = (lines : List Line) × kind.IsRead bytes lines left × (after ≡ Some before)

-- whatever bytes its source had left and its sink had taken, a race of this kind leaves what `HasRaced` says
abbrev pub LeavesRaced : {S K T : Type 0} → (S → Option (List ℕ)) → (K → Option (List ℕ)) → S → S → K → K → RaceKind → Result T RaceFault → Type 0
LeavesRaced left taken source source' sink sink' kind result =
    (bytes before : List ℕ) → left source ≡ Some bytes → taken sink ≡ Some before →
    (rest : List ℕ) × (left source' ≡ Some rest) × HasRaced kind bytes before result rest (taken sink')

-- A race of this kind, by what is known of its source and its sink. The source says which bytes are left, how often it was asked,
-- and how often it has failed. The sink says which bytes it took.
pub record RacesFrom {S K T : Type 0} (left : S → Option (List ℕ)) (asks failures : S → ℕ) (taken : K → Option (List ℕ))
    (source source' : S) (sink sink' : K) (kind : RaceKind) (result : Result T RaceFault) : Type 0 where
  pub output : LeavesRaced left taken source source' sink sink' kind result
  pub due : IfErr result kind.IsEnd
  pub asked : asks source' ≤ asks source + 1048577
  pub read_failed : failures source' ≡ failures source + race_read_failures result

-- ---- parts of it

-- The sink was finished at the end of a race, and has failed if that is reported.
pub record FinishesRace {K T : Type 0} (failures : K → ℕ) (is_finished : K → Bool) (sink sink' : K) (result : Result T RaceFault) : Type 0 where
  pub write_failed : failures sink + race_write_failures result ≤ failures sink'
  pub unfailed : OnOk result (failures sink' ≡ failures sink)
  pub finished : is_finished sink' ≡ true

-- How often the source was asked, and how often it and the sink have failed, by the outcome of a part that ends no sink.
pub record CountsRace {S K T : Type 0} (asks read_fails : S → ℕ) (write_fails : K → ℕ)
    (source source' : S) (sink sink' : K) (result : Result T RaceFault) : Type 0 where
  pub asked : asks source' ≤ asks source + 1048577
  pub read_failed : read_fails source' ≡ read_fails source + race_read_failures result
  pub write_failed : write_fails sink' ≡ write_fails sink + race_write_failures result

-- a part of a race that writes nothing, with its counts
pub record OpensSilently {S K T : Type 0} (asks read_fails : S → ℕ) (taken : K → Option (List ℕ)) (write_fails : K → ℕ)
    (source source' : S) (sink sink' : K) (result : Result T RaceFault) : Type 0 where
  pub keeps : KeepsBytes (taken sink) (taken sink')
  pub counts : CountsRace asks read_fails write_fails source source' sink sink' result

-- A store may be shared for a race as it was at this start. Its journal stays whole, and no worker is ended.
pub record MayShareForRace (start : SharedStart) : Type 0 where
  pub none_ended : start.may_end ≡ false
  pub whole : start.in_parts ≡ false

-- these lines may be raced in a store of this start, because a subject acts in it and each line is a command
pub record MayRace (start : SharedStart) (lines : List Line) : Type 0 where
  pub some : 1 ≤ length (subjects_at start)
  pub commands : All IsCommand lines

-- The store is the store of this start with the entries of a race over these lines, each collection with so many helpers. Each
-- active subject of the start had a thread. Nothing was handed out since the start.
pub record IsRacedFrom {P : Type 0} (helpers : ℕ) (start : SharedStart) (stock : List Value) (lines : List Line) (raced : Raced P) : Type 0 where
  pub opening : raced.store.opening ≡ start.opening
  pub grown : raced.store.entries ≡ start.entries ++ since start raced.store
  pub handed : (raced.store.handed ≡ start.handed) × (start.handed ≤ length start.entries)
  pub faithful : IsFaithful raced.store
  pub told : AreRaced (arena_of start helpers (since start raced.store)) (subjects_at start) (boxed stock lines) raced.store.entries raced.told.items

-- the lines were run so, or else a fault came before anything was written
pub record RunsRace {P : Type 0} (helpers : ℕ) (start : SharedStart) (stock : List Value) (lines : List Line)
    (result : Result (Raced P) RaceFault) : Type 0 where
  pub raced : IfOk result (IsRacedFrom helpers start stock lines)
  pub fault : IfErr result IsBeforeWriting

-- Each worker's session ran its lines, with this stock. The results are in script order, and all sessions come back.
pub record HasRanLines (start : SharedStart) (helpers : ℕ) (stock : List Value) (lines : List Line) (ran : RanLines SessionState) : Type 0 where
  pub finished : List (Finished SessionState)
  pub each : AllBring start helpers (all_assigned (subjects_at start) (boxed stock lines)) finished
  pub order : IsInScriptOrder (subjects_at start) lines (map (λ f. f.told.items) finished) ran.told.items
  pub sessions : ran.sessions.items ≡ all_sessions finished

-- these sessions of a store that was shared for a race may close it, because they handed out nothing
pub record MayCloseRace (start : SharedStart) (sessions : List SessionState) : Type 0 where
  pub shared : MayShareForRace start
  pub none_handed : handed_of sessions ≡ 0

-- Why the race isn't closed. A session is missing, or the receipts aren't the entries of a store that may have been in the lock.
abbrev pub IsUnclosedRace : SharedStart → List SessionState → RaceFault → Type 0
IsUnclosedRace start sessions why =
    (why ≡ fault.ReceiptMismatch)
    × ((AtSome start (λ s. parts_of sessions < sessions_made start s.entries))
    ⊎ AtSome start (λ s. (length start.entries + count_of sessions ≤ length s.entries) × (¬ MayClose s.entries (held_from start s) sessions)))

-- The store that comes back with these sessions. Each entry since the start is in one of their receipts, and these entries begin
-- with the entries that each session has seen. Nothing was handed out since the start.
pub record IsClosedRace (start : SharedStart) (sessions : List SessionState) (store : StoreState) : Type 0 where
  pub opening : store.opening ≡ start.opening
  pub grown : store.entries ≡ start.entries ++ since start store
  pub matching : MayClose store.entries (length start.entries) sessions
  pub shared_out : AreSharedOut (since start store) sessions
  pub seen : All (λ s. BeginsWith (since start store) (entries_of s.seen)) sessions
  pub handed : (store.handed ≡ start.handed) × (start.handed ≤ length start.entries)
  pub faithful : IsFaithful store

-- An auditor may audit what the store holds. It has come to a graph at the place of the first of these entries, which are a legal
-- history from there and lead to the graph of the store.
pub record MayAudit (store : StoreState) (auditor : AuditState) : Type 0 where
  pub from : ProtectionGraph
  pub comes : StandsAt from auditor
  pub place : auditor.at ≡ store.handed
  pub legal : IsLegal from (drop store.handed store.entries)
  pub graph : graph_of_store store ≡ graph_after from (drop store.handed store.entries)

-- a race may go on from there, because a subject acts, and the auditor may audit what the store holds
pub record MayRaceOn {P : Type 0} (on : RaceOn P) : Type 0 where
  pub place : on.from.skipped ≤ length on.from.store.entries
  pub some : 1 ≤ length (graph_of_store on.from.store).subjects
  pub audit : MayAudit on.from.store on.auditor

-- the whole script was read, and a store of its opening has no entry yet
abbrev pub OpensRace : {P : Type 0} → Start → List ℕ → Result (OpenedRace P) RaceFault → List ℕ → Type 0
OpensRace start bytes (Ok opened) left =
    (lines : List Line) × IsWhole start bytes lines left × (opened.lines.items ≡ commands_of lines) × (opened.store.opening ≡ opened_by (plan_of start lines))
OpensRace start bytes (Err (fault.Script f)) left = IsNotRun start bytes f left
OpensRace start bytes (Err f) left = ⊥

-- a whole script was read that has these command lines, or up to this fault
abbrev pub ReadsLines : {A : Type 0} → List ℕ → Result (Vec Line A) RaceFault → List ℕ → Type 0
ReadsLines bytes (Ok commands) left = (lines : List Line) × ReadsScript 0 bytes lines None left × (commands.items ≡ commands_of lines)
ReadsLines bytes (Err (fault.Script f)) left = (lines : List Line) × IsOfKeeping f × ReadsScript 0 bytes lines (Some f) left
ReadsLines bytes (Err f) left = ⊥

-- the store's journal is a legal history of its opening, which was accepted
abbrev pub HasHistory : StoreState → Type 0
HasHistory s = IsPlan s.opening.plan × IsLegal (start_at s.opening) s.entries

-- The store's journal is a legal history of its opening, and the sink got this text or a front of it. Or the sink got nothing.
abbrev pub TellsRace : {T : Type 0} → StoreState → List ℕ → List ℕ → Result T RaceFault → Option (List ℕ) → Type 0
TellsRace s text before (Ok done) after = HasHistory s × (after ≡ Some (before ++ text))
TellsRace s text before (Err fault.WriteFailed) after =
    HasHistory s × (front : List ℕ) × (rest : List ℕ) × (text ≡ front ++ rest) × (after ≡ Some (before ++ front))
TellsRace s text before (Err (fault.Script f)) after = ⊥
TellsRace s text before (Err fault.AuditFailed) after = ⊥
TellsRace s text before (Err f) after = after ≡ Some before

-- the sink got a text of which this holds, or a front of it, or nothing
abbrev pub WritesRace : {T : Type 0} → (List ℕ → Type 0) → List ℕ → Result T RaceFault → Option (List ℕ) → Type 0
WritesRace IsText before (Ok done) after = (text : List ℕ) × IsText text × (after ≡ Some (before ++ text))
WritesRace IsText before (Err fault.WriteFailed) after = (front : List ℕ) × (rest : List ℕ) × IsText (front ++ rest) × (after ≡ Some (before ++ front))
WritesRace IsText before (Err (fault.Script f)) after = ⊥
WritesRace IsText before (Err fault.AuditFailed) after = ⊥
WritesRace IsText before (Err f) after = after ≡ Some before

-- The sink was finished, and its bytes are still the same. A fault that came before is kept. If there was no fault and the finish
-- failed, the failed finish is the fault.
abbrev pub EndsRace : {T : Type 0} → Option (List ℕ) → ℕ → Result T RaceFault → Result T RaceFault → Option (List ℕ) → ℕ → Type 0
EndsRace before failures outcome result after failures' =
    KeepsBytes before after × (((result ≡ outcome) × (failures ≤ failures') × (IsOk outcome → failures' ≡ failures))
    ⊎ (IsOk outcome × (result ≡ Err fault.WriteFailed) × (failures' ≡ failures + 1)))

-- the sink was finished, and reports that
pub record HasFinished {K T : Type 0} (taken : K → Option (List ℕ)) (failures : K → ℕ) (is_finished : K → Bool) (sink sink' : K) (outcome result : Result T RaceFault) : Type 0 where
  pub ends : EndsRace (taken sink) (failures sink) outcome result (taken sink') (failures sink')
  pub finished : is_finished sink' ≡ true
