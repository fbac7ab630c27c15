-- The calls of C on a snapshot, and on an auditor that goes on from a snapshot.
use Rattle.std.specs.Prelude.{◌≡◌, ◌≢◌, ◌⊎◌, ℕ, true, false, List, Result, Ok, Err, IfOk, IfErr}
use Rattle.tg_model.specs.Graph.{ProtectionGraph, IsSound}
use Rattle.tg_snapshot.specs.Snapshot.{IsSnapshotOf, Saved, graph_shown}
use Rattle.tg_journal.specs.Auditing.{StandsAt}
use Rattle.tg_journal.specs.Saving.{CanBeSaved}
use Rattle.tg_saved.specs.Texts.{snapshot_text}
use Rattle.tg_saved.specs.declared.fault.SnapshotLineFault.{SnapshotLineFault}
use Rattle.tg_saved.specs.declared.fault.SnapshotLineFault.TheVariants as line_fault
use Rattle.tg_saved.specs.declared.fault.SnapshotTextFault.{SnapshotTextFault}
use Rattle.tg_saved.specs.declared.fault.SnapshotTextFault.TheVariants as text_fault
use Rattle.tg_c.specs.declared.auditor.audit.Audit.{Audit}
use Rattle.tg_c.specs.declared.auditor.place.AuditorPlace.{AuditorPlace}
use Rattle.tg_c.specs.declared.saved.place.SnapshotPlace.{SnapshotPlace}
use Rattle.tg_c.specs.declared.refusal.CallRefusal.{CallRefusal}
use Rattle.tg_c.specs.declared.refusal.CallRefusal.TheVariants as refusal
use Rattle.tg_c.specs.Audits.{audit_in}
use Rattle.tg_c.specs.Calls.{IsStatusWhere}
use Rattle.tg_c.specs.Statuses.{status_of}

-- the snapshot in an open place
abbrev pub saved_in : SnapshotPlace → Saved
saved_in place = place.handle.opened.snapshot

-- ---- its text

-- lack of memory is reported as that, and any other fault of a line as bad values
abbrev pub refusal_of_line : SnapshotLineFault → CallRefusal
refusal_of_line line_fault.OutOfMemory = refusal.OutOfMemory
refusal_of_line other = refusal.BadValues

abbrev pub read_refusal : SnapshotTextFault → CallRefusal
read_refusal (text_fault.Line line why) = refusal_of_line why
read_refusal (text_fault.CutOff line) = refusal.BadValues

-- the number of the line at fault, if a line is reported, else the old number
abbrev pub line_or : ℕ → ℕ → SnapshotLineFault → ℕ
line_or old line line_fault.OutOfMemory = old
line_or old line other = line

abbrev pub line_told : SnapshotTextFault → ℕ → ℕ
line_told (text_fault.Line line why) old = line_or old line why
line_told (text_fault.CutOff line) old = line

-- A text wasn't read. Either memory ran out, and then no line is reported. Or the text is at fault.
abbrev pub IsReadFault : ℕ → ℕ → CallRefusal → Type 0
IsReadFault line line' why = ((why ≡ refusal.OutOfMemory) × (line' ≡ line)) ⊎ (why ≡ refusal.BadValues)

-- A snapshot was to be read from a text into a place. Refused, it leaves the place as it was.
pub record ReadsSnapshot (old new : SnapshotPlace) (text : List ℕ) (line line' status : ℕ) : Type 0 where
  pub already_open : old.is_open ≡ true → (status ≡ status_of refusal.AlreadyOpen) × (line' ≡ line)
  pub read : status ≡ 0 → (new.is_open ≡ true) × (text ≡ snapshot_text (saved_in new)) × (line' ≡ line)
  pub refused : old.is_open ≡ false → status ≢ 0 → IsStatusWhere (IsReadFault line line') status
  pub kept : status ≢ 0 → new ≡ old

-- The text of the snapshot in a place was asked for, which is the same then.
pub record AsksText (old new : SnapshotPlace) (answer : Result (List ℕ) CallRefusal) : Type 0 where
  pub as_open : new.is_open ≡ old.is_open
  pub not_open : old.is_open ≡ false → answer ≡ Err refusal.NotOpen
  pub same : old.is_open ≡ true → saved_in new ≡ saved_in old
  pub text : old.is_open ≡ true → (answer ≡ Ok (snapshot_text (saved_in old))) ⊎ (answer ≡ Err refusal.OutOfMemory)

abbrev pub WritesSnapshot : SnapshotPlace → SnapshotPlace → (Result (List ℕ) CallRefusal → Type 0) → Type 0
WritesSnapshot old new tells = (answer : Result (List ℕ) CallRefusal) × AsksText old new answer × tells answer

-- ---- an auditor

-- the snapshot of the graph to which an audit has come
pub record IsShownAudit (a : Audit) (answer : Result Saved CallRefusal) : Type 0 where
  pub of : (g : ProtectionGraph) → StandsAt g a.auditor → IfOk answer (λ p. IsSnapshotOf p g)
  pub place : IfOk answer (λ p. p.entries ≡ a.auditor.at)
  pub found_bad : a.auditor.found_bad ≡ true → answer ≡ Err refusal.BadEntry
  pub refused : (g : ProtectionGraph) → StandsAt g a.auditor → CanBeSaved g → IfErr answer (λ why. why ≡ refusal.OutOfMemory)
  pub fault : IfErr answer (λ why. (why ≡ refusal.BadEntry) ⊎ (why ≡ refusal.OutOfMemory))

-- The auditor in a place is asked for a snapshot, and is the same then.
pub record Shows (old new : AuditorPlace) (answer : Result Saved CallRefusal) : Type 0 where
  pub as_open : new.is_open ≡ old.is_open
  pub not_open : old.is_open ≡ false → answer ≡ Err refusal.NotOpen
  pub same : old.is_open ≡ true → audit_in new ≡ audit_in old
  pub shown : old.is_open ≡ true → IsShownAudit (audit_in old) answer

-- A snapshot of an auditor was to be taken into a place. If this is refused, the place is as it was.
pub record SnapshotsAuditor (old new : AuditorPlace) (before after : SnapshotPlace) (status : ℕ) : Type 0 where
  pub already_open : before.is_open ≡ true → (status ≡ status_of refusal.AlreadyOpen) × (new ≡ old)
  pub taken : status ≡ 0 → (after.is_open ≡ true) × Shows old new (Ok (saved_in after))
  pub refused : before.is_open ≡ false → status ≢ 0 → IsStatusWhere (λ why. Shows old new (Err why)) status
  pub kept : status ≢ 0 → after ≡ before

-- An audit that goes on from a snapshot. It represents the graph that the snapshot shows, and each graph of which it is the
-- snapshot.
pub record IsReopenedAudit (p : Saved) (a : Audit) : Type 0 where
  pub stands : StandsAt (graph_shown p) a.auditor
  pub of : (g : ProtectionGraph) → IsSound g → IsSnapshotOf p g → StandsAt g a.auditor
  pub place : a.auditor.at ≡ p.entries

-- An audit was to go on from the snapshot in a place, which is the same then.
pub record ReopensAudit (old new : SnapshotPlace) (answer : Result Audit CallRefusal) : Type 0 where
  pub as_open : new.is_open ≡ old.is_open
  pub not_open : old.is_open ≡ false → answer ≡ Err refusal.NotOpen
  pub same : old.is_open ≡ true → saved_in new ≡ saved_in old
  pub reopened : IfOk answer (IsReopenedAudit (saved_in old))
  pub refused : old.is_open ≡ true → IfErr answer (λ why. why ≡ refusal.OutOfMemory)

-- An auditor was to be opened from a snapshot. Refused, it leaves the auditor's place as it was.
pub record ReopensAuditor (old new : AuditorPlace) (before after : SnapshotPlace) (status : ℕ) : Type 0 where
  pub already_open : old.is_open ≡ true → (status ≡ status_of refusal.AlreadyOpen) × (after ≡ before)
  pub reopened : status ≡ 0 → (new.is_open ≡ true) × ReopensAudit before after (Ok (audit_in new))
  pub refused : old.is_open ≡ false → status ≢ 0 → IsStatusWhere (λ why. ReopensAudit before after (Err why)) status
  pub kept : status ≢ 0 → new ≡ old
