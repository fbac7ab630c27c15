-- What an audit of a text has read.
use Rattle.std.specs.Prelude.{◌≡◌, Bool, ℕ, ◌+◌, List, [], ◌∷◌, ◌++◌, length, Option, Some, None, IfSome}
use Rattle.std.specs.Io.KnownBytes.{Consumes}
use Rattle.tg_model.specs.Graph.{ProtectionGraph}
use Rattle.tg_model.specs.declared.command.Deed.{Deed}
use Rattle.tg_model.specs.declared.reply.Reply.{Reply}
use Rattle.tg_journal.specs.declared.entry.Entry.{Entry}
use Rattle.tg_journal.specs.Auditing.{Passes, StandsAt}
use Rattle.tg_journal.specs.Live.{AuditState}
use Rattle.tg_journal.specs.Saving.{CanBeSaved}
use Rattle.tg_entries.specs.declared.stage.Head.{Head}
use Rattle.tg_entries.specs.declared.stage.Entered.{Entered}
use Rattle.tg_entries.specs.declared.stage.Stage.{Stage}
use Rattle.tg_entries.specs.declared.stage.Stage.TheVariants as stage
use Rattle.tg_saved.specs.Read.{HasReadSnapshot}
use Rattle.tg_saved.specs.Texts.{snapshot_text}
use Rattle.tg_snapshot.specs.Snapshot.{Saved, IsSnapshot, graph_shown}
use Rattle.tg_entries.specs.Kept.{IsKept}
use Rattle.tg_entries.specs.Texts.{Shown, TextStart, IsCountedText, IsTextStart, end_text, entries_before, entry_text, graph_of_origin, opening_text, origin_text, sum_before, version_text}

-- The text is an origin's and then that of so many entries, which are a legal history. Count lines may be between them. The audit has
-- come to the graph and the place after them, and keeps this history where it keeps any.
pub record HasEntered (keeps : Bool) (text : List ℕ) (entered : Entered) : Type 0 where
  pub origin : TextStart
  pub entries : List Entry
  pub body : List ℕ
  pub accepted : IsTextStart origin
  pub passes : Passes (graph_of_origin origin) entries entered.auditor
  pub place : entered.auditor.at ≡ entries_before origin + length entries
  pub number : entered.count ≡ length entries
  pub sum : entered.before ≡ sum_before origin
  pub counted : IsCountedText entries body
  pub text_is : text ≡ origin_text origin ++ body
  pub kept : IsKept keeps origin entries entered.kept

-- the text is that of a snapshot, and the audit has come to the graph and the place that it shows, from which it keeps a history
pub record HasReopened (keeps : Bool) (text : List ℕ) (entered : Entered) : Type 0 where
  pub shown : Saved
  pub accepted : IsSnapshot shown
  pub come : StandsAt (graph_shown shown) entered.auditor
  pub place : entered.auditor.at ≡ shown.entries
  pub number : entered.count ≡ 0
  pub sum : entered.before ≡ None
  pub text_is : text ≡ snapshot_text shown
  pub kept : IsKept keeps (Shown shown) [] entered.kept

-- the text is that of a whole history, and the audit has come to the graph and the place after it
pub record HasEnded (keeps : Bool) (text : List ℕ) (entered : Entered) : Type 0 where
  pub front : List ℕ
  pub read : HasEntered keeps front entered
  pub whole : text ≡ front ++ end_text entered.count

-- the audit has come to a graph of which there is a snapshot
pub record CanSave (entered : Entered) : Type 0 where
  pub graph : ProtectionGraph
  pub come : StandsAt graph entered.auditor
  pub saved : CanBeSaved graph

-- of a reader whose bytes are known, all were read
abbrev pub HasReadAll : Option (List ℕ) → Option (List ℕ) → Type 0
HasReadAll known left = IfSome known (λ _. left ≡ Some [])

-- all that the reader had, if that is known, is such a text, and was read
pub record EndsText (keeps : Bool) (known left : Option (List ℕ)) (entered : Entered) : Type 0 where
  pub text : List ℕ
  pub same : IfSome known (λ bytes. bytes ≡ text)
  pub all : HasReadAll known left
  pub ended : HasEnded keeps text entered

-- the line is that of this entry, which is legal on the first graph, and the audit has come to the one and to the place after it
pub record IsNext (g : ProtectionGraph) (at : ℕ) (line : List ℕ) (audit : AuditState) (entry : Entry) : Type 0 where
  pub line_is : line ≡ entry_text entry
  pub passes : Passes g (entry ∷ []) audit
  pub place : audit.at ≡ at + 1

-- the entry of a worker's deed that was answered so
abbrev pub entry_with : ℕ × Deed → Reply → Entry
entry_with told reply = record { worker = told.0; deed = told.1; reply = reply }

-- the line that begins with the bytes at hand, and goes on with those that were taken of the reader's, is that of this entry, which is next
pub record IsListedEntry (g : ProtectionGraph) (at : ℕ) (held : List ℕ) (left left' : Option (List ℕ)) (audit : AuditState) (entry : Entry) : Type 0 where
  pub rest : List ℕ
  pub taken : Consumes left left' rest
  pub next : IsNext g at (held ++ rest) audit entry

-- the text is the front of an opening's
abbrev pub HasHead : List ℕ → Head → Type 0
HasHead text head = text ≡ opening_text head.workers head.max_vertices head.values.items head.edges.items

-- the text that was read up to a stage: nothing, parts of an opening or of a snapshot, entries, or a history that is whole
abbrev pub HasReadTo : Bool → List ℕ → Stage → Type 0
HasReadTo keeps text stage.Version = text ≡ []
HasReadTo keeps text stage.Limits = text ≡ version_text
HasReadTo keeps text (stage.Opening head) = HasHead text head
HasReadTo keeps text (stage.Saved lines) = HasReadSnapshot text lines
HasReadTo keeps text (stage.Joint entered) = HasReopened keeps text entered
HasReadTo keeps text (stage.Entries entered) = HasEntered keeps text entered
HasReadTo keeps text (stage.Ended entered) = HasEnded keeps text entered
HasReadTo keeps text stage.Stopped = ⊥

-- what contracts see of an audit of a text: whether it keeps the history that it reads, and how far it has read
pub record AuditedText : Type 0 where
  pub keeps : Bool
  pub stage : Stage

-- the text that an audit has read
abbrev pub HasRead : List ℕ → AuditedText → Type 0
HasRead text audit = HasReadTo audit.keeps text audit.stage

-- a line begins with the bytes at hand, and goes on with those that were taken of the reader's; it was read after the text, up to a stage
pub record ReadsOn (keeps : Bool) (text held : List ℕ) (left left' : Option (List ℕ)) (next : Stage) : Type 0 where
  pub rest : List ℕ
  pub taken : Consumes left left' rest
  pub read : HasReadTo keeps (text ++ (held ++ rest)) next
