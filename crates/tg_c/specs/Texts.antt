-- The texts that C gets: the lines in front of a history's entries, the line of an entry, and the last line.
use Rattle.std.specs.Prelude.{◌≡◌, ◌⊎◌, ℕ, List, Result, Ok, Err, length}
use Rattle.tg_journal.specs.declared.entry.Entry.{Entry}
use Rattle.tg_graph.specs.Shown.{shown_in}
use Rattle.tg_entries.specs.Texts.{end_text, entry_text, head_text}
use Rattle.tg_c.specs.declared.forms.EdgeIn.{EdgeIn}
use Rattle.tg_c.specs.declared.forms.EdgeOut.{EdgeOut}
use Rattle.tg_c.specs.declared.forms.LimitsIn.{LimitsIn}
use Rattle.tg_c.specs.declared.forms.ValueIn.{ValueIn}
use Rattle.tg_c.specs.declared.records.RecordOut.{RecordOut}
use Rattle.tg_c.specs.declared.refusal.CallRefusal.{CallRefusal}
use Rattle.tg_c.specs.declared.refusal.CallRefusal.TheVariants as refusal
use Rattle.tg_c.specs.declared.text.Text.{Text}
use Rattle.tg_c.specs.declared.text.Text.TheVariants as text
use Rattle.tg_c.specs.Calls.{AreMet, demands_of}
use Rattle.tg_c.specs.Entered.{IsEntryOf, IsOfNoEntry}
use Rattle.tg_c.specs.Forms.{plan_given}
use Rattle.tg_c.specs.Statuses.{status_of}

abbrev pub written_text : Text → List ℕ
written_text (text.Opening opening) = head_text opening.now
written_text (text.Entry entry) = entry_text entry.now
written_text (text.End count) = end_text count

-- the out parameters of a call for a text
pub record TextOut : Type 0 where
  pub length : ℕ
  pub text : List ℕ

abbrev pub text_out : ℕ → List ℕ → TextOut
text_out length text = record { length = length; text = text }

abbrev pub TellsText : ℕ → TextOut → TextOut → Result (List ℕ) CallRefusal → Type 0
TellsText status old new (Ok bytes) = (status ≡ 0) × (new ≡ record { length = length bytes; text = shown_in bytes old.text })
TellsText status old new (Err why) = (status ≡ status_of why) × (new ≡ old)

-- a text of which this holds is reported, or a refusal of which that holds
abbrev pub WritesText : (List ℕ → Type 0) → (CallRefusal → Type 0) → (Result (List ℕ) CallRefusal → Type 0) → Type 0
WritesText holds refused tells = ((bytes : List ℕ) × holds bytes × tells (Ok bytes)) ⊎ ((why : CallRefusal) × refused why × tells (Err why))

-- the lines in front of the entries of a store that is opened by these words, all of whose demands are met
abbrev pub IsOpeningText : List ValueIn → List EdgeIn → LimitsIn → List ℕ → Type 0
IsOpeningText workers edges limits bytes = AreMet (demands_of workers edges limits) × (bytes ≡ head_text (plan_given workers edges limits.max_vertices))

-- the line of the entry that is given by a record, its numbers and its edges
abbrev pub IsEntryText : RecordOut → List ℕ → List EdgeOut → List ℕ → Type 0
IsEntryText it numbers edges bytes = (entry : Entry) × IsEntryOf it numbers edges entry × (bytes ≡ entry_text entry)

-- Why there is no line. Either no entry has this record, these numbers and these edges. Or an entry has, and memory ran out.
abbrev pub IsUnreadEntry : RecordOut → List ℕ → List EdgeOut → CallRefusal → Type 0
IsUnreadEntry it numbers edges why =
    ((why ≡ refusal.BadValues) × IsOfNoEntry it numbers edges) ⊎ ((why ≡ refusal.OutOfMemory) × (entry : Entry) × IsEntryOf it numbers edges entry)
