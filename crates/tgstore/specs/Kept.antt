-- A run on a store that is kept in a file.
use Rattle.std.specs.Prelude.{◌≡◌, ℕ, ◌<◌, Bool, List, [], Option, Some, None, Result, Ok, Err, IsTrue, map}
use Rattle.std.specs.List.{list_any}
use Rattle.std.specs.declared.sync.ledger.Blank.{Blank}
use Rattle.sqlite_disk.specs.declared.Disk as disk
use Rattle.tg_journal.specs.declared.entry.Entry.{Entry}
use Rattle.tg_keep.specs.Files.{LeavesClosed}
use Rattle.tg_text.specs.declared.answer.Answer.{Answer}
use Rattle.tg_text.specs.Refusing.{says_refusal}
use Rattle.tg_store.specs.Store.{StoreState}
use Rattle.tg_script.specs.declared.parts.ScriptLeft.{ScriptLeft}
use Rattle.tg_script.specs.declared.parts.ScriptRun.{ScriptRun}
use Rattle.tg_script.specs.declared.run_script.RunSetup.{RunSetup}
use Rattle.tg_script.specs.Parts.{IsOnStore}
use Rattle.tg_script.specs.Script.{MayStart, start_of_setup}
use Rattle.tg_lasting.specs.Answering.{AnswersLines, EndsKept, HasReplies, LeavesExactly}
use Rattle.tg_lasting.specs.declared.fault.KeptFault.{KeptFault}
use Rattle.tgstore.specs.Serving.{script_start_of}
use Rattle.tgstore.specs.Strict.{status_if}
use Rattle.tgstore.specs.declared.kept_streams.EndedKept.{EndedKept}
use Rattle.tgstore.specs.declared.start.Start.{Start}

-- a setup with new boxes, from this start
pub record SetsUp {P : Type 0} (start : Start) (setup : RunSetup P) : Type 0 where
  pub startable : MayStart setup.settings setup.workers.items
  pub same : start_of_setup setup ≡ script_start_of start

-- a blank for a ledger with this name, and so many parts
abbrev pub MayCountWriter : ℕ → ℕ → Blank → Type 0
MayCountWriter name parts blank = (blank.name ≡ name) × (blank.parts ≡ parts) × (0 < blank.parts)

-- The script of these bytes was run on a kept store, to its end or to a fault, and these bytes are in the writer. After a run to the end
-- each content that a crash may leave is that of a closed file, and says exactly the entries from before and those of the script. The run
-- has this exit status.
abbrev pub ServedKept : {D P : Type 0} → disk.Ghosts D → Start → ScriptRun P → List ℕ → List ℕ → Result (Unit {0}) KeptFault → ℕ → D → Option (List ℕ) → Type 0
ServedKept g start r bytes before (Ok done) status disk after =
    (answers : List Answer) × (es : List Entry) × AnswersLines r bytes None [] answers es × HasReplies before answers after × LeavesExactly g r.begun.run.store es disk
    × (IsTrue (g.is_clean disk) → LeavesClosed g.may_leave disk) × (status ≡ status_if start.strict (list_any says_refusal answers))
ServedKept g start r bytes before (Err why) status disk after = EndsKept g r bytes before why after disk

-- the same of the script that is left, on this store, by what is known of a reader and a writer
abbrev pub ServesKept : {D P W : Type 0} → disk.Ghosts D → Start → Option (List ℕ) → Option (List ℕ) → Option (List ℕ) → ScriptLeft P → StoreState → EndedKept D W → Type 0
ServesKept {P = P} g start left taken taken' script s ended =
    (r : ScriptRun P) (bytes before : List ℕ) → IsOnStore script s r → left ≡ Some bytes → taken ≡ Some before → ServedKept g start r bytes before ended.outcome ended.status ended.disk taken'
