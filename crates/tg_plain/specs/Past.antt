-- What a program reads, which is a script or the text of a history, and what the history leaves.
use Rattle.std.specs.Prelude.{◌≡◌, ◌⊎◌, ℕ, false, List, [], Option, Some, None, IfSome, length}
use Rattle.std.specs.Borrow.{Bor}
use Rattle.tg_model.specs.Picture.{Shown as ShownPicture, IsPictureOf}
use Rattle.tg_journal.specs.declared.entry.Entry.{Entry}
use Rattle.tg_journal.specs.History.{graph_after}
use Rattle.tg_entries.specs.declared.kept.HistoryStart.{HistoryStart}
use Rattle.tg_entries.specs.declared.kept.HistoryStart.TheVariants.{Opened, Shown}
use Rattle.tg_entries.specs.Kept.{IsTextOf}
use Rattle.tg_entries.specs.Texts.{TextStart, IsHistory, graph_of_origin}
use Rattle.tg_found.specs.Kept.{kept_text}
use Rattle.tg_keep.specs.Opened.{MayOpen}
use Rattle.tg_plain.specs.declared.given.GivenOptions.{GivenOptions}
use Rattle.tg_plain.specs.declared.input.InputText.{InputText}
use Rattle.tg_plain.specs.declared.input.InputText.TheVariants.{Lines, Entries}
use Rattle.tg_plain.specs.declared.options.PlainOptions.{PlainOptions}
use Rattle.tg_plain.specs.declared.outcome.Outcome.{Outcome}
use Rattle.tg_plain.specs.Lines.{IsNumbered, IsOutcomeOf, IsReadOf, RunsOn}

-- how many subjects are active where a history begins, and how many vertices may ever be made
abbrev pub workers_at : HistoryStart → ℕ
workers_at (Opened plan) = plan.workers
workers_at (Shown p) = length p.picture.subjects

abbrev pub limit_at : HistoryStart → ℕ
limit_at (Opened plan) = plan.limit
limit_at (Shown p) = p.picture.limit

-- each number that the words of the command line give is the history's own, and they give no stock
pub record AgreesWith (given : GivenOptions) (start : HistoryStart) : Type 0 where
  pub workers : IfSome given.workers (λ number. number ≡ workers_at start)
  pub max_vertices : IfSome given.max_vertices (λ number. number ≡ limit_at start)
  pub no_stock : given.has_stock ≡ false

-- What a program reads, if its bytes are known. Without the name of a kept file these are the bytes of a reader. With a name it is
-- the text that the bytes of a kept file say, which may be opened.
abbrev pub IsGiven : {Reader : Type 0} → (Reader → Option (List ℕ)) → Option (Bor (List ℕ)) → Option (List ℕ) → Type 0
IsGiven {Reader} remaining None known = (reader : Reader) × (known ≡ remaining reader)
IsGiven {Reader} remaining (Some path) known = (file : List ℕ) × MayOpen file × (known ≡ Some (kept_text file))

-- the bytes are those of the script, as far as its fault, or the text of the history
abbrev pub IsInputOf : PlainOptions → List ℕ → InputText → Type 0
IsInputOf options bytes (Lines script) = RunsOn options script × IsReadOf bytes script × IsNumbered script
IsInputOf options bytes (Entries history) = IsTextOf bytes history × AgreesWith options.given history.start

-- the bytes are the text of a legal history, and the picture is that of the graph after it
pub record IsLastPicture (bytes : List ℕ) (picture : ShownPicture) : Type 0 where
  pub origin : TextStart
  pub entries : List Entry
  pub history_is : IsHistory bytes origin entries
  pub picture_is : IsPictureOf picture (graph_after (graph_of_origin origin) entries)

-- the bytes are the text of a history, of whose last graph this is the picture; boxes aren't counted, and no line was refused
pub record IsPastOf (bytes : List ℕ) (outcome : Outcome) : Type 0 where
  pub picture_is : IsLastPicture bytes outcome.picture
  pub boxes_are : outcome.boxes ≡ None
  pub refused_are : outcome.refused.items ≡ []

-- the bytes are a script's, run with these options, or the text of a history, and they leave this
abbrev pub IsLeftBy : PlainOptions → List ℕ → Outcome → Type 0
IsLeftBy options bytes outcome = IsOutcomeOf options bytes outcome ⊎ IsPastOf bytes outcome
