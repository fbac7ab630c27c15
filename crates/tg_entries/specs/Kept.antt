-- What is kept of a history while its text is read.
use Rattle.std.specs.Prelude.{◌≡◌, Bool, true, false, List, Option, Some, None, ℕ}
use Rattle.tg_journal.specs.declared.entry.Entry.{Entry}
use Rattle.tg_entries.specs.declared.kept.History.{History}
use Rattle.tg_entries.specs.declared.kept.HistoryStart.{HistoryStart}
use Rattle.tg_entries.specs.declared.kept.HistoryStart.TheVariants as start
use Rattle.tg_entries.specs.Texts.{TextStart, Opened, Shown, Joined, IsHistory}

-- a history begins where its text begins; whether that has the sum of the part before makes no difference
abbrev pub BeginsAt : HistoryStart → TextStart → Type 0
BeginsAt (start.Opened opening) (Opened plan) = opening ≡ plan
BeginsAt (start.Opened opening) (Shown p) = ⊥
BeginsAt (start.Opened opening) (Joined p sum) = ⊥
BeginsAt (start.Shown snapshot) (Opened plan) = ⊥
BeginsAt (start.Shown snapshot) (Shown p) = snapshot ≡ p
BeginsAt (start.Shown snapshot) (Joined p sum) = snapshot ≡ p

-- where a history is kept, it is the one that begins there and has these entries
abbrev pub IsKept : Bool → TextStart → List Entry → Option History → Type 0
IsKept false origin es kept = Unit {0}
IsKept true origin es None = ⊥
IsKept true origin es (Some history) = BeginsAt history.start origin × (history.entries.items ≡ es)

-- the text is that of this history
pub record IsTextOf (text : List ℕ) (history : History) : Type 0 where
  pub origin : TextStart
  pub begins : BeginsAt history.start origin
  pub is : IsHistory text origin history.entries.items
