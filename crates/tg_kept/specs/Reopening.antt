-- Opening a kept file again: the history that its lines are, the store that goes on from it, and why there is none.
use Rattle.std.specs.Prelude.{◌≡◌, ℕ, Bool, true, List, IsTrue}
use Rattle.tg_model.specs.Opened.{Plan, start_of}
use Rattle.tg_journal.specs.declared.entry.Entry.{Entry}
use Rattle.tg_journal.specs.History.{IsLegal}
use Rattle.tg_entries.specs.declared.kept.History.{History}
use Rattle.tg_entries.specs.declared.kept.HistoryStart.TheVariants as start
use Rattle.tg_space.specs.SpaceTable.{BlockLimits}
use Rattle.tg_store.specs.Store.{StoreState}
use Rattle.tg_revive.specs.Reviving.{IsReviveFault}
use Rattle.tg_revive.specs.declared.fault.ReviveFault.{ReviveFault}
use Rattle.tg_keep.specs.Lines.{file_texts, history_of}
use Rattle.tg_keep.specs.Opened.{MayOpen, RefusesFile, has_first_text}
use Rattle.tg_kept.specs.declared.fault.KeptOpenFault.{KeptOpenFault}
use Rattle.tg_kept.specs.declared.fault.KeptOpenFault.TheVariants as fault
use Rattle.tg_kept.specs.Keeping.{BeganByOpening}
use Rattle.tg_kept.specs.Texts.{kept_lines, text_of_lines}

-- the text has these lines between its first and its last
abbrev pub IsTextOfLines : List (List ℕ) → List ℕ → Type 0
IsTextOfLines lines text = (count : ℕ) × (text ≡ text_of_lines lines count)

-- The history begins with an opening, and is legal. If the bytes are the bytes of a kept file, they say exactly its lines.
pub record SaysHistory (bytes : List ℕ) (history : History) : Type 0 where
  pub plan : Plan
  pub begins : history.start ≡ start.Opened plan
  pub legal : IsLegal (start_of plan) history.entries.items
  pub says : has_first_text (file_texts bytes) ≡ true → history_of bytes ≡ kept_lines plan history.entries.items

-- The store has exactly the opening and the entries that the bytes say, unless a wrong answer of the disk was taken as true. It began with
-- its opening, it holds all entries, and its heap has these limits.
pub record OpensAs (is_clean : Bool) (bytes : List ℕ) (given : BlockLimits) (s : StoreState) : Type 0 where
  pub says : IsTrue is_clean → history_of bytes ≡ kept_lines s.opening.plan s.entries
  pub began : BeganByOpening s.opening
  pub held : s.handed ≡ 0
  pub limits : s.heap.table.limits ≡ given

-- The bytes say a legal history, and no store with these limits goes on from it, for this reason.
pub record HasNoStore (bytes : List ℕ) (limits : BlockLimits) (why : ReviveFault) : Type 0 where
  pub plan : Plan
  pub entries : List Entry
  pub legal : IsLegal (start_of plan) entries
  pub says : history_of bytes ≡ kept_lines plan entries
  pub reason : IsReviveFault (start.Opened plan) entries limits why

-- why no store goes on from a file with these bytes
abbrev pub RefusesOpening : List ℕ → BlockLimits → KeptOpenFault → Type 0
RefusesOpening bytes limits (fault.File why) = RefusesFile bytes why
RefusesOpening bytes limits (fault.Text why) = MayOpen bytes
RefusesOpening bytes limits (fault.Store why) = HasNoStore bytes limits why
