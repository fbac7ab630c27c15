-- Journals of the first edition: as entries of today, and where one was first bad.
use Rattle.std.specs.Prelude.{◌≡◌, ℕ, List, [], ◌∷◌, take, slice_get, Some}
use Rattle.tg_model.specs.Edition1.{Graph1, Entry1, IsLegalEntry1, IsLegal1, step1, deed_now, reply_now}
use Rattle.tg_journal.specs.declared.entry.Entry.{Entry}

abbrev pub entry_today : Entry1 → Entry
entry_today e = record { worker = e.worker; deed = deed_now e.deed; reply = reply_now e.reply }

-- the graph after the deeds of all entries
abbrev pub graph_after1 : Graph1 → List Entry1 → Graph1
graph_after1 g [] = g
graph_after1 g (e ∷ es) = graph_after1 (step1 g e.worker e.deed) es

-- the entries before this place were legal, and there is one at it that wasn't
pub record IsFirstBad1 (g : Graph1) (es : List Entry1) (at : ℕ) : Type 0 where
  pub before : IsLegal1 g (take at es)
  pub entry : Entry1
  pub there : slice_get es at ≡ Some entry
  pub bad : ¬ IsLegalEntry1 (graph_after1 g (take at es)) entry
