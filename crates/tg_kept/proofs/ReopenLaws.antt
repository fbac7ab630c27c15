-- The store that goes on from a file's history.
use Rattle.std.proofs.Common.{◌≡◌, ◌∙◌, ℕ, Bool, true, List, drop, refl, sym, ap, subst}
use Rattle.std.specs.Prelude.{IsTrue}
use Rattle.sqlite_disk.specs.declared.Disk as disk
use Rattle.tg_journal.specs.declared.entry.Entry.{Entry}
use Rattle.tg_entries.specs.declared.kept.History.{History}
use Rattle.tg_entries.specs.declared.kept.HistoryStart.{HistoryStart}
use Rattle.tg_space.specs.SpaceTable.{BlockLimits}
use Rattle.tg_store.specs.Origin.{Origin}
use Rattle.tg_store.specs.Store.{StoreState}
use Rattle.tg_revive.specs.Reviving.{IsReviveFault, IsRevived}
use Rattle.tg_revive.specs.declared.fault.ReviveFault.{ReviveFault}
use Rattle.tg_keep.specs.Lines.{file_texts, history_of}
use Rattle.tg_keep.specs.Opened.{HasOpened, MayOpen, has_first_text}
use Rattle.tg_keep.specs.declared.file.LineFile.{LineFile}
use Rattle.tg_kept.specs.Keeping.{BeganByOpening, KeepsStore}
use Rattle.tg_kept.specs.Reopening.{HasNoStore, OpensAs, SaysHistory}
use Rattle.tg_kept.specs.Texts.{kept_lines}

-- the bytes that were read are those of the file, and say the history
says_seen : (bytes seen : List ℕ) (history : History) (says : SaysHistory bytes history) → bytes ≡ seen → MayOpen seen → history_of seen ≡ kept_lines says.plan history.entries.items
says_seen bytes seen history says same opens =
    let first : has_first_text (file_texts bytes) ≡ true = ap (λ (b : List ℕ). has_first_text (file_texts b)) same ∙ opens.kept in
    sym (ap history_of same) ∙ says.says first

-- the store has what the file says
pub opens_as : (is_clean : Bool) (bytes seen : List ℕ) (history : History) (limits : BlockLimits) (s : StoreState) → (IsTrue is_clean → bytes ≡ seen) → (IsTrue is_clean → MayOpen seen)
    → SaysHistory bytes history → IsRevived history.start history.entries.items limits s → OpensAs is_clean seen limits s
opens_as is_clean bytes seen history limits s same opens says revived =
    let es = history.entries.items in
    let P : HistoryStart → Type 0 = λ begun. IsRevived begun es limits s in
    let is = subst P says.begins revived in
    let held : s.handed ≡ 0 = is.place in
    let all : s.entries ≡ es = sym (ap (λ (n : ℕ). drop n s.entries) held) ∙ is.held in
    let B : Origin → Type 0 = λ o. BeganByOpening o in
    record {
      says = λ clean.
          says_seen bytes seen history says (same clean) (opens clean)
          ∙ ap (λ (l : List Entry). kept_lines says.plan l) (sym all)
          ∙ ap (λ (o : Origin). kept_lines o.plan s.entries) (sym is.origin);
      began = subst B (sym is.origin) refl;
      held = held;
      limits = is.limits;
    }

-- or there is none, for a reason
pub no_store : (bytes seen : List ℕ) (history : History) (limits : BlockLimits) (why : ReviveFault) → bytes ≡ seen → MayOpen seen → SaysHistory bytes history
    → IsReviveFault history.start history.entries.items limits why → HasNoStore seen limits why
no_store bytes seen history limits why same opens says reason =
    let P : HistoryStart → Type 0 = λ begun. IsReviveFault begun history.entries.items limits why in
    record {
      plan = says.plan;
      entries = history.entries.items;
      legal = says.legal;
      says = says_seen bytes seen history says same opens;
      reason = subst P says.begins reason;
    }

-- the file that was opened says what the store has
pub keeps_opened : {D : Type 0} (g : disk.Ghosts D) (old new : LineFile D) (limits : BlockLimits) (s : StoreState) → HasOpened g old new → OpensAs (g.is_clean new.disk) (g.seen old.disk) limits s → KeepsStore g s new
keeps_opened g old new limits s opened is clean = opened.texts clean ∙ is.says clean
