-- The end of a run on a kept store: its file is closed, or couldn't be.
use Rattle.std.proofs.Common.{◌≡◌, ◌∙◌, ℕ, ◌+◌, ◌≤◌, Bool, List, [], ◌∷◌, ◌++◌, length, take, Option, Some, None, Result, Ok, Err, refl, sym, ap, subst, arith, append-nil}
use Rattle.std.specs.Prelude.{IsTrue}
use Rattle.sqlite_disk.specs.declared.Disk as disk
use Rattle.tg_journal.specs.declared.entry.Entry.{Entry}
use Rattle.tg_journal.specs.History.{IsLegal}
use Rattle.tg_store.specs.Store.{StoreState, graph_of_store}
use Rattle.tg_text.specs.declared.line.Line.{Line}
use Rattle.tg_text.specs.declared.answer.Answer.{Answer}
use Rattle.tg_script.specs.declared.parts.ScriptLeft.{ScriptLeft}
use Rattle.tg_script.specs.declared.parts.ScriptRun.{ScriptRun}
use Rattle.tg_script.specs.declared.script.Script.{Script}
use Rattle.tg_script.specs.Parts.{IsOnStore, IsWaiting, ReadsPart}
use Rattle.tg_keep.specs.declared.file.LineFile.{LineFile}
use Rattle.tg_keep.specs.declared.fault.FileFault.{FileFault}
use Rattle.tg_kept.specs.Keeping.{IsKept, LeavesClosedStore, LeavesStore}
use Rattle.tg_kept.specs.Texts.{kept_lines}
use Rattle.tg_lasting.specs.Answering.{AnswersFirst, AnswersLines, IsReadyScript, KeptEnded, KeptRan, LeavesAlso, LeavesExactly}
use Rattle.tg_lasting.specs.declared.fault.KeptFault.{KeptFault}
use Rattle.tg_lasting.specs.declared.fault.KeptFault.TheVariants as kept
use Rattle.tg_lasting.specs.declared.part.KeptScript.{KeptScript}
use Rattle.tg_lasting.proofs.KeepingPartLaws.{kept_exactly}

-- all lines were answered, and none was lost
abbrev lines_first : {P : Type 0} (r : ScriptRun P) (bytes : List ℕ) (answers : List Answer) (es : List Entry) → AnswersLines r bytes None [] answers es → AnswersFirst r bytes answers es
lines_first r bytes answers es h =
    let R : List Line → Type 0 = λ l. ReadsPart r bytes l None [] in
    let L : List Entry → Type 0 = λ l. IsLegal (graph_of_store r.begun.run.store) l in
    record {
      lines = h.lines;
      later = [];
      end = None;
      left = [];
      reads = subst R (sym (append-nil h.lines)) h.reads;
      answered = h.answered;
      held = [];
      more = [];
      unanswered = (refl, refl);
      legal = subst L (sym (append-nil es)) h.legal;
    }

exactly_also : {D : Type 0} (g : disk.Ghosts D) (s : StoreState) (es : List Entry) (at : D) → LeavesExactly g s es at → LeavesAlso g s es [] at
exactly_also g s es at leaves clean c may = (0, omega arith, leaves clean c may ∙ ap (kept_lines s.opening.plan) (sym (append-nil (s.entries ++ es))))

module _ {D P : Type 0} (g : disk.Ghosts D) (old mid new : KeptScript D P) (bytes before : List ℕ) (saw saw' : Option Bool) (after : Option (List ℕ)) (ran : KeptRan {T = Unit {0}} g old mid bytes before saw (Ok tt) after saw') where
  exactly_all : LeavesStore g mid.run.begun.run.store new.file.disk → LeavesExactly g old.run.begun.run.store ran.1 new.file.disk
  exactly_all leaves = kept_exactly old.run.begun.run.store mid.run.begun.run.store ran.1 ran.4.opening ran.4.entries g new.file.disk leaves

  -- the file was closed
  pub closed_end : (done : Unit {0}) → LeavesClosedStore g mid.run.begun.run.store new.file.disk → KeptEnded g old.run bytes before saw (Ok done) new.file.disk after saw'
  closed_end done closed = (ran.0, ran.1, ran.2, ran.3, exactly_all closed.says, closed.closed, ran.5)

  -- or it couldn't be
  pub unclosed_end : (why : FileFault) → LeavesStore g mid.run.begun.run.store new.file.disk → KeptEnded g old.run bytes before saw (Err (kept.Lost why)) new.file.disk after saw'
  unclosed_end why leaves = (ran.0, ran.1, lines_first old.run bytes ran.0 ran.1 ran.2, ran.3, exactly_also g old.run.begun.run.store ran.1 new.file.disk (exactly_all leaves))

-- ---- a script on its store

-- a script that is left is one script on a store
pub one_run : {P : Type 0} (l : ScriptLeft P) (s : StoreState) (r t : ScriptRun P) → IsOnStore l s r → IsOnStore l s t → r ≡ t
one_run l s r t a b = λ i. record {
  begun = record {
    run = record {
      store = (a.store ∙ sym b.store) i;
      supply = (a.supply ∙ sym b.supply) i;
      helpers = (a.helpers ∙ sym b.helpers) i;
    };
    script = (a.script ∙ sym b.script) i;
    first = (a.first ∙ sym b.first) i;
  };
}

pub ready_on : {D P : Type 0} (g : disk.Ghosts D) (l : ScriptLeft P) (s : StoreState) (on : KeptScript D P) → IsOnStore l s on.run → IsWaiting l.script l.first → IsKept g s on.file → IsReadyScript g on
ready_on g l s on is waits kept =
    let S : Script → Type 0 = λ x. IsWaiting x l.first in
    let F : Option Line → Type 0 = λ x. IsWaiting on.run.begun.script x in
    let K : StoreState → Type 0 = λ x. IsKept g x on.file in
    record { waits = subst F (sym is.first) (subst S (sym is.script) waits); kept = subst K (sym is.store) kept }
