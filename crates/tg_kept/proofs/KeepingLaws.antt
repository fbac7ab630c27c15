-- What a file says of a history, and what a crash may leave of it.
use Rattle.std.proofs.Common.{◌≡◌, ◌∙◌, ℕ, List, [], ◌++◌, drop, map, take, refl, sym, ap, subst, arith, append_assoc, Result, Ok, Err}
use Rattle.std.specs.Prelude.{IsTrue, OnErr, OnOk}
use Rattle.std.proofs.lemmas.List.{append-nil, length-map, map-append, take-append-drop, take-map}
use Rattle.sqlite_disk.specs.declared.Disk as disk
use Rattle.tg_model.specs.Opened.{Plan}
use Rattle.tg_journal.specs.declared.entry.Entry.{Entry}
use Rattle.tg_journal.specs.History.{IsLegal, graph_after}
use Rattle.tg_journal.proofs.HistoryLaws.{IsLegal-cut}
use Rattle.tg_store.specs.Origin.{Origin, start_at}
use Rattle.tg_store.specs.Store.{IsFaithful, StoreState}
use Rattle.tg_keep.specs.Files.{AwaitsBatch, HasPut, LeavesPart, first_texts}
use Rattle.tg_keep.specs.Fronts.{AddsFront}
use Rattle.tg_keep.specs.Lines.{history_of}
use Rattle.tg_keep.specs.declared.fault.FileFault.{FileFault}
use Rattle.tg_keep.specs.declared.file.LineFile.{LineFile}
use Rattle.tg_keep.proofs.Closing.{synced_open}
use Rattle.tg_kept.specs.Keeping.{BeganByOpening, HasBegunHistory, IsKept, KeepsUpTo, KeepsStore, LeavesFrom, LeavesStore}
use Rattle.tg_kept.specs.Texts.{SaysFront, entry_line, kept_lines, opening_lines}

-- more entries
pub lines_more : (plan : Plan) (entries more : List Entry) → kept_lines plan (entries ++ more) ≡ kept_lines plan entries ++ map entry_line more
lines_more plan entries more =
    let head = first_texts ++ opening_lines plan in
    ap (λ (l : List (List ℕ)). head ++ l) (map-append entry_line entries more) ∙ sym (append_assoc head (map entry_line entries) (map entry_line more))

-- the entries before a place, and those from there on
lines_join : (plan : Plan) (entries : List Entry) (place : ℕ) → kept_lines plan (take place entries) ++ map entry_line (drop place entries) ≡ kept_lines plan entries
lines_join plan entries place = sym (lines_more plan (take place entries) (drop place entries)) ∙ ap (kept_lines plan) (take-append-drop place entries)

-- a file that says a front of more entries
says_front : (plan : Plan) (entries more : List Entry) (before texts : List (List ℕ)) → before ≡ kept_lines plan entries → AddsFront before (map entry_line more) texts → SaysFront plan entries more texts
says_front plan entries more before texts is front = (
  front.0,
  omega (arith, front.1, length-map more entry_line),
  front.2
      ∙ ap (λ (l : List (List ℕ)). l ++ take front.0 (map entry_line more)) is
      ∙ ap (λ (l : List (List ℕ)). kept_lines plan entries ++ l) (take-map entry_line front.0 more)
      ∙ sym (lines_more plan entries (take front.0 more)),
)

-- the entries from a place on were put, and then the file says all
pub keeps_all : {D : Type 0} (g : disk.Ghosts D) (place : ℕ) (s : StoreState) (before after : LineFile D) (given : List Entry) → given ≡ drop place s.entries → KeepsUpTo g place s before
    → HasPut g (map entry_line given) before after → LeavesPart g (map entry_line given) before.disk after.disk → KeepsStore g s after
keeps_all g place s before after given same front put left clean =
    put.texts clean
    ∙ ap (λ (l : List (List ℕ)). l ++ map entry_line given) (front.says (subst IsTrue left.calm clean))
    ∙ ap (λ (es : List Entry). kept_lines s.opening.plan (take place s.entries) ++ map entry_line es) same
    ∙ lines_join s.opening.plan s.entries place

-- the entries from a place on are legal, on the graph after those before it
legal_from : (place : ℕ) (s : StoreState) → IsFaithful s → IsLegal (graph_after (start_at s.opening) (take place s.entries)) (drop place s.entries)
legal_from place s faithful =
    let first = start_at s.opening in
    (IsLegal-cut first (take place s.entries) (drop place s.entries) (subst (IsLegal first) (sym (take-append-drop place s.entries)) faithful.legal)).1

-- or they were put in part
pub leaves_from : {D : Type 0} (g : disk.Ghosts D) (place : ℕ) (s : StoreState) (before : LineFile D) (after : D) (given : List Entry) → given ≡ drop place s.entries → IsFaithful s → KeepsUpTo g place s before
    → LeavesPart g (map entry_line given) before.disk after → LeavesFrom g place s before.disk after
leaves_from g place s before after given same faithful front left = record {
  legal = legal_from place s faithful;
  crash = λ clean c may.
      let P : List Entry → Type 0 = λ es. AddsFront (history_of (g.seen before.disk)) (map entry_line es) (history_of c) in
      says_front s.opening.plan (take place s.entries) (drop place s.entries) (history_of (g.seen before.disk)) (history_of c) (front.says (subst IsTrue left.calm clean)) (subst P same (left.crash clean c may));
  unclosed = left.unclosed;
  calm = left.calm;
}

-- each content that a crash may leave says what the file says
pub leaves_store : {D : Type 0} (g : disk.Ghosts D) (s : StoreState) (file : LineFile D) → AwaitsBatch g file → KeepsStore g s file → LeavesStore g s file.disk
leaves_store g s file settled keeps clean c may = ap history_of ((settled.synced clean).durable c may) ∙ keeps clean

-- the file of a new store
pub keeps_first : {D : Type 0} (g : disk.Ghosts D) (plan : Plan) (s : StoreState) (old new : LineFile D) → plan ≡ s.opening.plan → s.entries ≡ [] → HasBegunHistory g plan old new → KeepsStore g s new
keeps_first g plan s old new same none begun clean =
    let head = first_texts ++ opening_lines s.opening.plan in
    begun.texts clean
    ∙ ap (λ (p : Plan). first_texts ++ opening_lines p) same
    ∙ sym (append-nil head)
    ∙ ap (λ (es : List Entry). head ++ map entry_line es) (sym none)

-- nothing was written
pub leaves_nothing : {D : Type 0} (g : disk.Ghosts D) (texts : List (List ℕ)) (file : LineFile D) → AwaitsBatch g file → LeavesPart g texts file.disk file.disk
leaves_nothing g texts file settled = record {
  crash = λ clean c may. (0, omega arith, ap history_of ((settled.synced clean).durable c may) ∙ sym (append-nil (history_of (g.seen file.disk))));
  unclosed = λ clean. synced_open g.seen g.may_leave file (settled.synced clean) settled.room;
  calm = refl;
}

-- ---- a store with the same history

pub began_same : (old new : Origin) → new ≡ old → BeganByOpening old → BeganByOpening new
began_same old new same began = let P : Origin → Type 0 = λ o. BeganByOpening o in subst P (sym same) began

pub keeps_same : {D : Type 0} (g : disk.Ghosts D) (old new : StoreState) (file : LineFile D) → new.opening ≡ old.opening → new.entries ≡ old.entries → KeepsStore g old file → KeepsStore g new file
keeps_same g old new file opening entries keeps clean =
    keeps clean
    ∙ ap (λ (o : Origin). kept_lines o.plan old.entries) (sym opening)
    ∙ ap (λ (es : List Entry). kept_lines new.opening.plan es) (sym entries)

-- ---- a batch that a layer above makes

pub entries_kept : {D T : Type 0} (g : disk.Ghosts D) (place : ℕ) (s : StoreState) (before after : LineFile D) (given : List Entry) (r : Result T FileFault) → given ≡ drop place s.entries → KeepsUpTo g place s before
    → OnOk r (HasPut g (map entry_line given) before after) → LeavesPart g (map entry_line given) before.disk after.disk → OnOk r (IsKept g s after)
entries_kept g place s before after given (Ok done) same front put left = record {
  opened = front.opened;
  writable = record { settled = put.settled; mixing = front.writable.mixing };
  keeps = keeps_all g place s before after given same front put left;
}
entries_kept g place s before after given (Err why) same front put left = tt

pub entries_left : {D T : Type 0} (g : disk.Ghosts D) (place : ℕ) (s : StoreState) (before after : LineFile D) (given : List Entry) (r : Result T FileFault) → given ≡ drop place s.entries → KeepsUpTo g place s before
    → OnOk r (HasPut g (map entry_line given) before after) → LeavesPart g (map entry_line given) before.disk after.disk → OnOk r (LeavesStore g s after.disk)
entries_left g place s before after given (Ok done) same front put left = leaves_store g s after put.settled (keeps_all g place s before after given same front put left)
entries_left g place s before after given (Err why) same front put left = tt

pub entries_lost : {D T : Type 0} (g : disk.Ghosts D) (place : ℕ) (s : StoreState) (before : LineFile D) (after : D) (given : List Entry) (r : Result T FileFault) → given ≡ drop place s.entries → IsFaithful s → KeepsUpTo g place s before
    → LeavesPart g (map entry_line given) before.disk after → OnErr r (LeavesFrom g place s before.disk after)
entries_lost g place s before after given (Ok done) same faithful front left = tt
entries_lost g place s before after given (Err why) same faithful front left = leaves_from g place s before after given same faithful front left

-- nothing was put
pub leaves_same : {D : Type 0} (g : disk.Ghosts D) (s : StoreState) (file : LineFile D) → IsKept g s file → LeavesStore g s file.disk
leaves_same g s file kept = leaves_store g s file kept.writable.settled kept.keeps
