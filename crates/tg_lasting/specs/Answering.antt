-- A script that is answered on a store which is kept in a file: its replies, and what a crash leaves of their entries.
use Rattle.std.specs.Prelude.{◌≡◌, ◌≢◌, ℕ, Bool, true, false, List, [], ◌++◌, length, IsTrue, IsOk, IfErr, Option, Some, None, Result, Ok, Err}
use Rattle.std.specs.List.{flat_map}
use Rattle.sqlite_disk.specs.declared.Disk as disk
use Rattle.tg_journal.specs.declared.entry.Entry.{Entry}
use Rattle.tg_journal.specs.History.{IsLegal}
use Rattle.tg_store.specs.Store.{StoreState, graph_of_store}
use Rattle.tg_text.specs.declared.line.Line.{Line}
use Rattle.tg_text.specs.declared.answer.Answer.{Answer}
use Rattle.tg_text.specs.declared.fault.ScriptFault.{ScriptFault}
use Rattle.tg_text.specs.declared.fault.ScriptFault.TheVariants as fault
use Rattle.tg_text.specs.Sinks.{Wrote, WroteSome}
use Rattle.tg_text.specs.Texts.{answer_text}
use Rattle.tg_script.specs.declared.parts.ScriptLeft.{ScriptLeft}
use Rattle.tg_script.specs.declared.parts.ScriptRun.{ScriptRun}
use Rattle.tg_script.specs.Parts.{GivesUp, GoesFurther, GoesPart, IsOnStore, IsWaiting, PartRan, ReadsPart, scene_after, scene_in}
use Rattle.tg_script.specs.Lines.{IsOfReading}
use Rattle.tg_script.specs.Watching.{AreAnswered, SeesAll}
use Rattle.tg_keep.specs.Files.{LeavesClosed}
use Rattle.tg_keep.specs.Lines.{history_of}
use Rattle.tg_kept.specs.Keeping.{IsKept, KeepsUpTo, LeavesFrom, LeavesStore}
use Rattle.tg_kept.specs.Texts.{SaysFront, kept_lines}
use Rattle.tg_lasting.specs.declared.fault.KeptFault.{KeptFault}
use Rattle.tg_lasting.specs.declared.fault.KeptFault.TheVariants as kept
use Rattle.tg_lasting.specs.declared.kept.KeptEnd.{KeptEnd}
use Rattle.tg_lasting.specs.declared.part.KeptScript.{KeptScript}
use Rattle.tg_lasting.specs.declared.part.Replied.{Replied}

-- Each content that a crash may leave says exactly the entries of the store, and then these entries.
abbrev pub LeavesExactly : {D : Type 0} → disk.Ghosts D → StoreState → List Entry → D → Type 0
LeavesExactly g s es disk = IsTrue (g.is_clean disk) → (c : List ℕ) → g.may_leave disk c → history_of c ≡ kept_lines s.opening.plan (s.entries ++ es)

-- Or after them it says a front of more entries.
abbrev pub LeavesAlso : {D : Type 0} → disk.Ghosts D → StoreState → List Entry → List Entry → D → Type 0
LeavesAlso g s es more disk = IsTrue (g.is_clean disk) → (c : List ℕ) → g.may_leave disk c → SaysFront s.opening.plan (s.entries ++ es) more (history_of c)

-- A script on a store whose file says exactly its entries. No edge line is left.
pub record IsReadyScript {D P : Type 0} (g : disk.Ghosts D) (on : KeptScript D P) : Type 0 where
  pub waits : IsWaiting on.run.begun.script on.run.begun.first
  pub kept : IsKept g on.run.begun.run.store on.file

-- The lines of these bytes were read, up to this end, and these bytes are left. They have these answers, and made these entries.
pub record AnswersLines {P : Type 0} (old : ScriptRun P) (bytes : List ℕ) (end : Option ScriptFault) (left : List ℕ) (answers : List Answer) (es : List Entry) : Type 0 where
  pub lines : List Line
  pub reads : ReadsPart old bytes lines end left
  pub answered : AreAnswered (scene_in old) lines answers es
  pub legal : IsLegal (graph_of_store old.begun.run.store) es

-- The same, where only the first lines have these answers and made these entries. The store was lost at the lines after them.
pub record AnswersFirst {P : Type 0} (old : ScriptRun P) (bytes : List ℕ) (answers : List Answer) (es : List Entry) : Type 0 where
  pub lines : List Line
  pub later : List Line
  pub end : Option ScriptFault
  pub left : List ℕ
  pub reads : ReadsPart old bytes (lines ++ later) end left
  pub answered : AreAnswered (scene_in old) lines answers es
  pub held : List Answer
  pub more : List Entry
  pub unanswered : AreAnswered (scene_after (scene_in old) es) later held more
  pub legal : IsLegal (graph_of_store old.begun.run.store) (es ++ more)

-- the replies to these answers are in the sink, after what was there before
abbrev pub HasReplies : List ℕ → List Answer → Option (List ℕ) → Type 0
HasReplies before answers after = after ≡ Some (before ++ flat_map answer_text answers)

-- or a front of them
abbrev pub HasFront : List ℕ → List Answer → Option (List ℕ) → Type 0
HasFront before answers after = (front : List ℕ) × (rest : List ℕ) × (flat_map answer_text answers ≡ front ++ rest) × (after ≡ Some (before ++ front))

-- the store has these entries more, and the file says exactly its entries
pub record StaysKept {D P : Type 0} (g : disk.Ghosts D) (old new : KeptScript D P) (es : List Entry) : Type 0 where
  pub entries : new.run.begun.run.store.entries ≡ old.run.begun.run.store.entries ++ es
  pub opening : new.run.begun.run.store.opening ≡ old.run.begun.run.store.opening
  pub kept : IsKept g new.run.begun.run.store new.file

-- Why a script on a kept store has ended, with what was answered. Each content that a crash may leave has the entries of all lines that
-- were answered. If the sink failed, it has a front of the replies. If the store was lost, or memory ran out, the first lines were
-- answered, and no reply to the lines after them was written.
abbrev pub EndsKept : {D P : Type 0} → disk.Ghosts D → ScriptRun P → List ℕ → List ℕ → KeptFault → Option (List ℕ) → D → Type 0
EndsKept g old bytes before (kept.Script fault.WriteFailed) after disk =
    (answers : List Answer) × (es : List Entry) × (left : List ℕ) × AnswersLines old bytes (Some fault.WriteFailed) left answers es × HasFront before answers after
    × LeavesExactly g old.begun.run.store es disk
EndsKept g old bytes before (kept.Script fault.OutOfMemory) after disk =
    (answers : List Answer) × (es : List Entry) × AnswersFirst old bytes answers es × HasReplies before answers after × LeavesExactly g old.begun.run.store es disk
EndsKept g old bytes before (kept.Script f) after disk =
    (answers : List Answer) × (es : List Entry) × (left : List ℕ) × AnswersLines old bytes (Some f) left answers es × HasReplies before answers after
    × LeavesExactly g old.begun.run.store es disk
EndsKept g old bytes before (kept.Lost why) after disk =
    (answers : List Answer) × (es : List Entry) × (first : AnswersFirst old bytes answers es) × HasReplies before answers after × LeavesAlso g old.begun.run.store es first.more disk

-- What a script on a kept store leaves of these bytes, where `before` was in the sink. All lines were answered, and a watch has seen the
-- answers. Or a fault ended it.
abbrev pub KeptRan : {D P T : Type 0} → disk.Ghosts D → KeptScript D P → KeptScript D P → List ℕ → List ℕ → Option Bool → Result T KeptFault → Option (List ℕ) → Option Bool → Type 0
KeptRan g old new bytes before saw (Ok done) after saw' =
    (answers : List Answer) × (es : List Entry) × AnswersLines old.run bytes None [] answers es × HasReplies before answers after × StaysKept g old new es × SeesAll saw answers saw'
KeptRan g old new bytes before saw (Err why) after saw' = EndsKept g old.run bytes before why after new.file.disk

-- the same by what a reader, a sink and a watch tell
abbrev pub RunsKept : {D P K W T : Type 0} → disk.Ghosts D → (K → Option (List ℕ)) → (W → Option Bool) → Option (List ℕ) → K → K → W → W → KeptScript D P → KeptScript D P → Result T KeptFault → Type 0
RunsKept g taken refused left sink sink' watch watch' old new result =
    (bytes before : List ℕ) → left ≡ Some bytes → taken sink ≡ Some before → KeptRan g old new bytes before (refused watch) result (taken sink') (refused watch')

-- ---- one part

-- what one part leaves: after `Ok` the next part goes on
abbrev pub PartServed : {D P T : Type 0} → disk.Ghosts D → KeptScript D P → KeptScript D P → List ℕ → List ℕ → Option Bool → Result T KeptFault → Option (List ℕ) → Option Bool → Type 0
PartServed g old new chunk before saw (Ok done) after saw' =
    (answers : List Answer) × (es : List Entry) × (left : List ℕ) × (gone : GoesPart old.run new.run chunk None left answers es) × GoesFurther old.run new.run chunk gone.lines es
    × HasReplies before answers after × SeesAll saw answers saw' × IsKept g new.run.begun.run.store new.file
PartServed g old new chunk before saw (Err why) after saw' = EndsKept g old.run chunk before why after new.file.disk

-- the same by what a sink and a watch tell
abbrev pub ServesPart : {D P K W T : Type 0} → disk.Ghosts D → (K → Option (List ℕ)) → (W → Option Bool) → K → K → W → W → KeptScript D P → KeptScript D P → List ℕ → Result T KeptFault → Type 0
ServesPart g taken refused sink sink' watch watch' old new chunk result = (before : List ℕ) → taken sink ≡ Some before → PartServed g old new chunk before (refused watch) result (taken sink') (refused watch')

-- A part was answered in memory: the replies are there, and a watch has seen the answers. The part didn't fail to be read.
pub record RepliesTo {W P : Type 0} (refused : W → Option Bool) (watch watch' : W) (old new : ScriptRun P) (chunk : List ℕ) (replied : Replied) : Type 0 where
  pub ran : (left : List ℕ) × PartRan old new chunk [] (refused watch) replied.outcome left (Some replied.replies.items) (refused watch')
  pub met : IfErr replied.outcome IsOfReading
  pub read : replied.outcome ≢ Err fault.ReadFailed

-- The store was kept up to this place. The entries from there on are those of a part, which didn't fail to be read.
pub record MayKeepPart {D P : Type 0} (g : disk.Ghosts D) (place : ℕ) (on : KeptScript D P) (replied : Replied) : Type 0 where
  pub upto : KeepsUpTo g place on.run.begun.run.store on.file
  pub met : IfErr replied.outcome IsOfReading
  pub read : replied.outcome ≢ Err fault.ReadFailed

-- the replies are in the sink, or a front of them
abbrev pub TakesReplies : Option (List ℕ) → List ℕ → Bool → Option (List ℕ) → Type 0
TakesReplies before replies true after = Wrote before replies after
TakesReplies before replies false after = WroteSome before replies after

-- there was no memory for the replies
abbrev pub is_cut : {T : Type 0} → Result T ScriptFault → Bool
is_cut (Ok done) = false
is_cut (Err fault.ReadFailed) = false
is_cut (Err fault.InputTooLong) = false
is_cut (Err (fault.LineTooLong line)) = false
is_cut (Err (fault.BadLine line)) = false
is_cut (Err fault.WriteFailed) = true
is_cut (Err fault.OutOfMemory) = false
is_cut (Err fault.HeapFull) = false
is_cut (Err fault.BadLimits) = false

-- All lines of a part ran, the file says exactly the entries of the store, and they were given up.
pub record IsPartDone {D P : Type 0} (g : disk.Ghosts D) (old new : KeptScript D P) (replied : Replied) : Type 0 where
  pub ended : IsOk replied.outcome
  pub up : GivesUp (length old.run.begun.run.store.entries) old.run new.run
  pub kept : IsKept g new.run.begun.run.store new.file

-- The entries of a part are on the disk. Its replies all lie in memory, and it wasn't ended by a failure to read.
pub record MayHandPart {D P : Type 0} (g : disk.Ghosts D) (on : KeptScript D P) (replied : Replied) : Type 0 where
  pub kept : IsKept g on.run.begun.run.store on.file
  pub met : IfErr replied.outcome IsOfReading
  pub uncut : is_cut replied.outcome ≡ false

-- the replies of a part were written, or a front of them, and its entries are on the disk
abbrev pub PartHanded : {D P T : Type 0} → disk.Ghosts D → KeptScript D P → KeptScript D P → Replied → List ℕ → Result T KeptFault → Option (List ℕ) → Type 0
PartHanded g old new replied before (Ok done) after = (after ≡ Some (before ++ replied.replies.items)) × IsPartDone g old new replied
PartHanded g old new replied before (Err (kept.Script fault.OutOfMemory)) after = ⊥
PartHanded g old new replied before (Err (kept.Script fault.WriteFailed)) after = WroteSome (Some before) replied.replies.items after × LeavesStore g old.run.begun.run.store new.file.disk
PartHanded g old new replied before (Err (kept.Script f)) after = (replied.outcome ≡ Err f) × (after ≡ Some (before ++ replied.replies.items)) × LeavesStore g old.run.begun.run.store new.file.disk
PartHanded g old new replied before (Err (kept.Lost why)) after = ⊥

-- the same by what a sink tells
abbrev pub HandsPart : {D P K T : Type 0} → disk.Ghosts D → (K → Option (List ℕ)) → K → K → KeptScript D P → KeptScript D P → Replied → Result T KeptFault → Type 0
HandsPart g taken sink sink' old new replied result = (before : List ℕ) → taken sink ≡ Some before → PartHanded g old new replied before result (taken sink')

-- What was kept of a part: nothing, as its replies had no room in memory; or a front of its entries, and no reply was written; or all
-- entries, and then the replies, or a front of them.
abbrev pub PartKept : {D P T : Type 0} → disk.Ghosts D → ℕ → KeptScript D P → KeptScript D P → Replied → List ℕ → Result T KeptFault → Option (List ℕ) → Type 0
PartKept g place old new replied before (Ok done) after = (after ≡ Some (before ++ replied.replies.items)) × IsPartDone g old new replied
PartKept g place old new replied before (Err (kept.Script fault.OutOfMemory)) after = (is_cut replied.outcome ≡ true) × (after ≡ Some before) × (new.file ≡ old.file)
PartKept g place old new replied before (Err (kept.Script fault.WriteFailed)) after =
    (is_cut replied.outcome ≡ false) × WroteSome (Some before) replied.replies.items after × LeavesStore g old.run.begun.run.store new.file.disk
PartKept g place old new replied before (Err (kept.Script f)) after =
    (replied.outcome ≡ Err f) × (after ≡ Some (before ++ replied.replies.items)) × LeavesStore g old.run.begun.run.store new.file.disk
PartKept g place old new replied before (Err (kept.Lost why)) after =
    (is_cut replied.outcome ≡ false) × (after ≡ Some before) × LeavesFrom g place old.run.begun.run.store old.file.disk new.file.disk

-- the same by what a sink tells
abbrev pub KeepsPart : {D P K T : Type 0} → disk.Ghosts D → (K → Option (List ℕ)) → K → K → ℕ → KeptScript D P → KeptScript D P → Replied → Result T KeptFault → Type 0
KeepsPart g taken sink sink' place old new replied result = (before : List ℕ) → taken sink ≡ Some before → PartKept g place old new replied before result (taken sink')

-- ---- the whole

-- What a run on a kept store has come to, where the script reads these bytes, and `before` was in the sink. After `Ok` each content that
-- a crash may leave is that of a closed file.
abbrev pub KeptEnded : {D P : Type 0} → disk.Ghosts D → ScriptRun P → List ℕ → List ℕ → Option Bool → Result (Unit {0}) KeptFault → D → Option (List ℕ) → Option Bool → Type 0
KeptEnded g r bytes before saw (Ok done) disk after saw' =
    (answers : List Answer) × (es : List Entry) × AnswersLines r bytes None [] answers es × HasReplies before answers after × LeavesExactly g r.begun.run.store es disk
    × (IsTrue (g.is_clean disk) → LeavesClosed g.may_leave disk) × SeesAll saw answers saw'
KeptEnded g r bytes before saw (Err why) disk after saw' = EndsKept g r bytes before why after disk

-- the same of the script that is left, on this store, by what a reader, a sink and a watch tell
abbrev pub EndsFrom : {D P K W : Type 0} → disk.Ghosts D → (K → Option (List ℕ)) → (W → Option Bool) → Option (List ℕ) → K → K → W → W → ScriptLeft P → StoreState → KeptEnd D → Type 0
EndsFrom {P = P} g taken refused left sink sink' watch watch' script s end =
    (r : ScriptRun P) (bytes before : List ℕ) → IsOnStore script s r → left ≡ Some bytes → taken sink ≡ Some before → KeptEnded g r bytes before (refused watch) end.outcome end.disk (taken sink') (refused watch')

-- the same of a script on its store
abbrev pub ClosesKept : {D P K W : Type 0} → disk.Ghosts D → (K → Option (List ℕ)) → (W → Option Bool) → Option (List ℕ) → K → K → W → W → KeptScript D P → KeptScript D P → Result (Unit {0}) KeptFault → Type 0
ClosesKept g taken refused left sink sink' watch watch' old new result =
    (bytes before : List ℕ) → left ≡ Some bytes → taken sink ≡ Some before → KeptEnded g old.run bytes before (refused watch) result new.file.disk (taken sink') (refused watch')
