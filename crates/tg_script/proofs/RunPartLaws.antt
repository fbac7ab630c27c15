-- A part of a script: its first line, its other lines, and where it ends.
use Rattle.std.proofs.Common.{◌≡◌, ◌∙◌, inl, inr, ℕ, ◌+◌, Bool, true, false, List, [], ◌∷◌, ◌++◌, length, Option, Some, None, Result, Ok, Err, refl, sym, ap, subst, arith, append_assoc, append-nil}
use Rattle.std.proofs.lemmas.Bool.{false≢true}
use Rattle.std.specs.Prelude.{IfErr, IfNone, IfSome, IfOk, OnOk, is_some}
use Rattle.std.specs.List.{flat_map}
use Rattle.tg_model.specs.declared.edge.Edge.{Edge}
use Rattle.tg_journal.specs.declared.entry.Entry.{Entry}
use Rattle.tg_text.specs.declared.line.Line.{Line}
use Rattle.tg_text.specs.declared.answer.Answer.{Answer}
use Rattle.tg_text.specs.declared.fault.ScriptFault.{ScriptFault}
use Rattle.tg_text.specs.declared.fault.ScriptFault.TheVariants as fault
use Rattle.tg_text.specs.declared.fetch.TheConstants.{MOST_BYTES}
use Rattle.tg_text.specs.Reading.{Reads, ReadsScript}
use Rattle.tg_text.specs.Texts.{answer_text}
use Rattle.tg_text.proofs.ReadingLaws.{reads-same}
use Rattle.tg_script.specs.declared.parts.ScriptRun.{ScriptRun}
use Rattle.tg_script.specs.declared.run.Run.{Run}
use Rattle.tg_script.specs.declared.script.Script.{Script}
use Rattle.tg_script.specs.Lines.{Follows, IsNewScript, NextLine, PassesOn, ReadsFrom}
use Rattle.tg_script.specs.Opening.{IsCommand, edge_lines}
use Rattle.tg_script.specs.Parts.{GoesFurther, GoesPart, IsWaiting, PartRan, ReadsAfterEdges, ReadsPart, ReadsPartAfter, may_come, scene_after, scene_in}
use Rattle.tg_script.specs.Watching.{AreAnswered, SeesAll}
use Rattle.tg_script.specs.Inner.Beginning.{ReadsFirst}
use Rattle.tg_script.specs.Inner.GoingOn.{LinesGone}
use Rattle.tg_script.specs.Inner.Marks.{SeesTold}
use Rattle.tg_script.specs.Inner.Parts.{FirstCame, FirstTaken, PassedFrom, PassesLines, TakesStock}
use Rattle.tg_script.specs.Inner.Telling.{ReadsCommands, TellsFirst, reply_of_line}
use Rattle.tg_script.proofs.CommandLaws.{next_command}
use Rattle.tg_script.proofs.GoingLaws.{IsLegalSince, cut_by, gone_seen, gone_told}
use Rattle.tg_script.proofs.LinesLaws.{front_then, may_stop_writing, reads_stop}
use Rattle.tg_script.proofs.PartLaws.{reads_at, run_scene, takes_bytes}

-- ---- the first line

abbrev IfNoneEmpty : Option Line → List ℕ → Type 0
IfNoneEmpty first rest = IfNone first (rest ≡ [])

-- there was one
waiting_reads : (first : Option Line) (s : Script) (bytes : List ℕ) → is_some first ≡ true → IsWaiting s first → (lines : List Line) (end : Option ScriptFault) (left : List ℕ) → ReadsCommands s bytes first lines end left → ReadsPartAfter first s bytes lines end left
waiting_reads None s bytes is waits lines end left h = absurd (false≢true is)
waiting_reads (Some l) s bytes is waits lines end left h =
    let P : Bool → Type 0 = λ b. Reads s.workers s.lines.room s.count b bytes h.0 end left in
    (h.0, h.1, subst P waits.1 h.2)

waiting_goes : (first : Option Line) (rest : List ℕ) → is_some first ≡ true → IfNoneEmpty first rest
waiting_goes None rest is = absurd (false≢true is)
waiting_goes (Some l) rest is = tt

pub first_there : {P : Type 0} (r : ScriptRun P) (bytes : List ℕ) → is_some r.begun.first ≡ true → IsWaiting r.begun.script r.begun.first → FirstCame r r bytes bytes
first_there r bytes is waits = record {
  reads = waiting_reads r.begun.first r.begun.script bytes is waits;
  further = λ more others end left h. h;
  room = refl;
  ended = waiting_goes r.begun.first bytes is;
}

-- there was none, and a fault was met
pub none_reads : (first : Option Line) (s : Script) (bytes : List ℕ) (lines : List Line) (end : Option ScriptFault) (left : List ℕ) → is_some first ≡ false → Reads s.workers s.lines.room s.count false bytes lines end left → ReadsPartAfter first s bytes lines end left
none_reads None s bytes lines end left is h = h
none_reads (Some l) s bytes lines end left is h = absurd (false≢true (sym is))

pub none_waits : (first : Option Line) (s : Script) → is_some first ≡ false → IsWaiting s first
none_waits None s is = tt
none_waits (Some l) s is = absurd (false≢true (sym is))

-- a line came, or the end
pub next_waits : (s t : Script) (next : Option Line) → s.opening ≡ false → IfSome next (λ l. Follows s l t) → IsWaiting t next
next_waits s t None closed follows = tt
next_waits s t (Some l) closed follows = next_command s l t closed follows

-- the script as it is read, with no edge line to come
abbrev pub closed : Script → Script
closed s = record s { opening = false }

next_reads : (s t : Script) (bytes rest : List ℕ) (next : Option Line) → s.opening ≡ false → IfSome next (λ l. Follows s l t) → NextLine s bytes (Ok next) t rest → (lines : List Line) (end : Option ScriptFault) (left : List ℕ) → ReadsCommands t rest next lines end left → Reads s.workers s.lines.room s.count false bytes lines end left
next_reads s t bytes rest None opening follows h lines None left reads =
    let R : Bool → Type 0 = λ b. Reads s.workers s.lines.room s.count b bytes [] None left in
    let L : List Line → Type 0 = λ x. Reads s.workers s.lines.room s.count false bytes x None left in
    subst L (sym reads.0) (subst R opening (h.0, reads.1 ∙ h.1))
next_reads s t bytes rest None opening follows h lines (Some f) left reads =
    let R : Bool → Type 0 = λ b. Reads s.workers s.lines.room s.count b bytes [] (Some fault.WriteFailed) rest in
    let F : ScriptFault → Type 0 = λ x. Reads s.workers s.lines.room s.count false bytes [] (Some x) rest in
    let E : List ℕ → Type 0 = λ x. Reads s.workers s.lines.room s.count false bytes [] (Some f) x in
    let L : List Line → Type 0 = λ x. Reads s.workers s.lines.room s.count false bytes x (Some f) left in
    let stop = reads_stop fault.WriteFailed may_stop_writing [] s.workers s.lines.room s.count s.opening bytes rest h in
    subst L (sym reads.0) (subst E (sym reads.1) (subst F (sym reads.2) (subst R opening stop)))
next_reads s t bytes rest (Some l) opening follows h lines end left reads =
    let R : Bool → Type 0 = λ b. Reads s.workers s.lines.room s.count b bytes (l ∷ reads.0) end left in
    let L : List Line → Type 0 = λ x. Reads s.workers s.lines.room s.count false bytes x end left in
    subst L (sym reads.1) (subst R opening (h reads.0 end left reads.2))

next_further : (s t : Script) (bytes rest : List ℕ) (next : Option Line) → s.opening ≡ false → IfSome next (λ l. Follows s l t) → PassesOn s next t → NextLine s bytes (Ok next) t rest → (more : List ℕ) (others : List Line) (end : Option ScriptFault) (left : List ℕ) → ReadsPartAfter next t (rest ++ more) others end left → Reads s.workers s.lines.room s.count false (bytes ++ more) others end left
next_further s t bytes rest None opening follows on h more others end left reads =
    let B : List ℕ → Type 0 = λ x. Reads s.workers s.lines.room s.count false (x ++ more) others end left in
    let T : List ℕ → Type 0 = λ x. Reads t.workers t.lines.room t.count false (x ++ more) others end left in
    subst B (sym h.0) (reads_at (closed s) (closed t) s.lines.room false more others end left on.0 on.1 refl s.count on.2 (subst T h.1 reads))
next_further s t bytes rest (Some l) opening follows on h more others end left reads =
    let taken = takes_bytes s t bytes rest l h follows on in
    let command = next_command s l t opening follows in
    let R : Bool → Type 0 = λ b. Reads s.workers s.lines.room s.count b (bytes ++ more) (l ∷ reads.0) end left in
    let T : Bool → Type 0 = λ b. Reads t.workers t.lines.room t.count b (rest ++ more) reads.0 end left in
    let L : List Line → Type 0 = λ x. Reads s.workers s.lines.room s.count false (bytes ++ more) x end left in
    subst L (sym reads.1) (subst R opening (taken.further more reads.0 end left (subst T (sym command.1) reads.2)))

next_room : (s t : Script) (bytes rest : List ℕ) (next : Option Line) → IfSome next (λ l. Follows s l t) → PassesOn s next t → NextLine s bytes (Ok next) t rest → t.lines.room + length bytes ≡ s.lines.room + length rest
next_room s t bytes rest None follows on h = omega (arith, on.1, ap length h.0, ap length h.1)
next_room s t bytes rest (Some l) follows on h = (takes_bytes s t bytes rest l h follows on).room

next_ended : (s t : Script) (bytes rest : List ℕ) (next : Option Line) → NextLine s bytes (Ok next) t rest → IfNoneEmpty next rest
next_ended s t bytes rest None h = h.1
next_ended s t bytes rest (Some l) h = tt

same_place : (s here : Script) (bytes : List ℕ) (lines : List Line) (end : Option ScriptFault) (left : List ℕ) → s.workers ≡ here.workers → s.lines.room ≡ here.lines.room → s.count ≡ here.count → Reads s.workers s.lines.room s.count false bytes lines end left → Reads here.workers here.lines.room here.count false bytes lines end left
same_place s here bytes lines end left workers rooms count h =
    let W : ℕ → Type 0 = λ x. Reads x s.lines.room s.count false bytes lines end left in
    let R : ℕ → Type 0 = λ x. Reads here.workers x s.count false bytes lines end left in
    let C : ℕ → Type 0 = λ x. Reads here.workers here.lines.room x false bytes lines end left in
    subst C count (subst R rooms (subst W workers h))

pub first_came : {P : Type 0} (old new : ScriptRun P) (s : Script) (bytes rest : List ℕ) → is_some old.begun.first ≡ false → IfSome new.begun.first (λ l. Follows s l new.begun.script) → PassesOn s new.begun.first new.begun.script → NextLine s bytes (Ok new.begun.first) new.begun.script rest
    → s.workers ≡ old.begun.script.workers → s.lines.room ≡ old.begun.script.lines.room → s.count ≡ old.begun.script.count → s.opening ≡ false → FirstCame old new bytes rest
first_came old new s bytes rest none follows on h workers rooms count opening =
    let here = old.begun.script in
    let t = new.begun.script in
    record {
      reads = λ lines end left reads. none_reads old.begun.first here bytes lines end left none (same_place s here bytes lines end left workers rooms count (next_reads s t bytes rest new.begun.first opening follows h lines end left reads));
      further = λ more others end left reads. none_reads old.begun.first here (bytes ++ more) others end left none (same_place s here (bytes ++ more) others end left workers rooms count (next_further s t bytes rest new.begun.first opening follows on h more others end left reads));
      room = next_room s t bytes rest new.begun.first follows on h ∙ ap (λ (n : ℕ). n + length rest) rooms;
      ended = next_ended s t bytes rest new.begun.first h;
    }

-- ---- the lines

-- by what is told of a fault
unbegun_told : {P : Type 0} (T : Type 0) (old new : ScriptRun P) (f : ScriptFault) (bytes before left : List ℕ) (after : Option (List ℕ)) (saw saw' : Option Bool) → GoesPart old new bytes (Some f) left [] [] → after ≡ Some (before ++ []) → PartRan {T = T} old new bytes before saw (Err f) left after saw'
unbegun_told T old new fault.WriteFailed bytes before left after saw saw' gone is = ([], [], [], [], gone, refl, is)
unbegun_told T old new f bytes before left after saw saw' gone is = ([], [], gone, is)

-- a part of which no line was read
pub part_unbegun : {P : Type 0} (T : Type 0) (old new : ScriptRun P) (f : ScriptFault) (bytes before left : List ℕ) (after : Option (List ℕ)) (saw saw' : Option Bool) → new.begun.run ≡ old.begun.run → ReadsPart old bytes [] (Some f) left → after ≡ Some before → PartRan {T = T} old new bytes before saw (Err f) left after saw'
part_unbegun T old new f bytes before left after saw saw' same reads is =
    let gone : GoesPart old new bytes (Some f) left [] [] = record {
      lines = [];
      reads = reads;
      answered = (refl, refl);
      legal = tt;
      entries = ap (λ r. r.store.entries) same ∙ sym (append-nil old.begun.run.store.entries);
      opening = ap (λ r. r.store.opening) same;
    } in
    unbegun_told T old new f bytes before left after saw saw' gone (is ∙ ap Some (sym (append-nil before)))

module _ {P : Type 0} (old mid new : ScriptRun P) (bytes rest : List ℕ) (came : FirstCame old mid bytes rest) (opening : new.begun.run.store.opening ≡ old.begun.run.store.opening) (begun : List Entry) (same : begun ≡ old.begun.run.store.entries) where
  abbrev goes_part : (end : Option ScriptFault) (left : List ℕ) (answers : List Answer) (es : List Entry) → LinesGone mid.begun.script rest (scene_in old) mid.begun.first end left answers es → new.begun.run.store.entries ≡ begun ++ es → GoesPart old new bytes end left answers es
  goes_part end left answers es gone had = record {
    lines = gone.lines;
    reads = came.reads gone.lines end left gone.reads;
    answered = gone.answered;
    legal = gone.legal;
    entries = had ∙ ap (λ (x : List Entry). x ++ es) same;
    opening = opening;
  }

  gone_first : (answers : List Answer) (es : List Entry) (end : Option ScriptFault) (left : List ℕ) (l : Line) → mid.begun.first ≡ Some l → LinesGone mid.begun.script rest (scene_in old) (Some l) end left answers es → LinesGone mid.begun.script rest (scene_in old) mid.begun.first end left answers es
  gone_first answers es end left l is gone = let F : Option Line → Type 0 = λ x. LinesGone mid.begun.script rest (scene_in old) x end left answers es in subst F (sym is) gone

  -- a fault was met
  pub part_fault : (T : Type 0) (f : ScriptFault) (before left : List ℕ) (after : Option (List ℕ)) (saw saw' : Option Bool) → IsLegalSince (scene_in old).graph begun new.begun.run.store.entries
      → (first : Option Line) → mid.begun.first ≡ first → TellsFirst {T = T} reply_of_line mid.begun.script rest (scene_in old) first begun before (Err f) left new.begun.run.store.entries after → PartRan {T = T} old new bytes before saw (Err f) left after saw'
  part_fault T f before left after saw saw' legal None is h = absurd (false≢true h.0)
  part_fault T fault.WriteFailed before left after saw saw' legal (Some l) is (inl h) =
      let k = gone_told false (Some fault.WriteFailed) mid.begun.script rest (scene_in old) l begun before left new.begun.run.store.entries after legal h in
      (k.0, k.1, flat_map answer_text k.0, [], goes_part (Some fault.WriteFailed) left k.0 k.1 (gone_first k.0 k.1 (Some fault.WriteFailed) left l is k.2) k.3, sym (append-nil (flat_map answer_text k.0)), k.4)
  part_fault T fault.WriteFailed before left after saw saw' legal (Some l) is (inr (front, es, stands, had, (lines, reads, behind, cut))) =
      let k = cut_by false (l ∷ lines) (scene_in old) front es cut in
      let gone : LinesGone mid.begun.script rest (scene_in old) (Some l) (Some fault.WriteFailed) left k.0 es = record { lines = l ∷ lines; reads = (lines, refl, reads); answered = k.2; legal = legal es had } in
      (k.0, es, front, k.1, goes_part (Some fault.WriteFailed) left k.0 es (gone_first k.0 es (Some fault.WriteFailed) left l is gone) had, k.3, stands)
  part_fault T f before left after saw saw' legal (Some l) is h =
      let k = gone_told false (Some f) mid.begun.script rest (scene_in old) l begun before left new.begun.run.store.entries after legal h.1 in
      (k.0, k.1, goes_part (Some f) left k.0 k.1 (gone_first k.0 k.1 (Some f) left l is k.2) k.3, k.4)

  -- all lines were run, and the next part goes on after them
  further_after : (first : Option Line) → mid.begun.first ≡ first → IsWaiting mid.begun.script first → (lines : List Line) (left : List ℕ) → ReadsCommands mid.begun.script rest first lines None left → new.begun.first ≡ None → PassedFrom first mid.begun.script new.begun.script rest → (es : List Entry)
      → scene_in new ≡ scene_after (scene_in old) es → IfNoneEmpty first rest → GoesFurther old new bytes lines es
  further_after None is waits lines left reads none passed es scene ended = record {
    scene = scene;
    further = λ more others end last h.
        let N : Option Line → Type 0 = λ x. ReadsPartAfter x new.begun.script more others end last in
        let S : Script → Type 0 = λ x. ReadsPartAfter None x more others end last in
        let E : List ℕ → Type 0 = λ x. ReadsPartAfter None mid.begun.script (x ++ more) others end last in
        let M : Option Line → Type 0 = λ x. ReadsPartAfter x mid.begun.script (rest ++ more) others end last in
        let L : List Line → Type 0 = λ x. ReadsPart old (bytes ++ more) (x ++ others) end last in
        subst L (sym reads.0) (came.further more others end last (subst M (sym is) (subst E (sym ended) (subst S passed (subst N none h)))));
    first = none;
    room = omega (arith, came.room, ap length ended, ap (λ (x : Script). x.lines.room) passed);
  }
  further_after (Some l) is waits lines left reads none passed es scene ended =
      let s = mid.begun.script in
      let t = new.begun.script in
      let all = passed.0 in
      let P : List ℕ → Type 0 = λ x. ReadsFrom s x (all.lines ++ []) None [] in
      let Q : List Line → Type 0 = λ x. ReadsFrom s rest x None [] in
      let again : ReadsFrom s rest all.lines None [] = subst Q (append-nil all.lines) (subst P (append-nil rest) (all.further [] [] None [] (refl, refl))) in
      let same = reads-same s.workers s.lines.room s.count s.opening rest reads.0 all.lines None None left [] reads.2 again tt tt in
      record {
        scene = scene;
        further = λ more others end last h.
            let N : Option Line → Type 0 = λ x. ReadsPartAfter x t more others end last in
            let T : Bool → Type 0 = λ b. Reads t.workers t.lines.room t.count b more others end last in
            let S : Bool → Type 0 = λ b. Reads s.workers s.lines.room s.count b (rest ++ more) (all.lines ++ others) end last in
            let M : Option Line → Type 0 = λ x. ReadsPartAfter x s (rest ++ more) (lines ++ others) end last in
            let are : lines ++ others ≡ l ∷ (all.lines ++ others) = ap (λ (x : List Line). x ++ others) (reads.1 ∙ ap (λ (x : List Line). l ∷ x) same.0) in
            came.further more (lines ++ others) end last (subst M (sym is) (all.lines ++ others, are, subst S waits.1 (all.further more others end last (subst T (sym passed.1) (subst N none h)))));
        first = none;
        room = omega (arith, came.room, all.room);
      }

-- all of it
module _ {P : Type 0} (old mid new : ScriptRun P) (bytes rest before : List ℕ) (known after : Option (List ℕ)) (saw saw' : Option Bool) (came : FirstCame old mid bytes rest) (run : mid.begun.run ≡ old.begun.run)
    (kept : new.begun.run.store.opening ≡ mid.begun.run.store.opening) (legal : IsLegalSince (scene_in old).graph mid.begun.run.store.entries new.begun.run.store.entries) (waits : IsWaiting mid.begun.script mid.begun.first) (none : new.begun.first ≡ None)
    (takes : TakesStock mid.begun.run new.begun.run) where
  opening_same : new.begun.run.store.opening ≡ old.begun.run.store.opening
  opening_same = kept ∙ ap (λ (r : Run P). r.store.opening) run

  entries_same : mid.begun.run.store.entries ≡ old.begun.run.store.entries
  entries_same = ap (λ (r : Run P). r.store.entries) run

  part_done : {T : Type 0} (done : T) (left : List ℕ) → PassedFrom mid.begun.first mid.begun.script new.begun.script rest → SeesTold reply_of_line mid.begun.script rest (scene_in old) mid.begun.first mid.begun.run.store.entries before left new.begun.run.store.entries after saw saw'
      → PartRan old new bytes before saw (Ok done) left after saw'
  part_done done left passed h =
      let k = gone_seen false mid.begun.script rest (scene_in old) mid.begun.first mid.begun.run.store.entries before left new.begun.run.store.entries after saw saw' legal h in
      let gone = goes_part old mid new bytes rest came opening_same mid.begun.run.store.entries entries_same None left k.0 k.1 k.2 k.3 in
      let S : Run P → Type 0 = λ r. TakesStock r new.begun.run in
      let scene = run_scene old.begun.run new.begun.run k.1 (subst S run takes) opening_same gone.entries in
      (k.0, k.1, gone, further_after old mid new bytes rest came opening_same mid.begun.run.store.entries entries_same mid.begun.first refl waits k.2.lines left k.2.reads none passed k.1 scene came.ended, k.4, k.5)

  pub part_ran : (r : Result (Unit {0}) ScriptFault) → ((last : List ℕ) × (known ≡ Some last) × TellsFirst reply_of_line mid.begun.script rest (scene_in old) mid.begun.first mid.begun.run.store.entries before r last new.begun.run.store.entries after)
      → OnOk r ((last : List ℕ) × (known ≡ Some last) × SeesTold reply_of_line mid.begun.script rest (scene_in old) mid.begun.first mid.begun.run.store.entries before last new.begun.run.store.entries after saw saw')
      → OnOk r (PassedFrom mid.begun.first mid.begun.script new.begun.script rest) → (last : List ℕ) × (known ≡ Some last) × PartRan old new bytes before saw r last after saw'
  part_ran (Ok done) told seen passed = (seen.0, seen.1, part_done done seen.0 passed seen.2)
  part_ran (Err f) told seen passed =
      (told.0, told.1, part_fault old mid new bytes rest came opening_same mid.begun.run.store.entries entries_same (Unit {0}) f before told.0 after saw saw' legal mid.begun.first refl told.2)

-- ---- an opening

pub after_edges : (workers : ℕ) (bytes rest : List ℕ) (edges : List Edge) (first : Option Line) (s : Script) → IsWaiting s first → ReadsFirst workers bytes (edge_lines edges) first s rest → ReadsAfterEdges workers bytes edges first s rest
after_edges workers bytes rest edges None s waits h = h
after_edges workers bytes rest edges (Some l) s waits h = λ lines end left reads.
    let S : Bool → Type 0 = λ b. Reads s.workers s.lines.room s.count b rest reads.0 end left in
    let L : List Line → Type 0 = λ x. ReadsScript workers bytes (edge_lines edges ++ x) end left in
    subst L (sym reads.1) (front_then workers s bytes rest (edge_lines edges) l reads.0 end left h (subst S (sym waits.1) reads.2))

-- a script of which nothing was read
pub starts_reading : (s : Script) → IsNewScript s 0 → (bytes : List ℕ) (lines : List Line) (end : Option ScriptFault) (left : List ℕ) → Reads s.workers s.lines.room s.count false bytes lines end left → Reads 0 MOST_BYTES 0 false bytes lines end left
starts_reading s fresh bytes lines end left h =
    let A : ℕ → Type 0 = λ x. Reads x s.lines.room s.count false bytes lines end left in
    let B : ℕ → Type 0 = λ x. Reads 0 x s.count false bytes lines end left in
    let C : ℕ → Type 0 = λ x. Reads 0 MOST_BYTES x false bytes lines end left in
    subst C fresh.count (subst B fresh.room (subst A fresh.workers h))
