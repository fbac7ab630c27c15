-- What was written for the whole of a script.
use mathlib.Core.Bool.{false≢true}
use Rattle.std.specs.Prelude.{IsOk}
use Rattle.std.proofs.Common.{◌≡◌, ◌≢◌, inl, inr, ℕ, true, List, [], ◌∷◌, ◌++◌, length, Option, Some, None, Result, Ok, Err, refl, sym, ap, ◌∙◌, subst, ⊎_elim, arith, append_assoc, append-nil}
use Rattle.tg_model.specs.declared.edge.Edge.{Edge}
use Rattle.tg_model.specs.Opened.{Plan, HasLimits}
use Rattle.tg_text.specs.declared.line.Line.{Line}
use Rattle.tg_text.specs.declared.line.Line.TheVariants as line
use Rattle.tg_text.specs.declared.fault.ScriptFault.{ScriptFault}
use Rattle.tg_text.specs.declared.fault.ScriptFault.TheVariants as fault
use Rattle.tg_script.specs.declared.script.Script.{Script}
use Rattle.tg_text.specs.Sinks.{KeepsBytes}
use Rattle.tg_text.specs.Reading.{ReadsScript}
use Rattle.tg_text.specs.declared.fetch.TheConstants.{MOST_BYTES}
use Rattle.tg_script.specs.Script.{IsAdmissible, IsCut, Start, HasRoomForWorkers, CanOpen, edges_of, commands_of, scene_of}
use Rattle.tg_script.specs.Lines.{ReadsFrom, IsRestAfter, IsOfKeeping}
use Rattle.tg_script.specs.Opening.{IsCommand, edge_lines, OpensStore}
use Rattle.tg_script.specs.Inner.Beginning.{IsBehindEdges, ReadsFirst, ReadsFront, StopsAtEdges, Unbegun, scene_with}
use Rattle.tg_journal.specs.declared.entry.Entry.{Entry}
use Rattle.tg_script.specs.Running.{AddsOutput, IsUnopened, IsUnkept, IsCutOff, Ran, Finishes}
use Rattle.tg_script.specs.Inner.Telling.{StandsTold, StandsCut, TellsAll, TellsFirst, reply_of_line}
use Rattle.tg_script.proofs.TellLaws.{replies_admissible, replies_cut}
use Rattle.tg_script.proofs.LinesLaws.{MayStop, front_all, front_then, reads_stop, reads_end, reads_behind, behind-append, may_stop_writing, keeps_known}

-- ---- edge lines alone

pub commands_of-edges : (edges : List Edge) → commands_of (edge_lines edges) ≡ []
commands_of-edges [] = refl
commands_of-edges (e ∷ edges) = commands_of-edges edges

edges_written : (start : Start) (bytes before : List ℕ) (edges : List Edge) (end : Option ScriptFault) (left : List ℕ) (after : Option (List ℕ)) → ReadsScript start.workers bytes (edge_lines edges) end left → after ≡ Some before → AddsOutput start bytes before end left after
edges_written start bytes before edges end left after h same =
    let none = commands_of-edges edges in
    let P : List Line → Type 0 = λ x. IsAdmissible (scene_of start (edge_lines edges)) x 0 [] in
    ([], same ∙ ap Some (sym (append-nil before)), (edge_lines edges, 0, h, inl none, subst P (sym none) (refl, refl)))

-- there was no memory for an edge
edges_unkept_whole : (start : Start) (bytes : List ℕ) (edges : List Edge) (left : List ℕ) → edges ≢ [] → ReadsScript start.workers bytes (edge_lines edges) (Some fault.OutOfMemory) left → IsUnkept start bytes left
edges_unkept_whole start bytes [] left some h = absurd (some refl)
edges_unkept_whole start bytes (e ∷ edges) left some h =
    let none : edge_lines (e ∷ edges) ≢ [] = λ same. cc in
    (edge_lines (e ∷ edges), h, none, commands_of-edges edges)

-- ---- edge lines and others

pub edges_of-front : (edges : List Edge) (l : Line) (lines : List Line) → IsCommand l → edges_of (edge_lines edges ++ l ∷ lines) ≡ edges
edges_of-front [] (line.Edge e) lines command = absurd (false≢true command.0)
edges_of-front (e ∷ edges) l lines command = ap (λ x. e ∷ x) (edges_of-front edges l lines command)
edges_of-front [] l lines command = refl

pub commands_of-front : (edges : List Edge) (l : Line) (lines : List Line) → IsCommand l → commands_of (edge_lines edges ++ l ∷ lines) ≡ l ∷ lines
commands_of-front [] (line.Edge e) lines command = absurd (false≢true command.0)
commands_of-front (e ∷ edges) l lines command = commands_of-front edges l lines command
commands_of-front [] l lines command = refl

-- ---- the store is not opened

unopened : (start : Start) (t : Script) (bytes rest : List ℕ) (edges : List Edge) (first : Option Line) (f : ScriptFault) → IsBehindEdges t first → ReadsFirst start.workers bytes (edge_lines edges) first t rest → MayStop f → IsUnopened start bytes f rest
unopened start t bytes rest edges None f command h stop =
    let lines = edge_lines edges in
    (lines, reads_stop f stop lines start.workers MOST_BYTES 0 true bytes rest h, inr (commands_of-edges edges, reads_end lines start.workers MOST_BYTES 0 true bytes rest h))
unopened start t bytes rest edges (Some l) f command h stop =
    let lines = edge_lines edges ++ l ∷ [] in
    (lines, front_all start.workers t bytes rest lines (Some f) rest h (stop t.workers t.lines.room t.count t.opening rest), inl (ap length (commands_of-front edges l [] command.0)))

-- whether there is room for the workers is told by the plan
room_of : (p : Plan) (start : Start) → p.workers ≡ start.workers → p.limit ≡ start.limit → HasLimits p → HasRoomForWorkers start
room_of p start workers limit h = (omega (arith, h.0, limit), omega (arith, h.1, limit), omega (arith, h.2, workers, limit))

-- a fault came at the edge lines
pub unbegun_edges : (f : ScriptFault) (start : Start) (bytes left : List ℕ) → IsOfKeeping f → StopsAtEdges start.workers bytes f left → Unbegun start bytes f left
unbegun_edges fault.OutOfMemory start bytes left met h = inl h
unbegun_edges fault.HeapFull start bytes left met h = let no : ⊥ = ⊎_elim (λ (n : ⊥). n) (λ (e : fault.HeapFull ≡ fault.OutOfMemory). cc) met in absurd no
unbegun_edges fault.BadLimits start bytes left met h = let no : ⊥ = ⊎_elim (λ (n : ⊥). n) (λ (e : fault.BadLimits ≡ fault.OutOfMemory). cc) met in absurd no
unbegun_edges f start bytes left met h = h

-- the store wasn't opened after them
pub unbegun_store : (p : Plan) (f : ScriptFault) (start : Start) (t : Script) (bytes rest : List ℕ) (edges : List Edge) (first : Option Line) → p.workers ≡ start.workers → p.limit ≡ start.limit → OpensStore p start.blocks (Err f) → IsBehindEdges t first → ReadsFirst start.workers bytes (edge_lines edges) first t rest → Unbegun start bytes f rest
unbegun_store p fault.OutOfMemory start t bytes rest edges first workers limit h command reads =
    inr (room_of p start workers limit h, unopened start t bytes rest edges first fault.OutOfMemory command reads (λ w r c o b. refl))
unbegun_store p fault.HeapFull start t bytes rest edges first workers limit h command reads =
    (room_of p start workers limit h.0, omega (arith, h.1, workers), unopened start t bytes rest edges first fault.HeapFull command reads (λ w r c o b. refl))
unbegun_store p fault.BadLimits start t bytes rest edges first workers limit h command reads =
    ((λ room. h (omega (arith, room.0, limit), omega (arith, room.1, limit), omega (arith, room.2, workers, limit))), unopened start t bytes rest edges first fault.BadLimits command reads (λ w r c o b. refl))
unbegun_store p f start t bytes rest edges first workers limit h command reads = absurd h

pub ran_unbegun : (T : Type 0) (f : ScriptFault) (start : Start) (bytes before left : List ℕ) (after : Option (List ℕ)) → Unbegun start bytes f left → after ≡ Some before → Ran {T = T} start bytes before (Err f) left after
ran_unbegun T fault.WriteFailed start bytes before left after h same = inl (edges_written start bytes before h.edges (Some fault.WriteFailed) left after h.reads same)
ran_unbegun T fault.OutOfMemory start bytes before left after (inl h) same = (inl (edges_unkept_whole start bytes h.edges left (h.some refl) h.reads), same)
ran_unbegun T fault.OutOfMemory start bytes before left after (inr h) same = (inr h, same)
ran_unbegun T fault.HeapFull start bytes before left after h same = (h.0, h.1, h.2, same)
ran_unbegun T fault.BadLimits start bytes before left after h same = (h.0, h.1, same)
ran_unbegun T f start bytes before left after h same = edges_written start bytes before h.edges (Some f) left after h.reads same

-- ---- the store is opened

-- the lines of a script are these edge lines, and these after them
pub record AreParts (start : Start) (bytes : List ℕ) (edges : List Edge) (commands : List Line) (end : Option ScriptFault) (left : List ℕ) : Type 0 where
  pub lines : List Line
  pub reads : ReadsScript start.workers bytes lines end left
  pub commands_are : commands_of lines ≡ commands
  pub edges_are : edges_of lines ≡ edges

pub parts_of : (start : Start) (t : Script) (bytes rest : List ℕ) (edges : List Edge) (l : Line) (more : List Line) (end : Option ScriptFault) (left : List ℕ) → IsCommand l → ReadsFront start.workers bytes (edge_lines edges ++ l ∷ []) t rest → ReadsFrom t rest more end left → AreParts start bytes edges (l ∷ more) end left
parts_of start t bytes rest edges l more end left command front h = record {
  lines = edge_lines edges ++ l ∷ more;
  reads = front_then start.workers t bytes rest (edge_lines edges) l more end left front h;
  commands_are = commands_of-front edges l more command;
  edges_are = edges_of-front edges l more command;
}

told_written : (start : Start) (t : Script) (bytes rest : List ℕ) (edges : List Edge) (l : Line) (before : List ℕ) (end : Option ScriptFault) (left : List ℕ) (begun entries : List Entry) (after : Option (List ℕ)) → CanOpen start → IsCommand l → ReadsFront start.workers bytes (edge_lines edges ++ l ∷ []) t rest → StandsTold reply_of_line t rest (scene_with start edges) l begun before end left entries after → AddsOutput start bytes before end left after
told_written start t bytes rest edges l before end left begun entries after can command front (text, es, stands, had, (lines, reads, tells)) =
    let parts = parts_of start t bytes rest edges l lines end left command front reads in
    let told = replies_admissible (l ∷ lines) (scene_with start edges) text es tells in
    let Q : List Edge → Type 0 = λ x. IsAdmissible (scene_with start x) (commands_of parts.lines) told.0 text in
    let R : List Line → Type 0 = λ x. IsAdmissible (scene_with start edges) x told.0 text in
    (text, stands, (parts.lines, told.0, parts.reads, inr can, subst Q (sym parts.edges_are) (subst R (sym parts.commands_are) told.1)))

-- a reply was cut off
cut_off : (start : Start) (t : Script) (bytes rest : List ℕ) (edges : List Edge) (l : Line) (before left : List ℕ) (begun entries : List Entry) (after : Option (List ℕ)) → CanOpen start → IsCommand l → ReadsFront start.workers bytes (edge_lines edges ++ l ∷ []) t rest → StandsCut reply_of_line t rest (scene_with start edges) l begun before left entries after → IsCutOff start bytes before left after
unfolding parts_of
cut_off start t bytes rest edges l before left begun entries after can command reads (front, es, stands, had, (more, more_reads, behind, cuts)) =
    let parts = parts_of start t bytes rest edges l more (Some fault.WriteFailed) left command reads more_reads in
    let first = edge_lines edges ++ l ∷ [] in
    let begins = reads_behind first start.workers MOST_BYTES 0 true bytes rest (front_all start.workers t bytes rest first (Some fault.OutOfMemory) rest reads refl) in
    let B : List Line → Type 0 = λ x. IsRestAfter x bytes left in
    let Q : List Edge → Type 0 = λ x. IsCut (scene_with start x) (commands_of parts.lines) front in
    let R : List Line → Type 0 = λ x. IsCut (scene_with start edges) x front in (
      parts.lines,
      front,
      parts.reads,
      subst B (append_assoc (edge_lines edges) (l ∷ []) more) (behind-append first more bytes rest left begins behind),
      can,
      subst Q (sym parts.edges_are) (subst R (sym parts.commands_are) (replies_cut (l ∷ more) (scene_with start edges) front es cuts)),
      stands,
    )

ran_commands : {T : Type 0} (r : Result T ScriptFault) (start : Start) (t : Script) (bytes rest : List ℕ) (edges : List Edge) (l : Line) (before left : List ℕ) (begun entries : List Entry) (after : Option (List ℕ)) → CanOpen start → IsCommand l → ReadsFront start.workers bytes (edge_lines edges ++ l ∷ []) t rest → TellsAll reply_of_line t rest (scene_with start edges) l begun before r left entries after → Ran start bytes before r left after
ran_commands (Ok done) start t bytes rest edges l before left begun entries after can command front h = (can, told_written start t bytes rest edges l before None left begun entries after can command front h)
ran_commands (Err fault.WriteFailed) start t bytes rest edges l before left begun entries after can command front (inl h) =
    inl (told_written start t bytes rest edges l before (Some fault.WriteFailed) left begun entries after can command front h)
ran_commands (Err fault.WriteFailed) start t bytes rest edges l before left begun entries after can command front (inr h) =
    inr (cut_off start t bytes rest edges l before left begun entries after can command front h)
ran_commands (Err fault.OutOfMemory) start t bytes rest edges l before left begun entries after can command front h = absurd h.0
ran_commands (Err fault.HeapFull) start t bytes rest edges l before left begun entries after can command front h = absurd h.0
ran_commands (Err fault.BadLimits) start t bytes rest edges l before left begun entries after can command front h = absurd h.0
ran_commands (Err f) start t bytes rest edges l before left begun entries after can command front h = told_written start t bytes rest edges l before (Some f) left begun entries after can command front h.1

-- the lines were run, where there is one after the edges
pub ran_first : {T : Type 0} (r : Result T ScriptFault) (start : Start) (t : Script) (bytes rest : List ℕ) (edges : List Edge) (first : Option Line) (before left : List ℕ) (begun entries : List Entry) (after : Option (List ℕ)) → CanOpen start → IsBehindEdges t first → ReadsFirst start.workers bytes (edge_lines edges) first t rest → TellsFirst reply_of_line t rest (scene_with start edges) first begun before r left entries after → Ran start bytes before r left after
ran_first (Err f) start t bytes rest edges None before left begun entries after can command reads h = absurd (false≢true h.0)
ran_first (Ok done) start t bytes rest edges None before left begun entries after can command reads h =
    (can, edges_written start bytes before edges None left after (subst (λ (x : List ℕ). ReadsScript start.workers bytes (edge_lines edges) None x) (sym h.1) reads) h.3)
ran_first r start t bytes rest edges (Some l) before left begun entries after can command reads h =
    ran_commands r start t bytes rest edges l before left begun entries after can command.0 reads h

-- ---- the sink is finished

written_keeps : (start : Start) (bytes before : List ℕ) (end : Option ScriptFault) (left : List ℕ) (mid after : Option (List ℕ)) → AddsOutput start bytes before end left mid → KeepsBytes mid after → AddsOutput start bytes before end left after
written_keeps start bytes before end left mid after h keeps = (h.0, keeps_known mid after (before ++ h.0) h.1 keeps, h.2)

pub ran_keeps : {T : Type 0} (r : Result T ScriptFault) (start : Start) (bytes before left : List ℕ) (mid after : Option (List ℕ)) → Ran start bytes before r left mid → KeepsBytes mid after → Ran start bytes before r left after
ran_keeps (Ok done) start bytes before left mid after h keeps = (h.0, written_keeps start bytes before None left mid after h.1 keeps)
ran_keeps (Err fault.WriteFailed) start bytes before left mid after (inl h) keeps = inl (written_keeps start bytes before (Some fault.WriteFailed) left mid after h keeps)
ran_keeps (Err fault.WriteFailed) start bytes before left mid after (inr h) keeps =
    inr (h.0, h.1, h.2, h.3, h.4, h.5, keeps_known mid after (before ++ h.1) h.6 keeps)
ran_keeps (Err fault.OutOfMemory) start bytes before left mid after h keeps = (h.0, keeps_known mid after before h.1 keeps)
ran_keeps (Err fault.HeapFull) start bytes before left mid after h keeps = (h.0, h.1, h.2, keeps_known mid after before h.3 keeps)
ran_keeps (Err fault.BadLimits) start bytes before left mid after h keeps = (h.0, h.1, keeps_known mid after before h.2 keeps)
ran_keeps (Err f) start bytes before left mid after h keeps = written_keeps start bytes before (Some f) left mid after h keeps

-- the whole text was written, but the sink was not finished
ran_unfinished : {T : Type 0} (r : Result T ScriptFault) (start : Start) (bytes before left : List ℕ) (mid after : Option (List ℕ)) → IsOk r → Ran start bytes before r left mid → KeepsBytes mid after → Ran {T = T} start bytes before (Err fault.WriteFailed) left after
ran_unfinished (Err f) start bytes before left mid after fine h keeps = absurd (false≢true fine)
ran_unfinished (Ok done) start bytes before left mid after fine (can, h) keeps =
    inl (
      h.0,
      keeps_known mid after (before ++ h.0) h.1 keeps,
      (h.2.0, h.2.1, reads_stop fault.WriteFailed may_stop_writing h.2.0 start.workers 1048576 0 true bytes left h.2.2, h.2.3, h.2.4),
    )

pub ran_finished : {T : Type 0} (outcome r : Result T ScriptFault) (start : Start) (bytes before left : List ℕ) (mid after : Option (List ℕ)) (f g : ℕ) → Ran start bytes before outcome left mid → Finishes mid f outcome r after g → Ran start bytes before r left after
ran_finished outcome r start bytes before left mid after f g h (keeps, inl same) =
    subst (λ x. Ran start bytes before x left after) (sym same.0) (ran_keeps outcome start bytes before left mid after h keeps)
ran_finished outcome r start bytes before left mid after f g h (keeps, inr failed) =
    subst (λ x. Ran start bytes before x left after) (sym failed.1) (ran_unfinished outcome start bytes before left mid after failed.0 h keeps)
