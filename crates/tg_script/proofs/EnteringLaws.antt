-- What was written for the whole of a script whose entries are written.
use Rattle.std.specs.Prelude.{IsOk}
use Rattle.std.proofs.Common.{◌≡◌, ◌≤◌, inl, inr, ℕ, List, [], ◌∷◌, ◌++◌, length, drop, true, option_to_list, Option, Some, None, Result, Ok, Err, refl, sym, ap, ◌∙◌, subst, arith, append_assoc, append-nil}
use Rattle.std.proofs.lemmas.Bool.{false≢true}
use Rattle.std.proofs.Math.Seq.{drop-append_seam}
use Rattle.std.specs.List.{flat_map}
use Rattle.tg_model.specs.declared.edge.Edge.{Edge}
use Rattle.tg_model.specs.Graph.{ProtectionGraph}
use Rattle.tg_model.specs.Opened.{Plan, IsPlan}
use Rattle.tg_journal.specs.declared.entry.Entry.{Entry}
use Rattle.tg_journal.specs.History.{IsLegal, graph_after}
use Rattle.tg_store.specs.Origin.{Origin, start_at}
use Rattle.tg_text.specs.declared.line.Line.{Line}
use Rattle.tg_text.specs.declared.fault.ScriptFault.{ScriptFault}
use Rattle.tg_text.specs.declared.fault.ScriptFault.TheVariants as fault
use Rattle.tg_text.specs.Reading.{ReadsScript}
use Rattle.tg_text.specs.Sinks.{KeepsBytes, Wrote, WroteSome}
use Rattle.tg_entries.specs.Texts.{end_text, entry_text, head_text, history_text}
use Rattle.tg_script.specs.declared.script.Script.{Script}
use Rattle.tg_script.specs.Entering.{AreEntered, EntersScript, RanEntering, StandsEntered, plan_of, unended_text}
use Rattle.tg_script.specs.Lines.{IsOfReading, ReadsFrom}
use Rattle.tg_script.specs.Opening.{edge_lines}
use Rattle.tg_script.specs.Inner.Beginning.{IsBehindEdges, ReadsFirst, Unbegun, plan_with, scene_with}
use Rattle.tg_text.specs.declared.fetch.TheConstants.{MOST_BYTES}
use Rattle.tg_script.specs.Running.{Finishes}
use Rattle.tg_script.specs.Script.{CanOpen, MayAnswer, Scene, Start, commands_of, edges_of}
use Rattle.tg_script.specs.Inner.Telling.{AreLegal, EntersAll, ReadsCommands, StandsTold, TellsFirst, entry_of_line}
use Rattle.tg_script.proofs.LinesLaws.{keeps_known, may_stop_writing, reads_stop}
use Rattle.tg_script.proofs.RanLaws.{AreParts, commands_of-edges, parts_of, ran_unbegun}
use Rattle.tg_script.proofs.TellLaws.{entries_cut, entries_told}

-- ---- the entries that a line made

-- after as many entries as there were stand those that were made since
pub held_since : (before made entries : List Entry) (first : ℕ) → entries ≡ before ++ made → first ≡ length before → drop first entries ≡ made
held_since before made entries first is all = ap (λ (n : ℕ). drop n entries) all ∙ ap (drop (length before)) is ∙ drop-append_seam before made

-- ---- the lines, behind the opening

-- the lines from the first on that is no edge line, and their entries, of which the texts are after the opening's
pub record HasEntries (s : Script) (bytes : List ℕ) (t : Scene) (first : Option Line) (p : Plan) (before left : List ℕ) (entries : List Entry) (after : Option (List ℕ)) : Type 0 where
  pub lines : List Line
  pub reads : ReadsCommands s bytes first lines None left
  pub legal : AreLegal t lines entries
  pub stands : after ≡ Some (before ++ (head_text p ++ flat_map entry_text entries))

-- the text is after the opening's
behind_head : (before head text : List ℕ) (es : List Entry) (after : Option (List ℕ)) → after ≡ Some ((before ++ head) ++ text) → text ≡ flat_map entry_text es → after ≡ Some (before ++ (head ++ flat_map entry_text es))
behind_head before head text es after stands is =
    stands ∙ ap Some (append_assoc before head text) ∙ ap (λ (x : List ℕ). Some (before ++ (head ++ x))) is

-- all entries are those of the lines, where there was none before
same_entries : (begun es entries : List Entry) → begun ≡ [] → entries ≡ begun ++ es → entries ≡ es
same_entries begun es entries none is = is ∙ ap (λ (x : List Entry). x ++ es) none

has_told : (end : Option ScriptFault) (s : Script) (bytes : List ℕ) (t : Scene) (l : Line) (p : Plan) (begun : List Entry) (before left : List ℕ) (entries : List Entry) (after : Option (List ℕ)) → begun ≡ [] → IsLegal t.graph entries → StandsTold entry_of_line s bytes t l begun (before ++ head_text p) end left entries after →
    (lines : List Line) × ReadsFrom s bytes lines end left × AreLegal t (l ∷ lines) entries × (after ≡ Some (before ++ (head_text p ++ flat_map entry_text entries)))
has_told end s bytes t l p begun before left entries after none legal h =
    let k = entries_told (l ∷ h.4.0) t h.0 h.1 h.4.2 in
    let is = same_entries begun h.1 entries none h.3 in (
      h.4.0,
      h.4.1,
      (subst (λ (x : List Entry). AreEntered t (l ∷ h.4.0) x) (sym is) k.0, legal),
      subst (λ (x : List Entry). after ≡ Some (before ++ (head_text p ++ flat_map entry_text x))) (sym is) (behind_head before (head_text p) h.0 h.1 after h.2 k.1),
    )

-- no fault was met
pub has_entries : {T : Type 0} (r : Result T ScriptFault) (s : Script) (bytes : List ℕ) (t : Scene) (first : Option Line) (p : Plan) (begun : List Entry) (before left : List ℕ) (entries : List Entry) (after : Option (List ℕ)) → IsOk r → begun ≡ [] → IsLegal t.graph entries → TellsFirst entry_of_line s bytes t first begun (before ++ head_text p) r left entries after → HasEntries s bytes t first p before left entries after
has_entries (Err f) s bytes t first p begun before left entries after fine none legal h = absurd (false≢true fine)
has_entries (Ok done) s bytes t None p begun before left entries after fine none legal h =
    let is : entries ≡ [] = h.2 ∙ none in
    record {
      lines = [];
      reads = (refl, h.1);
      legal = (is, legal);
      stands = h.3 ∙ ap Some (sym (append-nil (before ++ head_text p)) ∙ append_assoc before (head_text p) []) ∙ ap (λ (x : List Entry). Some (before ++ (head_text p ++ flat_map entry_text x))) (sym is);
    }
has_entries (Ok done) s bytes t (Some l) p begun before left entries after fine none legal h =
    let k = has_told None s bytes t l p begun before left entries after none legal h in
    record { lines = l ∷ k.0; reads = (k.0, refl, k.1); legal = k.2; stands = k.3 }

-- the text was cut short, and tells something of each line that was read
cut_short : (T : Type 0) (s : Script) (bytes : List ℕ) (t : Scene) (first : Option Line) (p : Plan) (before left : List ℕ) (after : Option (List ℕ)) (lines : List Line) (es : List Entry) (front rest : List ℕ) → ReadsCommands s bytes first lines (Some fault.WriteFailed) left → AreLegal t lines es → history_text p es ≡ front ++ rest → after ≡ Some (before ++ front) → EntersAll {T = T} s bytes t first p before (Err fault.WriteFailed) left after
cut_short T s bytes t first p before left after lines es front rest reads legal cut stands =
    (lines, [], es, front, rest, subst (λ (x : List Line). ReadsCommands s bytes first x (Some fault.WriteFailed) left) (sym (append-nil lines)) reads, omega arith, legal, cut, stands)

-- a fault was met in reading
reading_stands : (U : Type 0) (f : ScriptFault) (s : Script) (bytes : List ℕ) (t : Scene) (l : Line) (p : Plan) (begun : List Entry) (before left : List ℕ) (entries : List Entry) (after : Option (List ℕ)) → begun ≡ [] → IsLegal t.graph entries → IsOfReading f × StandsTold entry_of_line s bytes t l begun (before ++ head_text p) (Some f) left entries after →
    IsOfReading f × (lines : List Line) × (es : List Entry) × ReadsCommands s bytes (Some l) lines (Some f) left × AreLegal t lines es × (after ≡ Some (before ++ unended_text p lines es))
reading_stands U f s bytes t l p begun before left entries after none legal h =
    let k = has_told (Some f) s bytes t l p begun before left entries after none legal h.1 in
    (h.0, l ∷ k.0, entries, (k.0, refl, k.1), k.2, k.3)

pub enters_fault : (T : Type 0) (f : ScriptFault) (s : Script) (bytes : List ℕ) (t : Scene) (first : Option Line) (p : Plan) (begun : List Entry) (before left : List ℕ) (entries : List Entry) (after : Option (List ℕ)) → begun ≡ [] → IsLegal t.graph entries → TellsFirst {T = T} entry_of_line s bytes t first begun (before ++ head_text p) (Err f) left entries after → EntersAll {T = T} s bytes t first p before (Err f) left after
enters_fault T f s bytes t None p begun before left entries after none legal h = absurd (false≢true h.0)
enters_fault T fault.WriteFailed s bytes t (Some l) p begun before left entries after none legal (inl h) =
    let k = has_told (Some fault.WriteFailed) s bytes t l p begun before left entries after none legal h in
    cut_short T s bytes t (Some l) p before left after (l ∷ k.0) entries (head_text p ++ flat_map entry_text entries) (end_text (length entries)) (k.0, refl, k.1) k.2 refl k.3
enters_fault T fault.WriteFailed s bytes t (Some l) p begun before left entries after none legal (inr h) =
    let lines = h.4.0 in
    let k = entries_cut (l ∷ lines) t h.0 h.1 h.4.3 in
    let is = same_entries begun h.1 entries none h.3 in
    let head = head_text p in
    let end = end_text (length entries) in
    let cut : flat_map entry_text entries ≡ h.0 ++ k.1 = ap (flat_map entry_text) is ∙ k.2 in
    cut_short T s bytes t (Some l) p before left after (l ∷ lines) entries (head ++ h.0) (k.1 ++ end) (lines, refl, h.4.1) (subst (λ (x : List Entry). AreEntered t (l ∷ lines) x) (sym is) k.0, legal)
    (ap (λ (x : List ℕ). (head ++ x) ++ end) cut ∙ ap (λ (x : List ℕ). x ++ end) (sym (append_assoc head h.0 k.1)) ∙ append_assoc (head ++ h.0) k.1 end)
    (h.2 ∙ ap Some (append_assoc before head h.0))
enters_fault T fault.OutOfMemory s bytes t (Some l) p begun before left entries after none legal h = absurd h.0
enters_fault T fault.HeapFull s bytes t (Some l) p begun before left entries after none legal h = absurd h.0
enters_fault T fault.BadLimits s bytes t (Some l) p begun before left entries after none legal h = absurd h.0
enters_fault T f s bytes t (Some l) p begun before left entries after none legal h = reading_stands T f s bytes t l p begun before left entries after none legal h

-- ---- the opening in front, and the end behind

-- no line after the opening was read, but the first that had come
none_told : (s : Script) (bytes : List ℕ) (first : Option Line) → ReadsCommands s bytes first (option_to_list first) (Some fault.WriteFailed) bytes × (length (option_to_list first) ≤ 1)
none_told s bytes None = ((refl, refl, refl), omega arith)
none_told s bytes (Some l) = (([], refl, may_stop_writing s.workers s.lines.room s.count s.opening bytes), omega arith)

-- the opening was cut short
pub enters_opening_cut : (T : Type 0) (s : Script) (bytes : List ℕ) (t : Scene) (first : Option Line) (p : Plan) (before : List ℕ) (after : Option (List ℕ)) → WroteSome (Some before) (head_text p) after → EntersAll {T = T} s bytes t first p before (Err fault.WriteFailed) bytes after
enters_opening_cut T s bytes t first p before after (front, rest, cut, stands) =
    let end = end_text 0 in
    let none = none_told s bytes first in (
      [],
      option_to_list first,
      [],
      front,
      rest ++ end,
      none.0,
      none.1,
      (refl, tt),
      ap (λ (x : List ℕ). x ++ end) (append-nil (head_text p) ∙ cut) ∙ append_assoc front rest end,
      stands,
    )

-- the end was written
pub enters_done : {T : Type 0} (done : T) (s : Script) (bytes : List ℕ) (t : Scene) (first : Option Line) (p : Plan) (before left : List ℕ) (entries : List Entry) (mid after : Option (List ℕ)) → IsPlan p → HasEntries s bytes t first p before left entries mid → Wrote mid (end_text (length entries)) after → EntersAll {T = T} s bytes t first p before (Ok done) left after
enters_done done s bytes t first p before left entries mid after plan h wrote =
    let end = end_text (length entries) in
    let text = head_text p ++ flat_map entry_text entries in
    let w : after ≡ Some ((before ++ text) ++ end) = subst (λ (x : Option (List ℕ)). Wrote x end after) h.stands wrote in
    (h.lines, entries, h.reads, h.legal, plan, w ∙ ap Some (append_assoc before text end))

-- no line is left to be told
pub stops_writing : (s : Script) (bytes : List ℕ) (first : Option Line) (lines : List Line) (left : List ℕ) → ReadsCommands s bytes first lines None left → ReadsCommands s bytes first lines (Some fault.WriteFailed) left
stops_writing s bytes None lines left h = (h.0, h.1, refl)
stops_writing s bytes (Some l) lines left h =
    (h.0, h.1, reads_stop fault.WriteFailed may_stop_writing h.0 s.workers s.lines.room s.count s.opening bytes left h.2)

-- the end was cut short
pub enters_end_cut : (T : Type 0) (s : Script) (bytes : List ℕ) (t : Scene) (first : Option Line) (p : Plan) (before left : List ℕ) (entries : List Entry) (mid after : Option (List ℕ)) → HasEntries s bytes t first p before left entries mid → WroteSome mid (end_text (length entries)) after → EntersAll {T = T} s bytes t first p before (Err fault.WriteFailed) left after
enters_end_cut T s bytes t first p before left entries mid after h wrote =
    let end = end_text (length entries) in
    let text = head_text p ++ flat_map entry_text entries in
    let w : WroteSome (Some (before ++ text)) end after = subst (λ (x : Option (List ℕ)). WroteSome x end after) h.stands wrote in
    cut_short T s bytes t first p before left after h.lines entries (text ++ w.0) w.1 (stops_writing s bytes first h.lines left h.reads) h.legal
    (ap (λ (x : List ℕ). text ++ x) w.2 ∙ sym (append_assoc text w.0 w.1)) (w.3 ∙ ap Some (append_assoc before text w.0))

-- ---- what a call wrote of it

-- the opening that was written, or a front of it, is the plan's, after what was known to stand
pub as_opening : (W : Option (List ℕ) → List ℕ → Option (List ℕ) → Type 0) (p q : Plan) (before : List ℕ) (taken after : Option (List ℕ)) → q ≡ p → taken ≡ Some before → W taken (head_text q) after → W (Some before) (head_text p) after
as_opening W p q before taken after same known wrote = subst (λ (x : Plan). W (Some before) (head_text x) after) same (subst (λ (x : Option (List ℕ)). W x (head_text q) after) known wrote)

-- the number that was written, or a front of it, is that of the entries
pub as_end : (W : Option (List ℕ) → List ℕ → Option (List ℕ) → Type 0) (held entries : List Entry) (count : ℕ) (taken after : Option (List ℕ)) → count ≡ length held → held ≡ entries → W taken (end_text count) after → W taken (end_text (length entries)) after
as_end W held entries count taken after is same wrote = subst (λ (n : ℕ). W taken (end_text n) after) (is ∙ ap (λ (es : List Entry). length es) same) wrote

-- ---- the whole of a script

edges_of-edges : (edges : List Edge) → edges_of (edge_lines edges) ≡ edges
edges_of-edges [] = refl
edges_of-edges (e ∷ edges) = ap (λ (x : List Edge). e ∷ x) (edges_of-edges edges)

edges_alone : (start : Start) (bytes : List ℕ) (edges : List Edge) (end : Option ScriptFault) (left : List ℕ) → ReadsScript start.workers bytes (edge_lines edges) end left → AreParts start bytes edges [] end left
edges_alone start bytes edges end left h = record { lines = edge_lines edges; reads = h; commands_are = commands_of-edges edges; edges_are = edges_of-edges edges }

parts_same : (start : Start) (bytes : List ℕ) (edges : List Edge) (commands others : List Line) (end : Option ScriptFault) (left : List ℕ) → commands ≡ others → AreParts start bytes edges commands end left → AreParts start bytes edges others end left
parts_same start bytes edges commands others end left same h = record { lines = h.lines; reads = h.reads; commands_are = h.commands_are ∙ same; edges_are = h.edges_are }

pub all_parts : (start : Start) (t : Script) (bytes rest : List ℕ) (edges : List Edge) (first : Option Line) (commands : List Line) (end : Option ScriptFault) (left : List ℕ) → IsBehindEdges t first → ReadsFirst start.workers bytes (edge_lines edges) first t rest → ReadsCommands t rest first commands end left → AreParts start bytes edges commands end left
all_parts start t bytes rest edges None commands None left command h k =
    parts_same start bytes edges [] commands None left (sym k.0) (edges_alone start bytes edges None left (subst (λ (x : List ℕ). ReadsScript start.workers bytes (edge_lines edges) None x) (sym k.1) h))
all_parts start t bytes rest edges None commands (Some f) left command h k =
    let stopped = reads_stop fault.WriteFailed may_stop_writing (edge_lines edges) start.workers MOST_BYTES 0 true bytes rest h in
    let at_left : ReadsScript start.workers bytes (edge_lines edges) (Some fault.WriteFailed) left = subst (λ (x : List ℕ). ReadsScript start.workers bytes (edge_lines edges) (Some fault.WriteFailed) x) (sym k.1) stopped in
    parts_same start bytes edges [] commands (Some f) left (sym k.0) (edges_alone start bytes edges (Some f) left
    (subst (λ (x : ScriptFault). ReadsScript start.workers bytes (edge_lines edges) (Some x) left) (sym k.2) at_left))
all_parts start t bytes rest edges (Some l) commands end left command h k =
    parts_same start bytes edges (l ∷ k.0) commands end left (sym k.1) (parts_of start t bytes rest edges l k.0 end left command.0 h k.2)

-- the entries of commands are those of the script's
is_entered : (start : Start) (lines : List Line) (edges : List Edge) (commands : List Line) (es : List Entry) → edges_of lines ≡ edges → MayAnswer start lines → AreLegal (scene_with start edges) commands es → EntersScript start lines commands es
is_entered start lines edges commands es same may h = record {
  opened = may;
  entered = subst (λ (x : List Edge). AreEntered (scene_with start x) commands es) (sym same) h.0;
  legal = subst (λ (x : List Edge). IsLegal (scene_with start x).graph es) (sym same) h.1;
}

stands_entered : (start : Start) (bytes before : List ℕ) (end : Option ScriptFault) (text : Plan → List Line → List Entry → List ℕ) (edges : List Edge) (commands : List Line) (es : List Entry) (left : List ℕ) (after : Option (List ℕ)) → (parts : AreParts start bytes edges commands end left) → MayAnswer start parts.lines → AreLegal (scene_with start edges) commands es → after ≡ Some (before ++ text (plan_with start edges) commands es) → StandsEntered start bytes before end text left after
stands_entered start bytes before end text edges commands es left after parts may legal stands = record {
  lines = parts.lines;
  entries = es;
  reads = parts.reads;
  run = subst (λ (x : List Line). EntersScript start parts.lines x es) (sym parts.commands_are) (is_entered start parts.lines edges commands es parts.edges_are may legal);
  stands = subst (λ (x : List Line). after ≡ Some (before ++ text (plan_of start parts.lines) x es)) (sym parts.commands_are)
      (subst (λ (x : List Edge). after ≡ Some (before ++ text (plan_with start x) commands es)) (sym parts.edges_are) stands);
}

-- a fault of reading after the opening
ran_reading : (f : ScriptFault) (start : Start) (t : Script) (bytes rest : List ℕ) (edges : List Edge) (first : Option Line) (before left : List ℕ) (after : Option (List ℕ)) → CanOpen start → IsBehindEdges t first → ReadsFirst start.workers bytes (edge_lines edges) first t rest →
    IsOfReading f × (lines : List Line) × (es : List Entry) × ReadsCommands t rest first lines (Some f) left × AreLegal (scene_with start edges) lines es × (after ≡ Some (before ++ unended_text (plan_with start edges) lines es)) →
    StandsEntered start bytes before (Some f) unended_text left after
ran_reading f start t bytes rest edges first before left after can command reads h =
    stands_entered start bytes before (Some f) unended_text edges h.1 h.2 left after (all_parts start t bytes rest edges first h.1 (Some f) left command reads h.3) (inr can) h.4 h.5

pub ran_entering : {T : Type 0} (r : Result T ScriptFault) (start : Start) (t : Script) (bytes rest : List ℕ) (edges : List Edge) (first : Option Line) (before left : List ℕ) (after : Option (List ℕ)) → CanOpen start → IsBehindEdges t first → ReadsFirst start.workers bytes (edge_lines edges) first t rest → EntersAll t rest (scene_with start edges) first (plan_with start edges) before r left after → RanEntering start bytes before r left after
unfolding stands_entered all_parts
ran_entering (Ok done) start t bytes rest edges first before left after can command reads h =
    let parts = all_parts start t bytes rest edges first h.0 None left command reads h.2 in (
      can,
      stands_entered start bytes before None (λ p commands es. history_text p es) edges h.0 h.1 left after parts (inr can) h.3 h.5,
      subst (λ (x : List Edge). IsPlan (plan_with start x)) (sym parts.edges_are) h.4,
    )
ran_entering (Err fault.WriteFailed) start t bytes rest edges first before left after can command reads h =
    let parts = all_parts start t bytes rest edges first (h.0 ++ h.1) (Some fault.WriteFailed) left command reads h.5 in
    record {
      lines = parts.lines;
      commands = h.0;
      later = h.1;
      entries = h.2;
      front = h.3;
      rest = h.4;
      reads = parts.reads;
      are = parts.commands_are;
      few = h.6;
      run = is_entered start parts.lines edges h.0 h.2 parts.edges_are (inr can) h.7;
      cut = subst (λ (x : List Edge). history_text (plan_with start x) h.2 ≡ h.3 ++ h.4) (sym parts.edges_are) h.8;
      stands = h.9;
    }
ran_entering (Err fault.OutOfMemory) start t bytes rest edges first before left after can command reads h = absurd h.0
ran_entering (Err fault.HeapFull) start t bytes rest edges first before left after can command reads h = absurd h.0
ran_entering (Err fault.BadLimits) start t bytes rest edges first before left after can command reads h = absurd h.0
ran_entering (Err f) start t bytes rest edges first before left after can command reads h = ran_reading f start t bytes rest edges first before left after can command reads h

-- ---- the store isn't opened

-- a fault came after the edge lines
unopened_stands : (f : ScriptFault) (start : Start) (bytes before : List ℕ) (edges : List Edge) (left : List ℕ) (after : Option (List ℕ)) → ReadsScript start.workers bytes (edge_lines edges) (Some f) left → after ≡ Some before → StandsEntered start bytes before (Some f) unended_text left after
unopened_stands f start bytes before edges left after h same =
    let parts = edges_alone start bytes edges (Some f) left h in
    stands_entered start bytes before (Some f) unended_text edges [] [] left after parts (inl parts.commands_are) (refl, tt) (same ∙ ap Some (sym (append-nil before)))

pub entering_unbegun : (T : Type 0) (f : ScriptFault) (start : Start) (bytes before left : List ℕ) (after : Option (List ℕ)) → Unbegun start bytes f left → after ≡ Some before → RanEntering {T = T} start bytes before (Err f) left after
entering_unbegun T fault.WriteFailed start bytes before left after h same =
    let parts = edges_alone start bytes h.edges (Some fault.WriteFailed) left h.reads in
    record {
      lines = parts.lines;
      commands = [];
      later = [];
      entries = [];
      front = [];
      rest = history_text (plan_of start parts.lines) [];
      reads = parts.reads;
      are = parts.commands_are;
      few = omega arith;
      run = record { opened = inl parts.commands_are; entered = refl; legal = tt };
      cut = refl;
      stands = same ∙ ap Some (sym (append-nil before));
    }
entering_unbegun T fault.OutOfMemory start bytes before left after h same = ran_unbegun T fault.OutOfMemory start bytes before left after h same
entering_unbegun T fault.HeapFull start bytes before left after h same = ran_unbegun T fault.HeapFull start bytes before left after h same
entering_unbegun T fault.BadLimits start bytes before left after h same = ran_unbegun T fault.BadLimits start bytes before left after h same
entering_unbegun T f start bytes before left after h same = unopened_stands f start bytes before h.edges left after h.reads same

-- ---- the sink is finished

-- what is known to stand
entering_known : {T : Type 0} (r : Result T ScriptFault) (start : Start) (bytes before left : List ℕ) (mid : Option (List ℕ)) → RanEntering start bytes before r left mid → (known : List ℕ) × (mid ≡ Some known)
entering_known (Ok done) start bytes before left mid h = (_, h.1.stands)
entering_known (Err fault.WriteFailed) start bytes before left mid h = (_, h.stands)
entering_known (Err fault.OutOfMemory) start bytes before left mid h = (before, h.1)
entering_known (Err fault.HeapFull) start bytes before left mid h = (before, h.3)
entering_known (Err fault.BadLimits) start bytes before left mid h = (before, h.2)
entering_known (Err f) start bytes before left mid h = (_, h.stands)

entering_keeps : {T : Type 0} (r : Result T ScriptFault) (start : Start) (bytes before left : List ℕ) (mid after : Option (List ℕ)) → RanEntering start bytes before r left mid → KeepsBytes mid after → RanEntering start bytes before r left after
entering_keeps r start bytes before left mid after h keeps =
    let known = entering_known r start bytes before left mid h in
    subst (λ (o : Option (List ℕ)). RanEntering start bytes before r left o) (known.1 ∙ sym (keeps_known mid after known.0 known.1 keeps)) h

-- the whole text was written, but the sink was not finished
entering_unfinished : {T : Type 0} (r : Result T ScriptFault) (start : Start) (bytes before left : List ℕ) (mid after : Option (List ℕ)) → IsOk r → RanEntering start bytes before r left mid → KeepsBytes mid after → RanEntering {T = T} start bytes before (Err fault.WriteFailed) left after
entering_unfinished (Err f) start bytes before left mid after fine h keeps = absurd (false≢true fine)
entering_unfinished (Ok done) start bytes before left mid after fine h keeps =
    let s = h.1 in
    let text = history_text (plan_of start s.lines) s.entries in
    record {
      lines = s.lines;
      commands = commands_of s.lines;
      later = [];
      entries = s.entries;
      front = text;
      rest = [];
      reads = reads_stop fault.WriteFailed may_stop_writing s.lines start.workers 1048576 0 true bytes left s.reads;
      are = sym (append-nil (commands_of s.lines));
      few = omega arith;
      run = s.run;
      cut = sym (append-nil text);
      stands = keeps_known mid after (before ++ text) s.stands keeps;
    }

pub entering_finished : {T : Type 0} (outcome r : Result T ScriptFault) (start : Start) (bytes before left : List ℕ) (mid after : Option (List ℕ)) (f g : ℕ) → RanEntering start bytes before outcome left mid → Finishes mid f outcome r after g → RanEntering start bytes before r left after
entering_finished outcome r start bytes before left mid after f g h (keeps, inl same) =
    subst (λ x. RanEntering start bytes before x left after) (sym same.0) (entering_keeps outcome start bytes before left mid after h keeps)
entering_finished outcome r start bytes before left mid after f g h (keeps, inr failed) =
    subst (λ x. RanEntering start bytes before x left after) (sym failed.1) (entering_unfinished outcome start bytes before left mid after failed.0 h keeps)

-- ---- the history is legal

-- all entries of a store that had none when it represented a graph are a legal history of that graph
pub legal_from : (o now : Origin) (begun entries : List Entry) (g : ProtectionGraph) → begun ≡ [] → graph_after (start_at o) begun ≡ g → now ≡ o → IsLegal (start_at now) entries → IsLegal g entries
legal_from o now begun entries g none stands same legal =
    subst (λ (x : ProtectionGraph). IsLegal x entries) (ap (λ (es : List Entry). graph_after (start_at o) es) (sym none) ∙ stands) (subst (λ (x : Origin). IsLegal (start_at x) entries) same legal)
