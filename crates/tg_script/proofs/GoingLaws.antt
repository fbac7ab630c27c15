-- What is written for a script that is run on a store which exists.
use Rattle.std.specs.Prelude.{IfErr, IsOk, OnOk}
use Rattle.std.proofs.Common.{◌≡◌, ◌∙◌, ◌≤◌, ◌+◌, ◌-◌, inl, inr, ℕ, Bool, true, false, List, [], ◌∷◌, ◌++◌, length, Option, Some, None, Result, Ok, Err, refl, sym, ap, subst, append_assoc, append-nil, length-append, arith}
use Rattle.std.proofs.lemmas.Bool.{false≢true}
use Rattle.std.proofs.lemmas.List.Concat.{flat_map-append}
use Rattle.std.specs.List.{flat_map, list_any}
use Rattle.tg_model.specs.declared.edge.Edge.{Edge}
use Rattle.tg_model.specs.Graph.{ProtectionGraph}
use Rattle.tg_journal.specs.declared.entry.Entry.{Entry}
use Rattle.tg_journal.specs.History.{IsLegal, graph_after}
use Rattle.tg_journal.proofs.HistoryLaws.{IsLegal-cut}
use Rattle.tg_store.specs.Origin.{Origin, start_at}
use Rattle.tg_text.specs.declared.line.Line.{Line}
use Rattle.tg_text.specs.declared.answer.Answer.{Answer}
use Rattle.tg_text.specs.declared.fault.ScriptFault.{ScriptFault}
use Rattle.tg_text.specs.declared.fault.ScriptFault.TheVariants as fault
use Rattle.tg_text.specs.Sinks.{Wrote, WroteSome}
use Rattle.tg_text.specs.Texts.{answer_text}
use Rattle.tg_entries.specs.Texts.{end_text, entry_text}
use Rattle.tg_script.specs.declared.script.Script.{Script}
use Rattle.tg_script.specs.Entering.{entered}
use Rattle.tg_script.specs.GoingOn.{GoesOn, GoneOn, closing_text, answers_text, whole_text}
use Rattle.tg_script.specs.Lines.{IsOfKeeping, IsOfReading}
use Rattle.tg_script.specs.Opening.{edge_lines}
use Rattle.tg_script.specs.Running.{Finishes}
use Rattle.tg_script.specs.Script.{Scene, Start}
use Rattle.tg_script.specs.Watching.{AreAnswered, SeesAll}
use Rattle.tg_text.specs.Refusing.{says_refusal}
use Rattle.tg_script.specs.Inner.Beginning.{IsBehindEdges, ReadsFirst, StopsAtEdges}
use Rattle.tg_script.specs.Inner.GoingOn.{LinesGone, StandsGone}
use Rattle.tg_script.specs.Inner.Marks.{SeesTold, bytes_of, is_mark, marks}
use Rattle.tg_script.specs.Inner.Telling.{LineText, StandsTold, TellsCut, TellsFirst, TellsLines, entry_of_line, reply_of_line}
use Rattle.tg_script.proofs.EnteringLaws.{all_parts, stops_writing}
use Rattle.tg_script.proofs.LinesLaws.{keeps_known, may_stop_writing, reads_stop}
use Rattle.tg_script.proofs.MarkLaws.{bytes_stand, entries_marked, log_sees, replies_marked}
use Rattle.tg_script.proofs.RanLaws.{commands_of-edges}

-- ---- what is told of lines, by replies or by entries

abbrev pub told_by : Bool → LineText
told_by false = reply_of_line
told_by true = entry_of_line

replies_answered : (lines : List Line) (s : Scene) (text : List ℕ) (es : List Entry) → TellsLines reply_of_line s lines text es → (answers : List Answer) × AreAnswered s lines answers es × (text ≡ flat_map answer_text answers)
replies_answered [] s text es h = ([], (refl, h.1), h.0)
replies_answered (l ∷ lines) s text es h =
    let k = replies_answered lines h.1 h.2 h.3 h.7 in
    (h.0 ∷ k.0, (h.0, h.1, k.0, h.3, h.4, refl, h.6, k.1), h.5 ∙ ap (λ (x : List ℕ). answer_text h.0 ++ x) k.2)

entries_answered : (lines : List Line) (s : Scene) (text : List ℕ) (es : List Entry) → TellsLines entry_of_line s lines text es → (answers : List Answer) × AreAnswered s lines answers es × (text ≡ flat_map entry_text es)
entries_answered [] s text es h = ([], (refl, h.1), h.0 ∙ ap (flat_map entry_text) (sym h.1))
entries_answered (l ∷ lines) s text es h =
    let k = entries_answered lines h.1 h.2 h.3 h.7 in
    let made = entered l h.0 s.stock in (
      h.0 ∷ k.0,
      (h.0, h.1, k.0, h.3, h.4, refl, h.6, k.1),
      h.5 ∙ ap (λ (x : List ℕ). flat_map entry_text made ++ x) k.2 ∙ sym (flat_map-append entry_text made h.3) ∙ ap (flat_map entry_text) (sym h.6),
    )

answered_by : (b : Bool) (lines : List Line) (s : Scene) (text : List ℕ) (es : List Entry) → TellsLines (told_by b) s lines text es → (answers : List Answer) × AreAnswered s lines answers es × (text ≡ answers_text b answers es)
answered_by false lines s text es h = replies_answered lines s text es h
answered_by true lines s text es h = entries_answered lines s text es h

-- the same where what is told of the last line was cut short
replies_cut_off : (lines : List Line) (s : Scene) (front : List ℕ) (es : List Entry) → TellsCut reply_of_line s lines front es → (answers : List Answer) × (rest : List ℕ) × AreAnswered s lines answers es × (flat_map answer_text answers ≡ front ++ rest)
replies_cut_off [] s front es h = absurd h
replies_cut_off (l ∷ []) s front es h =
    (h.0 ∷ [], h.2, (h.0, h.1, [], [], h.3, refl, h.5 ∙ sym (append-nil (entered l h.0 s.stock)), (refl, refl)), append-nil (answer_text h.0) ∙ h.4)
replies_cut_off (l ∷ m ∷ lines) s front es h =
    let k = replies_cut_off (m ∷ lines) h.1 h.2 h.3 h.7 in (
      h.0 ∷ k.0,
      k.1,
      (h.0, h.1, k.0, h.3, h.4, refl, h.6, k.2),
      ap (λ (x : List ℕ). answer_text h.0 ++ x) k.3 ∙ sym (append_assoc (answer_text h.0) h.2 k.1) ∙ ap (λ (x : List ℕ). x ++ k.1) (sym h.5),
    )

entries_cut_off : (lines : List Line) (s : Scene) (front : List ℕ) (es : List Entry) → TellsCut entry_of_line s lines front es → (answers : List Answer) × (rest : List ℕ) × AreAnswered s lines answers es × (flat_map entry_text es ≡ front ++ rest)
entries_cut_off [] s front es h = absurd h
entries_cut_off (l ∷ []) s front es h =
    (h.0 ∷ [], h.2, (h.0, h.1, [], [], h.3, refl, h.5 ∙ sym (append-nil (entered l h.0 s.stock)), (refl, refl)), ap (flat_map entry_text) h.5 ∙ h.4)
entries_cut_off (l ∷ m ∷ lines) s front es h =
    let k = entries_cut_off (m ∷ lines) h.1 h.2 h.3 h.7 in
    let made = entered l h.0 s.stock in (
      h.0 ∷ k.0,
      k.1,
      (h.0, h.1, k.0, h.3, h.4, refl, h.6, k.2),
      ap (flat_map entry_text) h.6 ∙ flat_map-append entry_text made h.3 ∙ ap (λ (x : List ℕ). flat_map entry_text made ++ x) k.3
          ∙ sym (append_assoc (flat_map entry_text made) h.2 k.1) ∙ ap (λ (x : List ℕ). x ++ k.1) (sym h.5),
    )

pub cut_by : (b : Bool) (lines : List Line) (s : Scene) (front : List ℕ) (es : List Entry) → TellsCut (told_by b) s lines front es → (answers : List Answer) × (rest : List ℕ) × AreAnswered s lines answers es × (answers_text b answers es ≡ front ++ rest)
cut_by false lines s front es h = replies_cut_off lines s front es h
cut_by true lines s front es h = entries_cut_off lines s front es h

-- the same by a text with marks
marked_by : (b : Bool) (lines : List Line) (s : Scene) (log : List ℕ) (es : List Entry) → TellsLines (marks (told_by b)) s lines log es → (answers : List Answer) × AreAnswered s lines answers es × (bytes_of log ≡ answers_text b answers es) × (list_any is_mark log ≡ list_any says_refusal answers)
marked_by false lines s log es h = replies_marked lines s log es h
marked_by true lines s log es h = entries_marked lines s log es h

-- of no line nothing is told
none_told : (b : Bool) → answers_text b [] [] ≡ []
none_told false = refl
none_told true = refl

-- ---- the entries since

-- the entries that a store made since it represented a graph are a legal history of that graph
pub legal_since : (o now : Origin) (begun entries : List Entry) (g : ProtectionGraph) → graph_after (start_at o) begun ≡ g → now ≡ o → IsLegal (start_at now) entries → (es : List Entry) → entries ≡ begun ++ es → IsLegal g es
legal_since o now begun entries g stands same legal es is =
    let here = subst (λ (x : Origin). IsLegal (start_at x) entries) same legal in
    let all = subst (λ (x : List Entry). IsLegal (start_at o) x) is here in
    subst (λ (x : ProtectionGraph). IsLegal x es) stands (IsLegal-cut (start_at o) begun es all).1

-- how many entries there are then
pub counted_since : (begun es entries : List Entry) (skipped : ℕ) → entries ≡ begun ++ es → skipped ≤ length begun → length entries - skipped ≡ (length begun - skipped) + length es
counted_since begun es entries skipped is few = omega (arith, few, ap length is, length-append begun es)

-- ---- the lines from the first on

abbrev pub IsLegalSince : ProtectionGraph → List Entry → List Entry → Type 0
IsLegalSince g begun entries = (es : List Entry) → entries ≡ begun ++ es → IsLegal g es

-- they were told of
pub gone_told : (b : Bool) (end : Option ScriptFault) (s : Script) (bytes : List ℕ) (t : Scene) (l : Line) (begun : List Entry) (before left : List ℕ) (entries : List Entry) (after : Option (List ℕ)) → IsLegalSince t.graph begun entries → StandsTold (told_by b) s bytes t l begun before end left entries after →
    (answers : List Answer) × (es : List Entry) × LinesGone s bytes t (Some l) end left answers es × (entries ≡ begun ++ es) × (after ≡ Some (before ++ answers_text b answers es))
gone_told b end s bytes t l begun before left entries after legal (text, es, stands, had, (lines, reads, tells)) =
    let k = answered_by b (l ∷ lines) t text es tells in (
      k.0,
      es,
      record { lines = l ∷ lines; reads = (lines, refl, reads); answered = k.1; legal = legal es had },
      had,
      stands ∙ ap (λ (x : List ℕ). Some (before ++ x)) k.2,
    )

-- and a watch has seen them
pub gone_seen : (b : Bool) (s : Script) (bytes : List ℕ) (t : Scene) (first : Option Line) (begun : List Entry) (before left : List ℕ) (entries : List Entry) (after : Option (List ℕ)) (saw saw' : Option Bool) → IsLegalSince t.graph begun entries → SeesTold (told_by b) s bytes t first begun before left entries after saw saw' →
    (answers : List Answer) × (es : List Entry) × LinesGone s bytes t first None left answers es × (entries ≡ begun ++ es) × (after ≡ Some (before ++ answers_text b answers es)) × SeesAll saw answers saw'
gone_seen b s bytes t None begun before left entries after saw saw' legal h =
    let had = h.1.2 ∙ sym (append-nil begun) in (
      [],
      [],
      record { lines = []; reads = (refl, h.1.1); answered = (refl, refl); legal = legal [] had },
      had,
      bytes_stand after before h.0 [] [] h.2 h.1.3 refl ∙ ap (λ (x : List ℕ). Some (before ++ x)) (sym (none_told b)),
      log_sees saw saw' h.0 [] [] h.1.3 refl h.3,
    )
gone_seen b s bytes t (Some l) begun before left entries after saw saw' legal (log, (text, es, is, had, (lines, reads, tells)), stands, seen) =
    let k = marked_by b (l ∷ lines) t text es tells in (
      k.0,
      es,
      record { lines = l ∷ lines; reads = (lines, refl, reads); answered = k.1; legal = legal es had },
      had,
      bytes_stand after before log text (answers_text b k.0 es) stands is k.2,
      log_sees saw saw' log text k.0 is k.3 seen,
    )

-- a fault was met
pub gone_fault : (T : Type 0) (b : Bool) (count : ℕ) (f : ScriptFault) (s : Script) (bytes : List ℕ) (t : Scene) (first : Option Line) (begun : List Entry) (before left : List ℕ) (entries : List Entry) (after : Option (List ℕ)) (saw saw' : Option Bool) → IsLegalSince t.graph begun entries → TellsFirst {T = T} (told_by b) s bytes t first begun before (Err f) left entries after → StandsGone {T = T} b count s bytes t first before saw (Err f) left after saw'
gone_fault T b count f s bytes t None begun before left entries after saw saw' legal h = absurd (false≢true h.0)
gone_fault T b count fault.WriteFailed s bytes t (Some l) begun before left entries after saw saw' legal (inl h) =
    let k = gone_told b (Some fault.WriteFailed) s bytes t l begun before left entries after legal h in
    (k.0, k.1, answers_text b k.0 k.1, closing_text b count k.1, k.2, refl, k.4)
gone_fault T b count fault.WriteFailed s bytes t (Some l) begun before left entries after saw saw' legal (inr (front, es, stands, had, (lines, reads, behind, cut))) =
    let k = cut_by b (l ∷ lines) t front es cut in
    let last = closing_text b count es in (
      k.0,
      es,
      front,
      k.1 ++ last,
      record { lines = l ∷ lines; reads = (lines, refl, reads); answered = k.2; legal = legal es had },
      ap (λ (x : List ℕ). x ++ last) k.3 ∙ append_assoc front k.1 last,
      stands,
    )
gone_fault T b count f s bytes t (Some l) begun before left entries after saw saw' legal h =
    let k = gone_told b (Some f) s bytes t l begun before left entries after legal h.1 in
    (k.0, k.1, k.2, k.4)

-- replies were written to the end
pub gone_replied : {T : Type 0} (done : T) (count : ℕ) (s : Script) (bytes : List ℕ) (t : Scene) (first : Option Line) (begun : List Entry) (before left : List ℕ) (entries : List Entry) (after : Option (List ℕ)) (saw saw' : Option Bool) → IsLegalSince t.graph begun entries → SeesTold reply_of_line s bytes t first begun before left entries after saw saw' → StandsGone false count s bytes t first before saw (Ok done) left after saw'
gone_replied done count s bytes t first begun before left entries after saw saw' legal h =
    let k = gone_seen false s bytes t first begun before left entries after saw saw' legal h in
    (k.0, k.1, k.2, k.4 ∙ ap (λ (x : List ℕ). Some (before ++ x)) (sym (append-nil (flat_map answer_text k.0))), k.5)

-- entries were written to the end, and then their number, or a front of it
pub gone_entered : {T : Type 0} (done : T) (count number : ℕ) (s : Script) (bytes : List ℕ) (t : Scene) (first : Option Line) (begun : List Entry) (before left : List ℕ) (entries : List Entry) (mid after : Option (List ℕ)) (saw saw' : Option Bool) → IsLegalSince t.graph begun entries → ((es : List Entry) → entries ≡ begun ++ es → number ≡ count + length es) →
    SeesTold entry_of_line s bytes t first begun before left entries mid saw saw' → Wrote mid (end_text number) after → StandsGone true count s bytes t first before saw (Ok done) left after saw'
gone_entered done count number s bytes t first begun before left entries mid after saw saw' legal counted h wrote =
    let k = gone_seen true s bytes t first begun before left entries mid saw saw' legal h in
    let lines = flat_map entry_text k.1 in
    let end = end_text (count + length k.1) in
    let w : Wrote (Some (before ++ lines)) end after = subst (λ (x : Option (List ℕ)). Wrote x end after) k.4 (subst (λ (n : ℕ). Wrote mid (end_text n) after) (counted k.1 k.3) wrote) in
    (k.0, k.1, k.2, w ∙ ap Some (append_assoc before lines end), k.5)

pub gone_cut_off : (T : Type 0) (count number : ℕ) (s : Script) (bytes : List ℕ) (t : Scene) (first : Option Line) (begun : List Entry) (before left : List ℕ) (entries : List Entry) (mid after : Option (List ℕ)) (saw mark saw' : Option Bool) → IsLegalSince t.graph begun entries → ((es : List Entry) → entries ≡ begun ++ es → number ≡ count + length es) →
    SeesTold entry_of_line s bytes t first begun before left entries mid saw mark → WroteSome mid (end_text number) after → StandsGone {T = T} true count s bytes t first before saw (Err fault.WriteFailed) left after saw'
gone_cut_off T count number s bytes t first begun before left entries mid after saw mark saw' legal counted h wrote =
    let k = gone_seen true s bytes t first begun before left entries mid saw mark legal h in
    let gone = k.2 in
    let lines = flat_map entry_text k.1 in
    let end = end_text (count + length k.1) in
    let w : WroteSome (Some (before ++ lines)) end after = subst (λ (x : Option (List ℕ)). WroteSome x end after) k.4 (subst (λ (n : ℕ). WroteSome mid (end_text n) after) (counted k.1 k.3) wrote) in (
      k.0,
      k.1,
      lines ++ w.0,
      w.1,
      record { lines = gone.lines; reads = stops_writing s bytes first gone.lines left gone.reads; answered = gone.answered; legal = gone.legal },
      ap (λ (x : List ℕ). lines ++ x) w.2 ∙ sym (append_assoc lines w.0 w.1),
      w.3 ∙ ap Some (append_assoc before lines w.0),
    )

-- ---- the whole of a script

-- of a script without an opening's workers
abbrev nobody : Start
nobody = record { workers = 0; helpers = 0; limit = 0; blocks = 0; values = []; stock = [] }

lines_on : (s : Scene) (t : Script) (bytes rest : List ℕ) (edges : List Edge) (first : Option Line) (end : Option ScriptFault) (left : List ℕ) (answers : List Answer) (es : List Entry) → IsBehindEdges t first → ReadsFirst 0 bytes (edge_lines edges) first t rest → LinesGone t rest s first end left answers es → GoesOn s bytes end left answers es
lines_on s t bytes rest edges first end left answers es command reads h =
    let parts = all_parts nobody t bytes rest edges first h.lines end left command reads h.reads in
    record {
      lines = parts.lines;
      reads = parts.reads;
      answered = subst (λ (x : List Line). AreAnswered s x answers es) (sym parts.commands_are) h.answered;
      legal = h.legal;
    }

pub begun_gone : {T : Type 0} (b : Bool) (count : ℕ) (r : Result T ScriptFault) (s : Scene) (t : Script) (bytes rest : List ℕ) (edges : List Edge) (first : Option Line) (before left : List ℕ) (after : Option (List ℕ)) (saw saw' : Option Bool) → IsBehindEdges t first → ReadsFirst 0 bytes (edge_lines edges) first t rest → StandsGone b count t rest s first before saw r left after saw' → GoneOn b s count bytes before saw r left after saw'
begun_gone b count (Ok done) s t bytes rest edges first before left after saw saw' command reads h =
    (h.0, h.1, lines_on s t bytes rest edges first None left h.0 h.1 command reads h.2, h.3, h.4)
begun_gone b count (Err fault.WriteFailed) s t bytes rest edges first before left after saw saw' command reads h =
    (h.0, h.1, h.2, h.3, lines_on s t bytes rest edges first (Some fault.WriteFailed) left h.0 h.1 command reads h.4, h.5, h.6)
begun_gone b count (Err f) s t bytes rest edges first before left after saw saw' command reads h =
    (h.0, h.1, lines_on s t bytes rest edges first (Some f) left h.0 h.1 command reads h.2, h.3)

-- a fault was met before the first line
stopped_on : (s : Scene) (bytes : List ℕ) (f : ScriptFault) (left : List ℕ) → StopsAtEdges 0 bytes f left → GoesOn s bytes (Some f) left [] []
stopped_on s bytes f left h = record {
  lines = edge_lines h.edges;
  reads = h.reads;
  answered = subst (λ (x : List Line). AreAnswered s x [] []) (sym (commands_of-edges h.edges)) (refl, refl);
  legal = tt;
}

pub unbegun_gone : (T : Type 0) (b : Bool) (count : ℕ) (f : ScriptFault) (s : Scene) (bytes before left : List ℕ) (after : Option (List ℕ)) (saw saw' : Option Bool) → StopsAtEdges 0 bytes f left → after ≡ Some before → GoneOn {T = T} b s count bytes before saw (Err f) left after saw'
unbegun_gone T b count fault.WriteFailed s bytes before left after saw saw' h same =
    ([], [], [], whole_text b count [] [], stopped_on s bytes fault.WriteFailed left h, refl, same ∙ ap Some (sym (append-nil before)))
unbegun_gone T b count f s bytes before left after saw saw' h same =
    ([], [], stopped_on s bytes f left h, same ∙ ap Some (sym (append-nil before)) ∙ ap (λ (x : List ℕ). Some (before ++ x)) (sym (none_told b)))

-- ---- the sink is finished

gone_known : {T : Type 0} (b : Bool) (count : ℕ) (r : Result T ScriptFault) (s : Scene) (bytes before left : List ℕ) (mid : Option (List ℕ)) (saw saw' : Option Bool) → GoneOn b s count bytes before saw r left mid saw' → (known : List ℕ) × (mid ≡ Some known)
gone_known b count (Ok done) s bytes before left mid saw saw' h = (_, h.3)
gone_known b count (Err fault.WriteFailed) s bytes before left mid saw saw' h = (_, h.6)
gone_known b count (Err f) s bytes before left mid saw saw' h = (_, h.3)

-- the whole text was written, but the sink was not finished
gone_unfinished : {T : Type 0} (b : Bool) (count : ℕ) (r : Result T ScriptFault) (s : Scene) (bytes before left : List ℕ) (mid after : Option (List ℕ)) (saw saw' : Option Bool) → IsOk r → GoneOn b s count bytes before saw r left mid saw' → ((known : List ℕ) → mid ≡ Some known → after ≡ Some known) → GoneOn {T = T} b s count bytes before saw (Err fault.WriteFailed) left after saw'
gone_unfinished b count (Err f) s bytes before left mid after saw saw' fine h keeps = absurd (false≢true fine)
gone_unfinished b count (Ok done) s bytes before left mid after saw saw' fine (answers, es, goes, stands, seen) keeps =
    let text = whole_text b count answers es in (
      answers,
      es,
      text,
      [],
      record { lines = goes.lines; reads = reads_stop fault.WriteFailed may_stop_writing goes.lines 0 1048576 0 true bytes left goes.reads; answered = goes.answered; legal = goes.legal },
      sym (append-nil text),
      keeps (before ++ text) stands,
    )

pub gone_finished : {T : Type 0} (b : Bool) (count : ℕ) (outcome r : Result T ScriptFault) (s : Scene) (bytes before left : List ℕ) (mid after : Option (List ℕ)) (saw saw' : Option Bool) (f g : ℕ) → GoneOn b s count bytes before saw outcome left mid saw' → Finishes mid f outcome r after g → GoneOn b s count bytes before saw r left after saw'
gone_finished b count outcome r s bytes before left mid after saw saw' f g h (keeps, inl same) =
    let known = gone_known b count outcome s bytes before left mid saw saw' h in
    let here = subst (λ (o : Option (List ℕ)). GoneOn b s count bytes before saw outcome left o saw') (known.1 ∙ sym (keeps_known mid after known.0 known.1 keeps)) h in
    subst (λ x. GoneOn b s count bytes before saw x left after saw') (sym same.0) here
gone_finished {T} b count outcome r s bytes before left mid after saw saw' f g h (keeps, inr failed) =
    let here = gone_unfinished b count outcome s bytes before left mid after saw saw' failed.0 h (λ known is. keeps_known mid after known is keeps) in
    subst (λ (x : Result T ScriptFault). GoneOn b s count bytes before saw x left after saw') (sym failed.1) here

-- ---- its faults

pub keeping_of : {T : Type 0} (r : Result T ScriptFault) → IfErr r IsOfReading → IfErr r IsOfKeeping
keeping_of (Ok done) h = tt
keeping_of (Err f) h = inl h

pub finished_keeping : {T : Type 0} (outcome result : Result T ScriptFault) (before after : Option (List ℕ)) (failures failures' : ℕ) → IfErr outcome IsOfKeeping → Finishes before failures outcome result after failures' → IfErr result IsOfKeeping
finished_keeping outcome result before after failures failures' met (kept, inl h) = subst (λ r. IfErr r IsOfKeeping) (sym h.0) met
finished_keeping outcome result before after failures failures' met (kept, inr h) = subst (λ r. IfErr r IsOfKeeping) (sym h.1) (inl tt)

-- ---- what a call says of its lines

-- by replies, where the run was told of in two ways: by what was written, and by what a watch has seen
pub gone_replies : {T : Type 0} (count : ℕ) (r : Result T ScriptFault) (s : Script) (bytes : List ℕ) (t : Scene) (first : Option Line) (begun : List Entry) (before : List ℕ) (known : Option (List ℕ)) (entries : List Entry) (after : Option (List ℕ)) (saw saw' : Option Bool) → IsLegalSince t.graph begun entries →
    ((last : List ℕ) × (known ≡ Some last) × TellsFirst reply_of_line s bytes t first begun before r last entries after) →
    OnOk r ((last : List ℕ) × (known ≡ Some last) × SeesTold reply_of_line s bytes t first begun before last entries after saw saw') →
    (last : List ℕ) × (known ≡ Some last) × StandsGone false count s bytes t first before saw r last after saw'
gone_replies count (Ok done) s bytes t first begun before known entries after saw saw' legal told seen =
    (seen.0, seen.1, gone_replied done count s bytes t first begun before seen.0 entries after saw saw' legal seen.2)
gone_replies {T} count (Err f) s bytes t first begun before known entries after saw saw' legal told seen =
    (told.0, told.1, gone_fault T false count f s bytes t first begun before told.0 entries after saw saw' legal told.2)
