-- What is told of lines with marks, by which it is known of one list of answers both what is written and what a watch has seen.
use Rattle.std.proofs.Common.{◌≡◌, ℕ, suc, Bool, true, false, List, [], ◌∷◌, ◌++◌, map, length, Option, Some, None, Result, Ok, Err, inl, inr, refl, sym, ap, ◌∙◌, subst, append_assoc, append-nil}
use Rattle.std.proofs.lemmas.Bool.{false≢true}
use Rattle.std.proofs.lemmas.Option.{same_Some}
use Rattle.std.specs.Prelude.{◌||◌, OnOk}
use Rattle.std.specs.List.{list_any, flat_map}
use Rattle.std.proofs.Math.Bool.{or_assoc}
use Rattle.std.proofs.lemmas.List.Concat.{flat_map-append}
use Rattle.std.proofs.lemmas.List.Folds.{list_any-append}
use Rattle.tg_model.specs.declared.edge.Edge.{Edge}
use Rattle.tg_model.specs.Opened.{Plan}
use Rattle.tg_journal.specs.declared.entry.Entry.{Entry}
use Rattle.tg_text.specs.declared.line.Line.{Line}
use Rattle.tg_text.specs.declared.answer.Answer.{Answer}
use Rattle.tg_text.specs.declared.fault.ScriptFault.{ScriptFault}
use Rattle.tg_text.specs.Sinks.{KeepsBytes, Wrote}
use Rattle.tg_text.specs.Texts.{answer_text}
use Rattle.tg_entries.specs.Texts.{end_text, entry_text, head_text, history_text}
use Rattle.tg_script.specs.declared.script.Script.{Script}
use Rattle.tg_script.specs.declared.run.Run.{Run}
use Rattle.tg_script.specs.Entering.{entered, plan_of}
use Rattle.tg_script.specs.Lines.{PassesLine, ReadsFrom}
use Rattle.tg_script.specs.Opening.{edge_lines}
use Rattle.tg_script.specs.Running.{Finishes}
use Rattle.tg_script.specs.Script.{Scene, Start, scene_of}
use Rattle.tg_script.specs.Watching.{AreAnswered, RanToEnd, IsWatched, SeesOne, SeesAll, text_as}
use Rattle.tg_text.specs.Refusing.{says_refusal}
use Rattle.tg_script.specs.Inner.Beginning.{IsBehindEdges, ReadsFirst, plan_with, scene_with}
use Rattle.tg_script.specs.Inner.Marks.{AnswersSeen, SeesMarks, SeesTold, byte_of, bytes_of, is_mark, marked, marks}
use Rattle.tg_script.specs.Inner.Run.{Handles, MakesEntry, Shows}
use Rattle.tg_script.specs.Inner.Supply.{values_left}
use Rattle.tg_script.specs.Inner.Telling.{LineText, TellsLines, entry_of_line, reply_of_line}
use Rattle.tg_script.proofs.CommandLaws.{Under, under_end, under_first, under_next}
use Rattle.tg_script.proofs.EnteringLaws.{all_parts}
use Rattle.tg_script.proofs.LinesLaws.{keeps_known}

-- ---- one text

bytes_of-lifted : (bytes : List ℕ) → bytes_of (map suc bytes) ≡ bytes
bytes_of-lifted [] = refl
bytes_of-lifted (b ∷ bytes) = ap (λ (x : List ℕ). b ∷ x) (bytes_of-lifted bytes)

none-lifted : (bytes : List ℕ) → list_any is_mark (map suc bytes) ≡ false
none-lifted [] = refl
none-lifted (b ∷ bytes) = none-lifted bytes

bytes_of-marked : (b : Bool) (bytes : List ℕ) → bytes_of (marked b bytes) ≡ bytes
bytes_of-marked false bytes = bytes_of-lifted bytes
bytes_of-marked true bytes = bytes_of-lifted bytes

any-marked : (b : Bool) (bytes : List ℕ) → list_any is_mark (marked b bytes) ≡ b
any-marked false bytes = none-lifted bytes
any-marked true bytes = refl

-- what is told of a line stands behind such a text, or in front of it
bytes_more : (log : List ℕ) (b : Bool) (bytes : List ℕ) → bytes_of (log ++ marked b bytes) ≡ bytes_of log ++ bytes
bytes_more log b bytes = flat_map-append byte_of log (marked b bytes) ∙ ap (λ (x : List ℕ). bytes_of log ++ x) (bytes_of-marked b bytes)

bytes_then : (b : Bool) (bytes log : List ℕ) → bytes_of (marked b bytes ++ log) ≡ bytes ++ bytes_of log
bytes_then b bytes log = flat_map-append byte_of (marked b bytes) log ∙ ap (λ (x : List ℕ). x ++ bytes_of log) (bytes_of-marked b bytes)

any_more : (log : List ℕ) (b : Bool) (bytes : List ℕ) → list_any is_mark (log ++ marked b bytes) ≡ (list_any is_mark log || b)
any_more log b bytes = list_any-append is_mark log (marked b bytes) ∙ ap (λ (x : Bool). list_any is_mark log || x) (any-marked b bytes)

any_then : (b : Bool) (bytes log : List ℕ) → list_any is_mark (marked b bytes ++ log) ≡ (b || list_any is_mark log)
any_then b bytes log = list_any-append is_mark (marked b bytes) log ∙ ap (λ (x : Bool). x || list_any is_mark log) (any-marked b bytes)

-- ---- what a watch has seen

or_false : (b : Bool) → b ≡ (b || false)
or_false false = refl
or_false true = refl

pub sees_none : (saw : Option Bool) → SeesMarks saw [] saw
sees_none None = tt
sees_none (Some b) = ap Some (or_false b)

sees_from : (b : Bool) (mid after : Option Bool) (a : Answer) → mid ≡ Some b → SeesOne mid a after → after ≡ Some (b || says_refusal a)
sees_from b mid after a is sees = subst (λ (x : Option Bool). SeesOne x a after) is sees

sees_more : (saw mid after : Option Bool) (log : List ℕ) (a : Answer) (bytes : List ℕ) → SeesMarks saw log mid → SeesOne mid a after → SeesMarks saw (log ++ marked (says_refusal a) bytes) after
sees_more None mid after log a bytes had sees = tt
sees_more (Some b) mid after log a bytes had sees =
    sees_from (b || list_any is_mark log) mid after a had sees ∙ ap Some (or_assoc b (list_any is_mark log) (says_refusal a) ∙ ap (λ (x : Bool). b || x) (sym (any_more log (says_refusal a) bytes)))

sees_all : (saw after : Option Bool) (log : List ℕ) (answers : List Answer) → list_any is_mark log ≡ list_any says_refusal answers → SeesMarks saw log after → SeesAll saw answers after
sees_all None after log answers same had = tt
sees_all (Some b) after log answers same had = had ∙ ap (λ (x : Bool). Some (b || x)) same

-- ---- one line and those behind it

wrote_more : (taken after : Option (List ℕ)) (before log : List ℕ) (b : Bool) (bytes : List ℕ) → taken ≡ Some (before ++ bytes_of log) → Wrote taken bytes after → after ≡ Some (before ++ bytes_of (log ++ marked b bytes))
wrote_more taken after before log b bytes took wrote =
    let w : after ≡ Some ((before ++ bytes_of log) ++ bytes) = subst (λ (x : Option (List ℕ)). Wrote x bytes after) took wrote in
    w ∙ ap Some (append_assoc before (bytes_of log) bytes ∙ ap (λ (x : List ℕ). before ++ x) (sym (bytes_more log b bytes)))

-- Where the run is, by a text with marks: its bytes were written, and a watch has seen its marks.
pub record UnderMarks {P : Type 0} (told : LineText) (start : Script) (bytes : List ℕ) (t : Scene) (first : Line) (begun : List Entry) (before : List ℕ) (s : Script) (r : Run P) (l : Line) (left taken : Option (List ℕ)) (saw saw' : Option Bool) : Type 0 where
  pub log : List ℕ
  pub under : Under (marks told) start bytes t first begun [] s r l left (Some log)
  pub took : taken ≡ Some (before ++ bytes_of log)
  pub seen : SeesMarks saw log saw'

pub marks_first : {P : Type 0} {told : LineText} {start : Script} {bytes : List ℕ} {t : Scene} {before : List ℕ} {r : Run P} {left taken : Option (List ℕ)} (saw : Option Bool) (first l : Line) → first ≡ l → Shows r t → left ≡ Some bytes → taken ≡ Some before → UnderMarks told start bytes t first r.store.entries before start r l left taken saw saw
marks_first {told = told} {before = before} saw first l same shows leaves took = record {
  log = [];
  under = under_first {told = marks told} {before = []} first l same shows leaves refl;
  took = took ∙ ap Some (sym (append-nil before));
  seen = sees_none saw;
}

pub marks_next : {P : Type 0} {told : LineText} {start : Script} {bytes : List ℕ} {t : Scene} {first : Line} {begun : List Entry} {before : List ℕ} {s : Script} {r : Run P} {l : Line} {left taken : Option (List ℕ)} {saw mid : Option Bool} (a : Answer) (r' : Run P) (after : Option (List ℕ)) (next : Line) (s' : Script) (left' : Option (List ℕ)) (saw' : Option Bool) → UnderMarks told start bytes t first begun before s r l left taken saw mid → Handles r l a r' → MakesEntry r l a r' → Wrote taken (told l a (values_left r.supply)) after → SeesOne mid a saw' → ((rest : List ℕ) → left ≡ Some rest → (rest' : List ℕ) × (left' ≡ Some rest') × PassesLine s rest next s' rest') → UnderMarks told start bytes t first begun before s' r' next left' after saw saw'
marks_next {told = told} {before = before} {r = r} {l = l} {taken = taken} {saw = saw} {mid = mid} a r' after next s' left' saw' h handles makes wrote sees came =
    let text = told l a (values_left r.supply) in
    let log = h.log ++ marked (says_refusal a) text in
    record {
      log = log;
      under = under_next a r' (Some log) next s' left' h.under handles makes refl came;
      took = wrote_more taken after before h.log (says_refusal a) text h.took wrote;
      seen = sees_more saw mid saw' h.log a text h.seen sees;
    }

pub marks_end : {P : Type 0} {told : LineText} {start : Script} {bytes : List ℕ} {t : Scene} {first : Line} {begun : List Entry} {before : List ℕ} {s : Script} {r : Run P} {l : Line} {left taken : Option (List ℕ)} {saw mid : Option Bool} (a : Answer) (r' : Run P) (after : Option (List ℕ)) (behind : List ℕ) (saw' : Option Bool) (h : UnderMarks told start bytes t first begun before s r l left taken saw mid) → Handles r l a r' → MakesEntry r l a r' → Wrote taken (told l a (values_left r.supply)) after → SeesOne mid a saw' → ReadsFrom s h.under.rest [] None behind → SeesTold told start bytes t (Some first) begun before behind r'.store.entries after saw saw'
marks_end {told = told} {before = before} {r = r} {l = l} {taken = taken} {saw = saw} {mid = mid} a r' after behind saw' h handles makes wrote sees ends =
    let text = told l a (values_left r.supply) in
    let log = h.log ++ marked (says_refusal a) text in (
      log,
      under_end a r' (Some log) None behind h.under handles makes refl ends,
      wrote_more taken after before h.log (says_refusal a) text h.took wrote,
      sees_more saw mid saw' h.log a text h.seen sees,
    )

-- ---- the answers

-- by replies
pub replies_marked : (lines : List Line) (s : Scene) (log : List ℕ) (es : List Entry) → TellsLines (marks reply_of_line) s lines log es → (answers : List Answer) × AreAnswered s lines answers es × (bytes_of log ≡ flat_map answer_text answers) × (list_any is_mark log ≡ list_any says_refusal answers)
replies_marked [] s log es h = ([], (refl, h.1), ap bytes_of h.0, ap (list_any is_mark) h.0)
replies_marked (l ∷ lines) s log es h =
    let k = replies_marked lines h.1 h.2 h.3 h.7 in
    let b = says_refusal h.0 in
    let text = answer_text h.0 in (
      h.0 ∷ k.0,
      (h.0, h.1, k.0, h.3, h.4, refl, h.6, k.1),
      ap bytes_of h.5 ∙ bytes_then b text h.2 ∙ ap (λ (x : List ℕ). text ++ x) k.2,
      ap (list_any is_mark) h.5 ∙ any_then b text h.2 ∙ ap (λ (x : Bool). b || x) k.3,
    )

-- by entries
pub entries_marked : (lines : List Line) (s : Scene) (log : List ℕ) (es : List Entry) → TellsLines (marks entry_of_line) s lines log es → (answers : List Answer) × AreAnswered s lines answers es × (bytes_of log ≡ flat_map entry_text es) × (list_any is_mark log ≡ list_any says_refusal answers)
entries_marked [] s log es h = ([], (refl, h.1), ap bytes_of h.0 ∙ ap (flat_map entry_text) (sym h.1), ap (list_any is_mark) h.0)
entries_marked (l ∷ lines) s log es h =
    let k = entries_marked lines h.1 h.2 h.3 h.7 in
    let b = says_refusal h.0 in
    let made = entered l h.0 s.stock in
    let text = flat_map entry_text made in (
      h.0 ∷ k.0,
      (h.0, h.1, k.0, h.3, h.4, refl, h.6, k.1),
      ap bytes_of h.5 ∙ bytes_then b text h.2 ∙ ap (λ (x : List ℕ). text ++ x) k.2 ∙ sym (flat_map-append entry_text made h.3) ∙ ap (flat_map entry_text) (sym h.6),
      ap (list_any is_mark) h.5 ∙ any_then b text h.2 ∙ ap (λ (x : Bool). b || x) k.3,
    )

-- the bytes of such a text are all that stands behind what was written before
pub bytes_stand : (after : Option (List ℕ)) (before log text bytes : List ℕ) → after ≡ Some (before ++ bytes_of log) → Some log ≡ Some text → bytes_of text ≡ bytes → after ≡ Some (before ++ bytes)
bytes_stand after before log text bytes stands is are = stands ∙ ap (λ (x : List ℕ). Some (before ++ bytes_of x)) (same_Some log text is) ∙ ap (λ (x : List ℕ). Some (before ++ x)) are

pub log_sees : (saw after : Option Bool) (log text : List ℕ) (answers : List Answer) → Some log ≡ Some text → list_any is_mark text ≡ list_any says_refusal answers → SeesMarks saw log after → SeesAll saw answers after
log_sees saw after log text answers is same had = sees_all saw after log answers (ap (list_any is_mark) (same_Some log text is) ∙ same) had

pub replies_seen : (saw saw' : Option Bool) (s : Script) (bytes : List ℕ) (t : Scene) (first : Option Line) (p : Plan) (begun : List Entry) (before left : List ℕ) (entries : List Entry) (after : Option (List ℕ)) → SeesTold reply_of_line s bytes t first begun before left entries after saw saw' → AnswersSeen false s bytes t first p before left after saw saw'
replies_seen saw saw' s bytes t None p begun before left entries after h =
    ([], [], [], (refl, h.1.1), (refl, refl), bytes_stand after before h.0 [] [] h.2 h.1.3 refl, log_sees saw saw' h.0 [] [] h.1.3 refl h.3)
replies_seen saw saw' s bytes t (Some l) p begun before left entries after (log, (text, es, is, had, (lines, reads, tells)), stands, seen) =
    let k = replies_marked (l ∷ lines) t text es tells in
    (l ∷ lines, k.0, es, (lines, refl, reads), k.1, bytes_stand after before log text (flat_map answer_text k.0) stands is k.2, log_sees saw saw' log text k.0 is k.3 seen)

-- the end stands behind the opening and the entries
ends_with : (before head text end : List ℕ) (mid after : Option (List ℕ)) → mid ≡ Some ((before ++ head) ++ text) → Wrote mid end after → after ≡ Some (before ++ ((head ++ text) ++ end))
ends_with before head text end mid after stands wrote =
    let w : after ≡ Some (((before ++ head) ++ text) ++ end) = subst (λ (x : Option (List ℕ)). Wrote x end after) stands wrote in
    w ∙ ap Some (ap (λ (x : List ℕ). x ++ end) (append_assoc before head text) ∙ append_assoc before (head ++ text) end)

history_ends : (p : Plan) (before : List ℕ) (es entries : List Entry) (mid after : Option (List ℕ)) → entries ≡ es → mid ≡ Some ((before ++ head_text p) ++ flat_map entry_text es) → Wrote mid (end_text (length entries)) after → after ≡ Some (before ++ history_text p es)
history_ends p before es entries mid after same stands wrote =
    ends_with before (head_text p) (flat_map entry_text es) (end_text (length es)) mid after stands (subst (λ (x : List Entry). Wrote mid (end_text (length x)) after) same wrote)

pub entries_seen : (saw saw' : Option Bool) (s : Script) (bytes : List ℕ) (t : Scene) (first : Option Line) (p : Plan) (begun : List Entry) (before left : List ℕ) (entries : List Entry) (mid after : Option (List ℕ)) → begun ≡ [] → SeesTold entry_of_line s bytes t first begun (before ++ head_text p) left entries mid saw saw' → Wrote mid (end_text (length entries)) after → AnswersSeen true s bytes t first p before left after saw saw'
entries_seen saw saw' s bytes t None p begun before left entries mid after none h wrote =
    let stands = bytes_stand mid (before ++ head_text p) h.0 [] [] h.2 h.1.3 refl in
    ([], [], [], (refl, h.1.1), (refl, refl), history_ends p before [] entries mid after (h.1.2 ∙ none) stands wrote, log_sees saw saw' h.0 [] [] h.1.3 refl h.3)
entries_seen saw saw' s bytes t (Some l) p begun before left entries mid after none (log, (text, es, is, had, (lines, reads, tells)), stands, seen) wrote =
    let k = entries_marked (l ∷ lines) t text es tells in
    let same : entries ≡ es = had ∙ ap (λ (x : List Entry). x ++ es) none in
    (l ∷ lines, k.0, es, (lines, refl, reads), k.1, history_ends p before es entries mid after same (bytes_stand mid (before ++ head_text p) log text (flat_map entry_text es) stands is k.2) wrote, log_sees saw saw' log text k.0 is k.3 seen)

-- ---- the whole of a script

is_seen : (entries : Bool) (start : Start) (t : Script) (bytes rest : List ℕ) (edges : List Edge) (first : Option Line) (before left : List ℕ) (after : Option (List ℕ)) (saw saw' : Option Bool) → IsBehindEdges t first → ReadsFirst start.workers bytes (edge_lines edges) first t rest → AnswersSeen entries t rest (scene_with start edges) first (plan_with start edges) before left after saw saw' → IsWatched entries start bytes before left after saw saw'
is_seen entries start t bytes rest edges first before left after saw saw' command reads (lines, answers, es, more, are, stands, seen) =
    let parts = all_parts start t bytes rest edges first lines None left command reads more in (
      answers,
      record {
        lines = parts.lines;
        made = es;
        reads = parts.reads;
        answered = subst (λ (x : List Line). AreAnswered (scene_of start parts.lines) x answers es) (sym parts.commands_are)
            (subst (λ (x : List Edge). AreAnswered (scene_with start x) lines answers es) (sym parts.edges_are) are);
        stands = subst (λ (x : List Edge). after ≡ Some (before ++ text_as entries (plan_with start x) answers es)) (sym parts.edges_are) stands;
      },
      seen,
    )

pub on_ok : {T E : Type 0} {A B : Type 0} (r : Result T E) → (A → B) → OnOk r A → OnOk r B
on_ok (Ok done) f a = f a
on_ok (Err e) f a = tt

-- what a watch has seen of a run, by the bytes that are left and those that were taken, before it and after it
abbrev pub WatchesRun : Bool → Start → Option (List ℕ) → Option (List ℕ) → Option (List ℕ) → Option (List ℕ) → Option Bool → Option Bool → Type 0
WatchesRun entries start left left' taken taken' saw saw' =
    (bytes before : List ℕ) → left ≡ Some bytes → taken ≡ Some before → (rest : List ℕ) × (left' ≡ Some rest) × IsWatched entries start bytes before rest taken' saw saw'

-- the run has begun, and its lines were run
pub runs_seen : (entries : Bool) (start : Start) (edges : List Edge) (t : Script) (first : Option Line) (left left' left'' taken taken' taken'' : Option (List ℕ)) (saw saw' : Option Bool) → IsBehindEdges t first → ((bytes : List ℕ) → left ≡ Some bytes → (rest : List ℕ) × (left' ≡ Some rest) × ReadsFirst start.workers bytes (edge_lines edges) first t rest) → KeepsBytes taken taken' → ((rest before : List ℕ) → left' ≡ Some rest → taken' ≡ Some before → (last : List ℕ) × (left'' ≡ Some last) × AnswersSeen entries t rest (scene_with start edges) first (plan_with start edges) before last taken'' saw saw') → WatchesRun entries start left left'' taken taken'' saw saw'
runs_seen entries start edges t first left left' left'' taken taken' taken'' saw saw' command begins keeps lines bytes before leaves takes =
    let n = begins bytes leaves in
    let had = lines n.0 before n.1 (keeps_known taken taken' before takes keeps) in
    (had.0, had.1, is_seen entries start t bytes n.0 edges first before had.0 taken'' saw saw' command n.2 had.2)

answered_keeps : (entries : Bool) (start : Start) (bytes before left : List ℕ) (mid after : Option (List ℕ)) (answers : List Answer) → KeepsBytes mid after → RanToEnd entries start bytes before left mid answers → RanToEnd entries start bytes before left after answers
answered_keeps entries start bytes before left mid after answers keeps h = record {
  lines = h.lines;
  made = h.made;
  reads = h.reads;
  answered = h.answered;
  stands = keeps_known mid after (before ++ text_as entries (plan_of start h.lines) answers h.made) h.stands keeps;
}

ends_as : {T : Type 0} (outcome result : Result T ScriptFault) (mid after : Option (List ℕ)) (f g : ℕ) (A : Option (List ℕ) → Type 0) → Finishes mid f outcome result after g → (KeepsBytes mid after → A mid → A after) → OnOk outcome (A mid) → OnOk result (A after)
ends_as outcome (Err e) mid after f g A ended moves had = tt
ends_as (Ok done) (Ok other) mid after f g A (keeps, h) moves had = moves keeps had
ends_as (Err e) (Ok other) mid after f g A (keeps, inl h) moves had = absurd cc
ends_as (Err e) (Ok other) mid after f g A (keeps, inr h) moves had = absurd (false≢true h.0)

-- its sink was finished
pub seen_finished : {T : Type 0} (entries : Bool) (start : Start) (left left' taken mid taken' : Option (List ℕ)) (saw saw' : Option Bool) (outcome result : Result T ScriptFault) (f g : ℕ) → Finishes mid f outcome result taken' g → OnOk outcome (WatchesRun entries start left left' taken mid saw saw') → OnOk result (WatchesRun entries start left left' taken taken' saw saw')
seen_finished entries start left left' taken mid taken' saw saw' outcome result f g ended had =
    let A : Option (List ℕ) → Type 0 = λ after. WatchesRun entries start left left' taken after saw saw' in
    ends_as outcome result mid taken' f g A ended
    (λ keeps h bytes before leaves takes. let k = h bytes before leaves takes in (k.0, k.1, (k.2.0, answered_keeps entries start bytes before k.0 mid taken' k.2.0 keeps k.2.1, k.2.2))) had
