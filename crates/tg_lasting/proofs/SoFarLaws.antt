-- A script on a kept store, as far as it was run.
use Rattle.std.proofs.Common.{◌≡◌, ◌≢◌, ◌∙◌, inl, inr, ◌⊎◌, ℕ, ◌+◌, ◌-◌, ◌*◌, ◌<◌, ◌≤◌, Bool, true, false, List, [], ◌∷◌, ◌++◌, length, Option, Some, None, Result, Ok, Err, refl, sym, ap, subst, arith, append_assoc, append-nil}
use Rattle.std.specs.Prelude.{IsTrue, ◌||◌}
use Rattle.std.specs.List.{flat_map, list_any}
use Rattle.std.proofs.lemmas.List.Concat.{flat_map-append}
use Rattle.std.proofs.lemmas.List.Folds.{list_any-append}
use Rattle.sqlite_disk.specs.declared.Disk as disk
use Rattle.tg_model.specs.Graph.{ProtectionGraph}
use Rattle.tg_journal.specs.declared.entry.Entry.{Entry}
use Rattle.tg_journal.specs.History.{IsLegal}
use Rattle.tg_journal.proofs.HistoryLaws.{IsLegal-append}
use Rattle.tg_store.specs.Origin.{Origin}
use Rattle.tg_store.specs.Store.{StoreState, graph_of_store}
use Rattle.tg_text.specs.declared.line.Line.{Line}
use Rattle.tg_text.specs.declared.answer.Answer.{Answer}
use Rattle.tg_text.specs.declared.fault.ScriptFault.{ScriptFault}
use Rattle.tg_text.specs.declared.fault.ScriptFault.TheVariants as fault
use Rattle.tg_text.specs.Reading.{Reads}
use Rattle.tg_text.specs.Refusing.{says_refusal}
use Rattle.tg_text.specs.Texts.{answer_text}
use Rattle.tg_script.specs.declared.parts.ScriptRun.{ScriptRun}
use Rattle.tg_script.specs.declared.script.Script.{Script}
use Rattle.tg_script.specs.Parts.{GoesFurther, GoesPart, ReadsPart, ReadsPartAfter, scene_after, scene_in}
use Rattle.tg_script.specs.Script.{Scene}
use Rattle.tg_script.specs.Watching.{AreAnswered, SeesAll}
use Rattle.tg_script.proofs.LinesLaws.{reads_end}
use Rattle.tg_script.proofs.PartLaws.{answered-append, scene_after-append}
use Rattle.tg_keep.specs.Lines.{history_of}
use Rattle.tg_kept.specs.Keeping.{IsKept}
use Rattle.tg_kept.specs.Texts.{SaysFront, kept_lines}
use Rattle.tg_lasting.specs.Answering.{AnswersFirst, AnswersLines, EndsKept, HasFront, HasReplies, KeptRan, LeavesAlso, LeavesExactly, PartServed, StaysKept}
use Rattle.tg_lasting.specs.Chunks.{ChunkCame, ComesNext, MayEndPart}
use Rattle.tg_lasting.specs.declared.fault.KeptFault.{KeptFault}
use Rattle.tg_lasting.specs.declared.fault.KeptFault.TheVariants as kept
use Rattle.tg_lasting.specs.declared.part.KeptScript.{KeptScript}
use Rattle.tg_lasting.proofs.ChunkLaws.{reads_all, stop_kept, stop_reading}
use Rattle.tg_kept.proofs.KeepingLaws.{leaves_same}
use Rattle.tg_lasting.proofs.KeepingPartLaws.{MayStopAt, cut_part, kept_exactly}

-- ---- what a watch has seen

or_assoc : (a b c : Bool) → ((a || b) || c) ≡ (a || (b || c))
or_assoc true b c = refl
or_assoc false b c = refl

sees_more : (saw mid after : Option Bool) (answers more : List Answer) → SeesAll saw answers mid → SeesAll mid more after → SeesAll saw (answers ++ more) after
sees_more None mid after answers more h k = tt
sees_more (Some had) mid after answers more h k =
    let S : Option Bool → Type 0 = λ x. SeesAll x more after in
    let here : after ≡ Some ((had || list_any says_refusal answers) || list_any says_refusal more) = subst S h k in
    here ∙ ap Some (or_assoc had (list_any says_refusal answers) (list_any says_refusal more) ∙ ap (λ (b : Bool). had || b) (sym (list_any-append says_refusal answers more)))

-- ---- parts that were answered

-- a part is read like this with more bytes behind
all_after : (first : Option Line) (s : Script) (lines : List Line) (chunk rest : List ℕ) (last : Bool) (f : ScriptFault) (left : List ℕ) → MayEndPart chunk last rest → ReadsPartAfter first s chunk lines (Some f) left → ReadsPartAfter first s (chunk ++ rest) lines (Some f) (left ++ rest)
all_after None s lines chunk rest last f left ends h = reads_all lines s.workers s.lines.room s.count false chunk rest last f left ends h
all_after (Some l) s lines chunk rest last f left ends h = (h.0, h.1, reads_all h.0 s.workers s.lines.room s.count false chunk rest last f left ends h.2)

-- The lines of the bytes before were answered, and what is read from here on is read after them.
pub record AnsweredSoFar {D P : Type 0} (first : KeptScript D P) (done before : List ℕ) (saw : Option Bool) (on : KeptScript D P) (taken : Option (List ℕ)) (saw' : Option Bool) : Type 0 where
  pub lines : List Line
  pub answers : List Answer
  pub es : List Entry
  pub further : (more : List ℕ) (others : List Line) (end : Option ScriptFault) (left : List ℕ) → ReadsPart on.run more others end left → ReadsPart first.run (done ++ more) (lines ++ others) end left
  pub answered : AreAnswered (scene_in first.run) lines answers es
  pub scene : scene_in on.run ≡ scene_after (scene_in first.run) es
  pub entries : on.run.begun.run.store.entries ≡ first.run.begun.run.store.entries ++ es
  pub opening : on.run.begun.run.store.opening ≡ first.run.begun.run.store.opening
  pub legal : IsLegal (graph_of_store first.run.begun.run.store) es
  pub took : HasReplies before answers taken
  pub seen : SeesAll saw answers saw'

pub none_answered : {D P : Type 0} (first : KeptScript D P) (before : List ℕ) (saw : Option Bool) (taken : Option (List ℕ)) → taken ≡ Some before → SeesAll saw [] saw → AnsweredSoFar first [] before saw first taken saw
none_answered first before saw taken is sees = record {
  lines = [];
  answers = [];
  es = [];
  further = λ more others end left h. h;
  answered = (refl, refl);
  scene = refl;
  entries = sym (append-nil first.run.begun.run.store.entries);
  opening = refl;
  legal = tt;
  took = is ∙ ap Some (sym (append-nil before));
  seen = sees;
}

module _ {D P : Type 0} (first on : KeptScript D P) (done before : List ℕ) (saw saw' : Option Bool) (taken : Option (List ℕ)) (so : AnsweredSoFar first done before saw on taken saw') where
  -- what the sink has
  abbrev pub told : List ℕ
  told = before ++ flat_map answer_text so.answers

  replies_more : (more : List Answer) (after : Option (List ℕ)) → HasReplies told more after → HasReplies before (so.answers ++ more) after
  replies_more more after is =
      is ∙ ap Some (append_assoc before (flat_map answer_text so.answers) (flat_map answer_text more) ∙ ap (λ (x : List ℕ). before ++ x) (sym (flat_map-append answer_text so.answers more)))

  front_more : (more : List Answer) (after : Option (List ℕ)) → HasFront told more after → HasFront before (so.answers ++ more) after
  front_more more after (front, rest, is, stands) =
      let all = flat_map answer_text so.answers in (
        all ++ front,
        rest,
        flat_map-append answer_text so.answers more ∙ ap (λ (x : List ℕ). all ++ x) is ∙ sym (append_assoc all front rest),
        stands ∙ ap Some (append_assoc before all front),
      )

  legal_more : (more : List Entry) → IsLegal (graph_of_store on.run.begun.run.store) more → IsLegal (graph_of_store first.run.begun.run.store) (so.es ++ more)
  legal_more more h =
      let G : ProtectionGraph → Type 0 = λ g. IsLegal g more in
      IsLegal-append (graph_of_store first.run.begun.run.store) so.es more so.legal (subst G (ap (λ (s : Scene). s.graph) so.scene) h)

  answered_more : (lines : List Line) (answers : List Answer) (es : List Entry) → AreAnswered (scene_in on.run) lines answers es → AreAnswered (scene_in first.run) (so.lines ++ lines) (so.answers ++ answers) (so.es ++ es)
  answered_more lines answers es h =
      let S : Scene → Type 0 = λ s. AreAnswered s lines answers es in
      answered-append so.lines lines (scene_in first.run) so.answers answers so.es es so.answered (subst S so.scene h)

  -- the lines of the store's entries, with more of them
  kept_more : (es : List Entry) → kept_lines on.run.begun.run.store.opening.plan (on.run.begun.run.store.entries ++ es) ≡ kept_lines first.run.begun.run.store.opening.plan (first.run.begun.run.store.entries ++ (so.es ++ es))
  kept_more es =
      ap (λ (o : Origin). kept_lines o.plan (on.run.begun.run.store.entries ++ es)) so.opening
      ∙ ap (λ (l : List Entry). kept_lines first.run.begun.run.store.opening.plan (l ++ es)) so.entries
      ∙ ap (kept_lines first.run.begun.run.store.opening.plan) (append_assoc first.run.begun.run.store.entries so.es es)

  exactly_more : (g : disk.Ghosts D) (es : List Entry) (at : D) → LeavesExactly g on.run.begun.run.store es at → LeavesExactly g first.run.begun.run.store (so.es ++ es) at
  exactly_more g es at leaves clean c may = leaves clean c may ∙ kept_more es

  also_more : (g : disk.Ghosts D) (es more : List Entry) (at : D) → LeavesAlso g on.run.begun.run.store es more at → LeavesAlso g first.run.begun.run.store (so.es ++ es) more at
  also_more g es more at leaves clean c may =
      let k = leaves clean c may in
      let O : Origin → Type 0 = λ o. SaysFront o.plan (on.run.begun.run.store.entries ++ es) more (history_of c) in
      let E : List Entry → Type 0 = λ l. SaysFront first.run.begun.run.store.opening.plan (l ++ es) more (history_of c) in
      let A : List Entry → Type 0 = λ l. SaysFront first.run.begun.run.store.opening.plan l more (history_of c) in
      subst A (append_assoc first.run.begun.run.store.entries so.es es) (subst E so.entries (subst O so.opening k))

  -- these bytes come next, and these after them
  module _ (bytes chunk rest : List ℕ) (last : Bool) (split : bytes ≡ done ++ (chunk ++ rest)) (ends : MayEndPart chunk last rest) where
    read_more : (lines : List Line) (f : ScriptFault) (left : List ℕ) → ReadsPart on.run chunk lines (Some f) left → ReadsPart first.run bytes (so.lines ++ lines) (Some f) (left ++ rest)
    read_more lines f left h =
        let B : List ℕ → Type 0 = λ x. ReadsPart first.run x (so.lines ++ lines) (Some f) (left ++ rest) in
        subst B (sym split) (so.further (chunk ++ rest) lines (Some f) (left ++ rest) (all_after on.run.begun.first on.run.begun.script lines chunk rest last f left ends h))

    lines_more : (f : ScriptFault) (left : List ℕ) (answers : List Answer) (es : List Entry) → AnswersLines on.run chunk (Some f) left answers es → AnswersLines first.run bytes (Some f) (left ++ rest) (so.answers ++ answers) (so.es ++ es)
    lines_more f left answers es h = record {
      lines = so.lines ++ h.lines;
      reads = read_more h.lines f left h.reads;
      answered = answered_more h.lines answers es h.answered;
      legal = legal_more es h.legal;
    }

    abbrev first_more : (answers : List Answer) (es : List Entry) → AnswersFirst on.run chunk answers es → AnswersFirst first.run bytes (so.answers ++ answers) (so.es ++ es)
    first_more answers es h =
        let cut = cut_part on.run fault.OutOfMemory stop_kept (h.lines ++ h.later) chunk h.end h.left h.reads in
        let R : List Line → Type 0 = λ l. ReadsPart first.run bytes l (Some fault.OutOfMemory) (cut.0 ++ rest) in
        let S : Scene → Type 0 = λ s. AreAnswered s h.later h.held h.more in
        let L : List Entry → Type 0 = λ l. IsLegal (graph_of_store first.run.begun.run.store) l in
        record {
          lines = so.lines ++ h.lines;
          later = h.later;
          end = Some fault.OutOfMemory;
          left = cut.0 ++ rest;
          reads = subst R (sym (append_assoc so.lines h.lines h.later)) (read_more (h.lines ++ h.later) fault.OutOfMemory cut.0 cut.1);
          answered = answered_more h.lines answers es h.answered;
          held = h.held;
          more = h.more;
          unanswered = subst S (ap (λ (s : Scene). scene_after s es) so.scene ∙ sym (scene_after-append (scene_in first.run) so.es es)) h.unanswered;
          legal = subst L (sym (append_assoc so.es es h.more)) (legal_more (es ++ h.more) h.legal);
        }

    -- a part ended the run
    pub ends_more_kept : (g : disk.Ghosts D) (why : KeptFault) (after : Option (List ℕ)) (at : D) → EndsKept g on.run chunk told why after at → EndsKept g first.run bytes before why after at
    ends_more_kept g (kept.Script fault.WriteFailed) after at h =
        (so.answers ++ h.0, so.es ++ h.1, h.2 ++ rest, lines_more fault.WriteFailed h.2 h.0 h.1 h.3, front_more h.0 after h.4, exactly_more g h.1 at h.5)
    ends_more_kept g (kept.Script fault.OutOfMemory) after at h =
        (so.answers ++ h.0, so.es ++ h.1, first_more h.0 h.1 h.2, replies_more h.0 after h.3, exactly_more g h.1 at h.4)
    ends_more_kept g (kept.Script f) after at h =
        (so.answers ++ h.0, so.es ++ h.1, h.2 ++ rest, lines_more f h.2 h.0 h.1 h.3, replies_more h.0 after h.4, exactly_more g h.1 at h.5)
    ends_more_kept g (kept.Lost why) after at h =
        (so.answers ++ h.0, so.es ++ h.1, first_more h.0 h.1 h.2, replies_more h.0 after h.3, also_more g h.1 h.2.more at h.4)

  -- a part was answered, and the next one may come
  pub part_answered : (next : KeptScript D P) (chunk left : List ℕ) (answers : List Answer) (es : List Entry) (after : Option (List ℕ)) (saw'' : Option Bool) (gone : GoesPart on.run next.run chunk None left answers es) → GoesFurther on.run next.run chunk gone.lines es → HasReplies told answers after → SeesAll saw' answers saw''
      → AnsweredSoFar first (done ++ chunk) before saw next after saw''
  part_answered next chunk left answers es after saw'' gone further took seen = record {
    lines = so.lines ++ gone.lines;
    answers = so.answers ++ answers;
    es = so.es ++ es;
    further = λ more others end last h.
        let B : List ℕ → Type 0 = λ x. ReadsPart first.run x ((so.lines ++ gone.lines) ++ others) end last in
        let L : List Line → Type 0 = λ l. ReadsPart first.run (done ++ (chunk ++ more)) l end last in
        subst B (sym (append_assoc done chunk more)) (subst L (sym (append_assoc so.lines gone.lines others)) (so.further (chunk ++ more) (gone.lines ++ others) end last (further.further more others end last h)));
    answered = answered_more gone.lines answers es gone.answered;
    scene = further.scene ∙ ap (λ (s : Scene). scene_after s es) so.scene ∙ sym (scene_after-append (scene_in first.run) so.es es);
    entries = gone.entries ∙ ap (λ (l : List Entry). l ++ es) so.entries ∙ append_assoc first.run.begun.run.store.entries so.es es;
    opening = gone.opening ∙ so.opening;
    legal = legal_more es gone.legal;
    took = replies_more answers after took;
    seen = sees_more saw saw' saw'' so.answers answers so.seen seen;
  }

-- ---- the end

pub sees_nothing : (saw : Option Bool) → SeesAll saw [] saw
sees_nothing None = tt
sees_nothing (Some true) = refl
sees_nothing (Some false) = refl

-- nothing more is read
nothing_read : (first : Option Line) (s : Script) → first ≡ None → ReadsPartAfter first s [] [] None []
nothing_read first s none = let P : Option Line → Type 0 = λ x. ReadsPartAfter x s [] [] None [] in subst P (sym none) (refl, refl)

stops_before : (first : Option Line) (s : Script) (f : ScriptFault) (rest : List ℕ) → MayStopAt f → first ≡ None → ReadsPartAfter first s rest [] (Some f) rest
stops_before first s f rest stop none = let P : Option Line → Type 0 = λ x. ReadsPartAfter x s rest [] (Some f) rest in subst P (sym none) (stop s.workers s.lines.room s.count false rest)

module _ {D P : Type 0} (g : disk.Ghosts D) (first on : KeptScript D P) (done before bytes rest : List ℕ) (saw saw' : Option Bool) (taken : Option (List ℕ)) (so : AnsweredSoFar first done before saw on taken saw') (none : on.run.begun.first ≡ None)
    (kept_on : IsKept g on.run.begun.run.store on.file) (split : bytes ≡ done ++ rest) where
  leaves_exactly : LeavesExactly g first.run.begun.run.store so.es on.file.disk
  leaves_exactly = kept_exactly first.run.begun.run.store on.run.begun.run.store so.es so.opening so.entries g on.file.disk (leaves_same g on.run.begun.run.store on.file kept_on)

  abbrev stopped : (f : ScriptFault) → MayStopAt f → AnswersLines first.run bytes (Some f) rest so.answers so.es
  stopped f stop =
      let B : List ℕ → Type 0 = λ x. ReadsPart first.run x so.lines (Some f) rest in
      let L : List Line → Type 0 = λ l. ReadsPart first.run (done ++ rest) l (Some f) rest in
      record {
        lines = so.lines;
        reads = subst B (sym split) (subst L (append-nil so.lines) (so.further rest [] (Some f) rest (stops_before on.run.begun.first on.run.begun.script f rest stop none)));
        answered = so.answered;
        legal = so.legal;
      }

  -- the reader failed, or there was no memory for the next part
  pub chunk_failed : (f : ScriptFault) (chunk left : List ℕ) → ChunkCame rest chunk (Err f) left → EndsKept g first.run bytes before (kept.Script f) taken on.file.disk
  chunk_failed fault.ReadFailed chunk left came = (so.answers, so.es, rest, stopped fault.ReadFailed stop_reading, so.took, leaves_exactly)
  chunk_failed fault.OutOfMemory chunk left came =
      let h = stopped fault.OutOfMemory stop_kept in
      let R : List Line → Type 0 = λ l. ReadsPart first.run bytes l (Some fault.OutOfMemory) rest in
      let E : List Entry → Type 0 = λ l. IsLegal (graph_of_store first.run.begun.run.store) l in (
        so.answers,
        so.es,
        record {
          lines = so.lines;
          later = [];
          end = Some fault.OutOfMemory;
          left = rest;
          reads = subst R (sym (append-nil so.lines)) h.reads;
          answered = so.answered;
          held = [];
          more = [];
          unanswered = (refl, refl);
          legal = subst E (sym (append-nil so.es)) so.legal;
        },
        so.took,
        leaves_exactly,
      )
  chunk_failed f chunk left came = absurd came

  -- all was answered
  pub all_answered : {T : Type 0} (done : T) → rest ≡ [] → KeptRan g first on bytes before saw (Ok done) taken saw'
  all_answered result ended =
      let B : List ℕ → Type 0 = λ x. ReadsPart first.run x so.lines None [] in
      let N : List ℕ → Type 0 = λ x. ReadsPart first.run (done ++ x) so.lines None [] in
      let L : List Line → Type 0 = λ l. ReadsPart first.run (done ++ []) l None [] in (
        so.answers,
        so.es,
        record {
          lines = so.lines;
          reads = subst B (sym split) (subst N (sym ended) (subst L (append-nil so.lines) (so.further [] [] None [] (nothing_read on.run.begun.first on.run.begun.script none))));
          answered = so.answered;
          legal = so.legal;
        },
        so.took,
        record { entries = so.entries; opening = so.opening; kept = kept_on },
        so.seen,
      )

-- ---- the bytes that may still come

abbrev pub flag_of : Bool → ℕ
flag_of true = 0
flag_of false = 1

pub fewer : (room room' size size' : ℕ) (last last' : Bool) → last ≡ false → room' + size ≡ room → (last' ≡ false → 0 < size') → 2 * ((room' + 1) - size') + flag_of last' < 2 * ((room + 1) - size) + flag_of last
fewer room room' size size' last true more_come rooms some = omega (arith, rooms, ap flag_of more_come)
fewer room room' size size' last false more_come rooms some = omega (arith, rooms, some refl, ap flag_of more_come)

-- ---- between two parts

-- a part came, which is to be answered next
pub record CameSoFar {D P : Type 0} (first : KeptScript D P) (bytes before : List ℕ) (saw : Option Bool) (on : KeptScript D P) (chunk : List ℕ) (last : Bool) (left taken : Option (List ℕ)) (saw' : Option Bool) : Type 0 where
  pub done : List ℕ
  pub rest : List ℕ
  pub leaves : left ≡ Some rest
  pub split : bytes ≡ done ++ (chunk ++ rest)
  pub ends : MayEndPart chunk last rest
  pub so : AnsweredSoFar first done before saw on taken saw'

pub came_first : {D P : Type 0} (first : KeptScript D P) (bytes before : List ℕ) (saw : Option Bool) (chunk : List ℕ) (left taken : Option (List ℕ)) → chunk ≡ [] → left ≡ Some bytes → taken ≡ Some before → CameSoFar first bytes before saw first chunk false left taken saw
came_first first bytes before saw chunk left taken empty leaves is =
    let C : List ℕ → Type 0 = λ x. CameSoFar first bytes before saw first x false left taken saw in
    subst C (sym empty) (record { done = []; rest = bytes; leaves = leaves; split = refl; ends = inr (refl, inl refl); so = none_answered first before saw taken is (sees_nothing saw) })

-- it was answered
pub record AnsweredPart {D P : Type 0} (first : KeptScript D P) (bytes before : List ℕ) (saw : Option Bool) (next : KeptScript D P) (last : Bool) (left after : Option (List ℕ)) (saw' : Option Bool) : Type 0 where
  pub done : List ℕ
  pub rest : List ℕ
  pub leaves : left ≡ Some rest
  pub split : bytes ≡ done ++ rest
  pub so : AnsweredSoFar first done before saw next after saw'
  pub none : next.run.begun.first ≡ None

abbrev pub answered_part : {D P : Type 0} (g : disk.Ghosts D) (first on next : KeptScript D P) (bytes before chunk : List ℕ) (last : Bool) (left taken after : Option (List ℕ)) (saw mid saw' : Option Bool) (came : CameSoFar first bytes before saw on chunk last left taken mid)
    → PartServed {T = Unit {0}} g on next chunk (before ++ flat_map answer_text came.so.answers) mid (Ok tt) after saw' → AnsweredPart first bytes before saw next last left after saw'
answered_part g first on next bytes before chunk last left taken after saw mid saw' came h = record {
  done = came.done ++ chunk;
  rest = came.rest;
  leaves = came.leaves;
  split = came.split ∙ sym (append_assoc came.done chunk came.rest);
  so = part_answered first on came.done before saw mid taken came.so next chunk h.2 h.0 h.1 after saw' h.3 h.4 h.5 h.6;
  none = h.4.first;
}

-- and the next one came
pub came_next : {D P : Type 0} (first on : KeptScript D P) (bytes before chunk : List ℕ) (last last' : Bool) (left left' taken : Option (List ℕ)) (saw saw' : Option Bool) → AnsweredPart first bytes before saw on last left taken saw' → ComesNext left left' chunk (Ok last') → CameSoFar first bytes before saw on chunk last' left' taken saw'
came_next first on bytes before chunk last last' left left' taken saw saw' had comes =
    let k = comes had.rest had.leaves in
    record {
      done = had.done;
      rest = k.0;
      leaves = k.1;
      split = had.split ∙ ap (λ (x : List ℕ). had.done ++ x) k.2.0;
      ends = k.2.1;
      so = had.so;
    }
