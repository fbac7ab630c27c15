-- One part on a kept store: its replies in memory, its entries in the file, and its replies in the sink.
use Rattle.std.proofs.Common.{◌≡◌, ◌≢◌, ◌∙◌, inl, inr, ◌⊎◌, ℕ, ◌+◌, ◌≤◌, Bool, true, false, List, [], ◌∷◌, ◌++◌, drop, length, take, Option, Some, None, Result, Ok, Err, IsErrAnd, refl, sym, ap, subst, arith, append_assoc, append-nil, length-append}
use Rattle.std.specs.Prelude.{IfErr, IsOk, IsTrue, OnOk}
use Rattle.std.specs.List.{flat_map}
use Rattle.std.proofs.Math.Seq.{drop-append_seam, take-append_seam}
use Rattle.std.proofs.lemmas.Bool.{false≢true}
use Rattle.std.proofs.lemmas.Option.{same_Some}
use Rattle.std.proofs.lemmas.Result.{err_from_is_err_and}
use Rattle.sqlite_disk.specs.declared.Disk as disk
use Rattle.tg_journal.specs.declared.entry.Entry.{Entry}
use Rattle.tg_journal.specs.History.{IsLegal}
use Rattle.tg_store.specs.Origin.{Origin}
use Rattle.tg_store.specs.Store.{StoreState, graph_of_store}
use Rattle.tg_text.specs.declared.line.Line.{Line}
use Rattle.tg_text.specs.declared.answer.Answer.{Answer}
use Rattle.tg_text.specs.declared.fault.ScriptFault.{ScriptFault}
use Rattle.tg_text.specs.declared.fault.ScriptFault.TheVariants as fault
use Rattle.tg_text.specs.Reading.{Ends}
use Rattle.tg_text.specs.Sinks.{KeepsBytes, Wrote, WroteSome}
use Rattle.tg_text.specs.Texts.{answer_text}
use Rattle.tg_script.specs.declared.parts.ScriptRun.{ScriptRun}
use Rattle.tg_script.specs.declared.script.Script.{Script}
use Rattle.tg_script.specs.Lines.{IsOfReading}
use Rattle.tg_script.specs.Parts.{GivesUp, GoesFurther, GoesPart, IsWaiting, PartRan, ReadsPart, ReadsPartAfter, may_come, scene_after, scene_in}
use Rattle.tg_script.specs.Script.{Scene}
use Rattle.tg_script.specs.Watching.{AreAnswered, SeesAll}
use Rattle.tg_script.specs.Inner.Supply.{values_left}
use Rattle.tg_keep.specs.declared.file.LineFile.{LineFile}
use Rattle.tg_keep.specs.Lines.{history_of}
use Rattle.tg_kept.specs.Keeping.{BeganByOpening, IsKept, KeepsUpTo, LeavesFrom, LeavesStore}
use Rattle.tg_kept.specs.Texts.{SaysFront, kept_lines}
use Rattle.tg_script.proofs.LinesLaws.{wrote_keeps}
use Rattle.tg_kept.proofs.KeepingLaws.{began_same, keeps_same, leaves_same}
use Rattle.tg_lasting.specs.Answering.{AnswersFirst, AnswersLines, EndsKept, HasFront, TakesReplies, HasReplies, IsPartDone, IsReadyScript, KeepsPart, LeavesAlso, LeavesExactly, PartHanded, PartKept, PartServed, is_cut}
use Rattle.tg_lasting.specs.declared.fault.KeptFault.{KeptFault}
use Rattle.tg_lasting.specs.declared.fault.KeptFault.TheVariants as kept
use Rattle.tg_lasting.specs.declared.part.KeptScript.{KeptScript}
use Rattle.tg_lasting.specs.declared.part.Replied.{Replied}
use Rattle.tg_lasting.proofs.ChunkLaws.{reads_cut, stop_writing}

-- ---- reading a part, whatever line was read before it

-- reading may stop with this fault anywhere
abbrev pub MayStopAt : ScriptFault → Type 0
MayStopAt f = (workers room count : ℕ) (opening : Bool) (bytes : List ℕ) → Ends workers room count opening bytes (Some f) bytes

cut_after : (first : Option Line) (s : Script) (f : ScriptFault) → MayStopAt f → (lines : List Line) (bytes : List ℕ) (end : Option ScriptFault) (left : List ℕ) → ReadsPartAfter first s bytes lines end left → (last : List ℕ) × ReadsPartAfter first s bytes lines (Some f) last
cut_after None s f stop lines bytes end left h = reads_cut f stop lines s.workers s.lines.room s.count false bytes end left h
cut_after (Some l) s f stop lines bytes end left h =
    let k = reads_cut f stop h.0 s.workers s.lines.room s.count false bytes end left h.2 in
    (k.0, (h.0, h.1, k.1))

pub cut_part : {P : Type 0} (r : ScriptRun P) (f : ScriptFault) → MayStopAt f → (lines : List Line) (bytes : List ℕ) (end : Option ScriptFault) (left : List ℕ) → ReadsPart r bytes lines end left → (last : List ℕ) × ReadsPart r bytes lines (Some f) last
cut_part r f stop lines bytes end left h = cut_after r.begun.first r.begun.script f stop lines bytes end left h

-- ---- the store of a part

-- the store kept what it had, and has these entries more
module _ (old new : StoreState) (es : List Entry) (opening : new.opening ≡ old.opening) (entries : new.entries ≡ old.entries ++ es) where
  pub kept_exactly : {D : Type 0} (g : disk.Ghosts D) (at : D) → LeavesStore g new at → LeavesExactly g old es at
  kept_exactly g at leaves clean c may =
      leaves clean c may ∙ ap (λ (o : Origin). kept_lines o.plan new.entries) opening ∙ ap (kept_lines old.opening.plan) entries

  front_is : take (length old.entries) new.entries ≡ old.entries
  front_is = ap (take (length old.entries)) entries ∙ take-append_seam old.entries es

  rest_is : drop (length old.entries) new.entries ≡ es
  rest_is = ap (drop (length old.entries)) entries ∙ drop-append_seam old.entries es

  -- or was lost, with a front of them in the file
  pub lost_also : {D : Type 0} (g : disk.Ghosts D) (place : ℕ) (before after : D) → place ≡ length old.entries → LeavesFrom g place new before after → LeavesAlso g old [] es after
  lost_also g place before after at left clean c may =
      let texts = history_of c in
      let N : ℕ → Type 0 = λ n. SaysFront new.opening.plan (take n new.entries) (drop n new.entries) texts in
      let O : Origin → Type 0 = λ o. SaysFront o.plan (take (length old.entries) new.entries) (drop (length old.entries) new.entries) texts in
      let F : List Entry → Type 0 = λ l. SaysFront old.opening.plan l (drop (length old.entries) new.entries) texts in
      let R : List Entry → Type 0 = λ l. SaysFront old.opening.plan old.entries l texts in
      let E : List Entry → Type 0 = λ l. SaysFront old.opening.plan l es texts in
      subst E (sym (append-nil old.entries)) (subst R rest_is (subst F front_is (subst O opening (subst N at (left.crash clean c may)))))

  -- the file is ready for the entries from the place on
  pub keeps_upto : {D : Type 0} (g : disk.Ghosts D) (file : LineFile D) (place : ℕ) → place ≡ length old.entries → new.handed ≡ old.handed → old.handed ≤ length old.entries → IsKept g old file → KeepsUpTo g place new file
  keeps_upto g file place at handed within kept =
      let B : Origin → Type 0 = λ o. BeganByOpening o in
      record {
        opened = subst B (sym opening) kept.opened;
        writable = kept.writable;
        held = omega (arith, at, handed, within);
        within = omega (arith, at, ap length entries, length-append old.entries es);
        says = λ clean.
            kept.keeps clean
            ∙ ap (kept_lines old.opening.plan) (sym front_is)
            ∙ ap (λ (n : ℕ). kept_lines old.opening.plan (take n new.entries)) (sym at)
            ∙ ap (λ (o : Origin). kept_lines o.plan (take place new.entries)) (sym opening);
      }

-- nothing was put
pub kept_none : {D : Type 0} (g : disk.Ghosts D) (s : StoreState) (at : D) → LeavesStore g s at → LeavesExactly g s [] at
kept_none g s at leaves clean c may = leaves clean c may ∙ ap (kept_lines s.opening.plan) (sym (append-nil s.entries))

-- ---- entries were given up

module _ {P : Type 0} (old mid new : ScriptRun P) (upto : ℕ) (up : GivesUp upto mid new) where
  up_scene : scene_in new ≡ scene_in mid
  up_scene = λ i. record {
    graph = graph_of_store (record { opening = up.store.opening i; entries = up.store.entries i; handed = new.begun.run.store.handed; heap = new.begun.run.store.heap; collections = new.begun.run.store.collections });
    stock = values_left (up.supply i);
    helpers = up.helpers i;
  }

  abbrev pub up_part : (bytes : List ℕ) (end : Option ScriptFault) (left : List ℕ) (answers : List Answer) (es : List Entry) → GoesPart old mid bytes end left answers es → GoesPart old new bytes end left answers es
  up_part bytes end left answers es gone = record {
    lines = gone.lines;
    reads = gone.reads;
    answered = gone.answered;
    legal = gone.legal;
    entries = up.store.entries ∙ gone.entries;
    opening = up.store.opening ∙ gone.opening;
  }

  pub up_further : (bytes : List ℕ) (lines : List Line) (es : List Entry) → GoesFurther old mid bytes lines es → GoesFurther old new bytes lines es
  up_further bytes lines es further = record {
    scene = up_scene ∙ further.scene;
    further = λ more others end left h.
        let S : Script → Type 0 = λ x. ReadsPartAfter new.begun.first x more others end left in
        let F : Option Line → Type 0 = λ x. ReadsPartAfter x mid.begun.script more others end left in
        further.further more others end left (subst F up.first (subst S up.script h));
    first = up.first ∙ further.first;
    room = ap (λ (x : Script). x.lines.room + length bytes) up.script ∙ further.room;
  }

-- ---- what was answered of a part

pub answers_lines : {P : Type 0} (old new : ScriptRun P) (bytes : List ℕ) (end : Option ScriptFault) (left : List ℕ) (answers : List Answer) (es : List Entry) → GoesPart old new bytes end left answers es → AnswersLines old bytes end left answers es
answers_lines old new bytes end left answers es gone = record { lines = gone.lines; reads = gone.reads; answered = gone.answered; legal = gone.legal }

-- no line of the part was answered
abbrev answers_none : {P : Type 0} (old new : ScriptRun P) (bytes : List ℕ) (end : Option ScriptFault) (left : List ℕ) (answers : List Answer) (es : List Entry) → GoesPart old new bytes end left answers es → AnswersFirst old bytes [] []
answers_none old new bytes end left answers es gone = record {
  lines = [];
  later = gone.lines;
  end = end;
  left = left;
  reads = gone.reads;
  answered = (refl, refl);
  held = answers;
  more = es;
  unanswered = gone.answered;
  legal = gone.legal;
}

no_replies : (before : List ℕ) (after : Option (List ℕ)) → after ≡ Some before → HasReplies before [] after
no_replies before after is = is ∙ ap Some (sym (append-nil before))

-- the replies that lie in memory
these_replies : (before replies text : List ℕ) (after : Option (List ℕ)) → Some replies ≡ Some ([] ++ text) → after ≡ Some (before ++ replies) → after ≡ Some (before ++ text)
these_replies before replies text after is stands = stands ∙ ap (λ (x : List ℕ). Some (before ++ x)) (same_Some replies text is)

-- what ran of a part, whatever came of it: its entries, and how far it was read
pub record RanSome {P : Type 0} (old mid : ScriptRun P) (chunk : List ℕ) (replies : List ℕ) : Type 0 where
  pub end : Option ScriptFault
  pub left : List ℕ
  pub answers : List Answer
  pub es : List Entry
  pub gone : GoesPart old mid chunk end left answers es
  pub text : replies ≡ flat_map answer_text answers

ran_some : {P : Type 0} (old mid : ScriptRun P) (chunk : List ℕ) (saw saw' : Option Bool) (r : Result (Unit {0}) ScriptFault) (left replies : List ℕ) → is_cut r ≡ false → PartRan old mid chunk [] saw r left (Some replies) saw' → RanSome old mid chunk replies
ran_some old mid chunk saw saw' (Ok done) left replies other h = record { end = None; left = left; answers = h.0; es = h.1; gone = h.2; text = same_Some replies (flat_map answer_text h.0) h.4 }
ran_some old mid chunk saw saw' (Err fault.WriteFailed) left replies other h = absurd (false≢true (sym other))
ran_some old mid chunk saw saw' (Err f) left replies other h = record { end = Some f; left = left; answers = h.0; es = h.1; gone = h.2; text = same_Some replies (flat_map answer_text h.0) h.3 }

-- memory for the replies was lacking: what ran is known too
ran_cut : {P : Type 0} (old mid : ScriptRun P) (chunk : List ℕ) (saw saw' : Option Bool) (r : Result (Unit {0}) ScriptFault) (left replies : List ℕ) → is_cut r ≡ true → PartRan old mid chunk [] saw r left (Some replies) saw' → AnswersFirst old chunk [] []
ran_cut old mid chunk saw saw' (Err fault.WriteFailed) left replies is h = answers_none old mid chunk (Some fault.WriteFailed) left h.0 h.1 h.4
ran_cut old mid chunk saw saw' (Ok done) left replies is h = absurd (false≢true is)
ran_cut old mid chunk saw saw' (Err fault.ReadFailed) left replies is h = absurd (false≢true is)
ran_cut old mid chunk saw saw' (Err fault.InputTooLong) left replies is h = absurd (false≢true is)
ran_cut old mid chunk saw saw' (Err (fault.LineTooLong n)) left replies is h = absurd (false≢true is)
ran_cut old mid chunk saw saw' (Err (fault.BadLine n)) left replies is h = absurd (false≢true is)
ran_cut old mid chunk saw saw' (Err fault.OutOfMemory) left replies is h = absurd (false≢true is)
ran_cut old mid chunk saw saw' (Err fault.HeapFull) left replies is h = absurd (false≢true is)
ran_cut old mid chunk saw saw' (Err fault.BadLimits) left replies is h = absurd (false≢true is)

-- no line waits
pub none_waiting : (first : Option Line) (s : Script) → first ≡ None → IsWaiting s first
none_waiting first s none = let P : Option Line → Type 0 = λ x. IsWaiting s x in subst P (sym none) tt

-- the entries of a part, whatever came of it
ran_entries : {P : Type 0} (old mid : ScriptRun P) (chunk : List ℕ) (saw saw' : Option Bool) (r : Result (Unit {0}) ScriptFault) (left replies : List ℕ) → PartRan old mid chunk [] saw r left (Some replies) saw'
    → (es : List Entry) × (mid.begun.run.store.entries ≡ old.begun.run.store.entries ++ es) × (mid.begun.run.store.opening ≡ old.begun.run.store.opening)
ran_entries old mid chunk saw saw' (Ok done) left replies h = (h.1, h.2.entries, h.2.opening)
ran_entries old mid chunk saw saw' (Err fault.WriteFailed) left replies h = (h.1, h.4.entries, h.4.opening)
ran_entries old mid chunk saw saw' (Err f) left replies h = (h.1, h.2.entries, h.2.opening)

pub ran_upto : {D P : Type 0} (g : disk.Ghosts D) (old mid : ScriptRun P) (file : LineFile D) (place : ℕ) (chunk : List ℕ) (saw saw' : Option Bool) (r : Result (Unit {0}) ScriptFault) (left replies : List ℕ) → PartRan old mid chunk [] saw r left (Some replies) saw'
    → IsKept g old.begun.run.store file → place ≡ length old.begun.run.store.entries → mid.begun.run.store.handed ≡ old.begun.run.store.handed → old.begun.run.store.handed ≤ length old.begun.run.store.entries → KeepsUpTo g place mid.begun.run.store file
ran_upto g old mid file place chunk saw saw' r left replies ran kept at handed within =
    let k = ran_entries old mid chunk saw saw' r left replies ran in
    keeps_upto old.begun.run.store mid.begun.run.store k.0 k.2 k.1 g file place at handed within kept

-- all lines ran
ran_done : {P : Type 0} (old mid : ScriptRun P) (chunk : List ℕ) (saw saw' : Option Bool) (left replies : List ℕ) (r : Result (Unit {0}) ScriptFault) → IsOk r → PartRan old mid chunk [] saw r left (Some replies) saw' → PartRan {T = Unit {0}} old mid chunk [] saw (Ok tt) left (Some replies) saw'
ran_done old mid chunk saw saw' left replies (Ok done) is h = h
ran_done old mid chunk saw saw' left replies (Err f) is h = absurd (false≢true is)

-- ---- a part that was kept, or wasn't

module _ {D P : Type 0} (g : disk.Ghosts D) (place : ℕ) (old at new : KeptScript D P) (chunk before : List ℕ) (saw saw' : Option Bool) (replied : Replied) (after : Option (List ℕ)) (is_kept : IsKept g old.run.begun.run.store old.file) (file : at.file ≡ old.file)
    (here : place ≡ length old.run.begun.run.store.entries) (left : List ℕ) (ran : PartRan old.run at.run chunk [] saw replied.outcome left (Some replied.replies.items) saw') where
  ended_whole : (f : ScriptFault) → replied.outcome ≡ Err f → (f ≡ fault.WriteFailed → ⊥) → after ≡ Some (before ++ replied.replies.items) → LeavesStore g at.run.begun.run.store new.file.disk
      → (answers : List Answer) × (es : List Entry) × (last : List ℕ) × AnswersLines old.run chunk (Some f) last answers es × HasReplies before answers after × LeavesExactly g old.run.begun.run.store es new.file.disk
  ended_whole fault.WriteFailed is other stands leaves = absurd (other refl)
  ended_whole f is other stands leaves =
      let R : Result (Unit {0}) ScriptFault → Type 0 = λ x. PartRan old.run at.run chunk [] saw x left (Some replied.replies.items) saw' in
      let k = subst R is ran in (
        k.0,
        k.1,
        left,
        answers_lines old.run at.run chunk (Some f) left k.0 k.1 k.2,
        these_replies before replied.replies.items (flat_map answer_text k.0) after k.3 stands,
        kept_exactly old.run.begun.run.store at.run.begun.run.store k.1 k.2.opening k.2.entries g new.file.disk leaves,
      )

  ended_front : is_cut replied.outcome ≡ false → WroteSome (Some before) replied.replies.items after → LeavesStore g at.run.begun.run.store new.file.disk
      → (answers : List Answer) × (es : List Entry) × (last : List ℕ) × AnswersLines old.run chunk (Some fault.WriteFailed) last answers es × HasFront before answers after × LeavesExactly g old.run.begun.run.store es new.file.disk
  ended_front other wrote leaves =
      let k = ran_some old.run at.run chunk saw saw' replied.outcome left replied.replies.items other ran in
      let cut = cut_part old.run fault.WriteFailed stop_writing k.gone.lines chunk k.end k.left k.gone.reads in (
        k.answers,
        k.es,
        cut.0,
        record { lines = k.gone.lines; reads = cut.1; answered = k.gone.answered; legal = k.gone.legal },
        (wrote.0, wrote.1, sym k.text ∙ wrote.2, wrote.3),
        kept_exactly old.run.begun.run.store at.run.begun.run.store k.es k.gone.opening k.gone.entries g new.file.disk leaves,
      )

  ended_lost : is_cut replied.outcome ≡ false → after ≡ Some before → LeavesFrom g place at.run.begun.run.store at.file.disk new.file.disk
      → (answers : List Answer) × (es : List Entry) × (first : AnswersFirst old.run chunk answers es) × HasReplies before answers after × LeavesAlso g old.run.begun.run.store es first.more new.file.disk
  ended_lost other stands lost =
      let k = ran_some old.run at.run chunk saw saw' replied.outcome left replied.replies.items other ran in (
        [],
        [],
        answers_none old.run at.run chunk k.end k.left k.answers k.es k.gone,
        no_replies before after stands,
        lost_also old.run.begun.run.store at.run.begun.run.store k.es k.gone.opening k.gone.entries g place at.file.disk new.file.disk here lost,
      )

  ended_lacking : is_cut replied.outcome ≡ true → after ≡ Some before → new.file ≡ at.file
      → (answers : List Answer) × (es : List Entry) × AnswersFirst old.run chunk answers es × HasReplies before answers after × LeavesExactly g old.run.begun.run.store es new.file.disk
  ended_lacking is stands same =
      let F : LineFile D → Type 0 = λ x. LeavesStore g old.run.begun.run.store x.disk in (
        [],
        [],
        ran_cut old.run at.run chunk saw saw' replied.outcome left replied.replies.items is ran,
        no_replies before after stands,
        kept_none g old.run.begun.run.store new.file.disk (subst F (sym (same ∙ file)) (leaves_same g old.run.begun.run.store old.file is_kept)),
      )

  pub part_served : {T : Type 0} (r : Result T KeptFault) → PartKept g place at new replied before r after → PartServed g old new chunk before saw r after saw'
  part_served (Ok done) h =
      let part = h.1 in
      let k = ran_done old.run at.run chunk saw saw' left replied.replies.items replied.outcome part.ended ran in (
        k.0,
        k.1,
        left,
        up_part old.run at.run new.run (length at.run.begun.run.store.entries) part.up chunk None left k.0 k.1 k.2,
        up_further old.run at.run new.run (length at.run.begun.run.store.entries) part.up chunk k.2.lines k.1 k.3,
        these_replies before replied.replies.items (flat_map answer_text k.0) after k.4 h.0,
        k.5,
        part.kept,
      )
  part_served (Err (kept.Script fault.OutOfMemory)) h = ended_lacking h.0 h.1 h.2
  part_served (Err (kept.Script fault.WriteFailed)) h = ended_front h.0 h.1 h.2
  part_served (Err (kept.Script fault.ReadFailed)) h = ended_whole fault.ReadFailed h.0 (λ e. cc) h.1 h.2
  part_served (Err (kept.Script fault.InputTooLong)) h = ended_whole fault.InputTooLong h.0 (λ e. cc) h.1 h.2
  part_served (Err (kept.Script (fault.LineTooLong n))) h = ended_whole (fault.LineTooLong n) h.0 (λ e. cc) h.1 h.2
  part_served (Err (kept.Script (fault.BadLine n))) h = ended_whole (fault.BadLine n) h.0 (λ e. cc) h.1 h.2
  part_served (Err (kept.Script fault.BadLimits)) h = ended_whole fault.BadLimits h.0 (λ e. cc) h.1 h.2
  part_served (Err (kept.Script fault.HeapFull)) h = ended_whole fault.HeapFull h.0 (λ e. cc) h.1 h.2
  part_served (Err (kept.Lost why)) h = ended_lost h.0 h.1 h.2

  -- after all of a part the script is ready for the next one
  pub part_ready : {T : Type 0} (r : Result T KeptFault) → OnOk r (IsPartDone g at new replied) → OnOk r (IsReadyScript g new)
  part_ready (Ok done) part =
      let k = ran_done old.run at.run chunk saw saw' left replied.replies.items replied.outcome part.ended ran in
      let further = up_further old.run at.run new.run (length at.run.begun.run.store.entries) part.up chunk k.2.lines k.1 k.3 in
      record { waits = none_waiting new.run.begun.first new.run.begun.script further.first; kept = part.kept }
  part_ready (Err why) part = tt

  pub part_room : {T : Type 0} (r : Result T KeptFault) → OnOk r (IsPartDone g at new replied) → OnOk r (may_come new.run + length chunk ≡ may_come old.run)
  part_room (Ok done) part =
      let k = ran_done old.run at.run chunk saw saw' left replied.replies.items replied.outcome part.ended ran in
      let further = up_further old.run at.run new.run (length at.run.begun.run.store.entries) part.up chunk k.2.lines k.1 k.3 in
      further.room
  part_room (Err why) part = tt

-- ---- what a sink took

pub handed_out : (before mid after : Option (List ℕ)) (replies : List ℕ) (b : Bool) → Wrote before replies mid → KeepsBytes mid after → TakesReplies before replies b after
handed_out before mid after replies true wrote keeps = wrote_keeps before mid after replies wrote keeps
handed_out None mid after replies false wrote keeps = tt
handed_out (Some xs) mid after replies false wrote keeps = (replies, [], sym (append-nil replies), wrote_keeps (Some xs) mid after replies wrote keeps)

pub wrote_all : (known : Option (List ℕ)) (before replies : List ℕ) (b : Bool) (after : Option (List ℕ)) → known ≡ Some before → b ≡ true → TakesReplies known replies b after → after ≡ Some (before ++ replies)
wrote_all known before replies b after is done h =
    let B : Bool → Type 0 = λ x. TakesReplies known replies x after in
    let K : Option (List ℕ) → Type 0 = λ x. TakesReplies x replies true after in
    subst K is (subst B done h)

pub wrote_part : (known : Option (List ℕ)) (before replies : List ℕ) (b : Bool) (after : Option (List ℕ)) → known ≡ Some before → b ≡ false → TakesReplies known replies b after → WroteSome (Some before) replies after
wrote_part known before replies b after is failed h =
    let B : Bool → Type 0 = λ x. TakesReplies known replies x after in
    let K : Option (List ℕ) → Type 0 = λ x. TakesReplies x replies false after in
    subst K is (subst B failed h)

-- a fault of a part of which all replies were handed out
pub part_faulted : {D P : Type 0} (T : Type 0) (g : disk.Ghosts D) (old new : KeptScript D P) (replied : Replied) (before : List ℕ) (after : Option (List ℕ)) (f : ScriptFault) → replied.outcome ≡ Err f → IfErr replied.outcome IsOfReading → is_cut replied.outcome ≡ false
    → after ≡ Some (before ++ replied.replies.items) → LeavesStore g old.run.begun.run.store new.file.disk → PartHanded {T = T} g old new replied before (Err (kept.Script f)) after
part_faulted T g old new replied before after fault.OutOfMemory is met uncut stands leaves =
    let R : Result (Unit {0}) ScriptFault → Type 0 = λ x. IfErr x IsOfReading in let no : ⊥ = subst R is met in absurd no
part_faulted T g old new replied before after fault.WriteFailed is met uncut stands leaves = absurd (false≢true (sym uncut ∙ ap is_cut is))
part_faulted T g old new replied before after f is met uncut stands leaves = (is, stands, leaves)

-- the entries of a part were given up, once they were on the disk
pub part_is_done : {D P : Type 0} (g : disk.Ghosts D) (old new : KeptScript D P) (replied : Replied) (upto : ℕ) → upto ≡ length old.run.begun.run.store.entries → GivesUp upto old.run new.run → new.file ≡ old.file → IsKept g old.run.begun.run.store old.file → IsOk replied.outcome → IsPartDone g old new replied
part_is_done {D = D} g old new replied upto is up same kept ended =
    let U : ℕ → Type 0 = λ n. GivesUp n old.run new.run in
    let F : LineFile D → Type 0 = λ x. IsKept g new.run.begun.run.store x in
    let s = old.run.begun.run.store in
    let t = new.run.begun.run.store in
    let here : IsKept g t old.file = record {
      opened = began_same s.opening t.opening up.store.opening kept.opened;
      writable = kept.writable;
      keeps = keeps_same g s t old.file up.store.opening up.store.entries kept.keeps;
    } in
    record { ended = ended; up = subst U is up; kept = subst F (sym same) here }

-- a part that was handed out was kept
pub handed_kept : {D P T : Type 0} (g : disk.Ghosts D) (place : ℕ) (old new : KeptScript D P) (file : LineFile D) (replied : Replied) (before : List ℕ) (after : Option (List ℕ)) (r : Result T KeptFault) → is_cut replied.outcome ≡ false
    → PartHanded g (record old { file = file }) new replied before r after → PartKept g place old new replied before r after
handed_kept g place old new file replied before after (Ok done) uncut h = (h.0, record { ended = h.1.ended; up = h.1.up; kept = h.1.kept })
handed_kept g place old new file replied before after (Err (kept.Script fault.OutOfMemory)) uncut h = absurd h
handed_kept g place old new file replied before after (Err (kept.Script fault.WriteFailed)) uncut h = (uncut, h.0, h.1)
handed_kept g place old new file replied before after (Err (kept.Script f)) uncut h = h
handed_kept g place old new file replied before after (Err (kept.Lost why)) uncut h = absurd h

pub handed_done : {D P T : Type 0} (g : disk.Ghosts D) (old new : KeptScript D P) (file : LineFile D) (replied : Replied) (r : Result T KeptFault) → OnOk r (IsPartDone g (record old { file = file }) new replied) → OnOk r (IsPartDone g old new replied)
handed_done g old new file replied (Ok done) h = record { ended = h.ended; up = h.up; kept = h.kept }
handed_done g old new file replied (Err why) h = tt

-- what a call answered that handed a fault on
pub fault_is : {T F : Type 0} (r : Result T F) (f : F) → IsErrAnd r (λ e. e ≡ f) → r ≡ Err f
fault_is r f h = let e = err_from_is_err_and r h in e.1 ∙ ap Err e.2
