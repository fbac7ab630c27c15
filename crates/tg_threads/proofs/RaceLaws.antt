-- The outcome of a whole race, from what its parts did.
use mathlib.Core.Bool.{false≢true}
use Rattle.std.proofs.Common.{Bool, true, false, ◌≡◌, ◌⊎◌, ◌+◌, ◌<◌, ◌≤◌, arith, inl, inr, ℕ, List, [], ◌∷◌, ◌++◌, Option, Some, None, Result, Ok, Err, refl, sym, ap, ◌∙◌, subst, append-nil, drop, length, length-append, ◌-◌}
use Rattle.std.specs.Prelude.{IfErr, IsErrAnd, IsOk, IsSome, OnOk, map, nat_lt}
use Rattle.std.specs.List.{All, filter, range_with_len}
use Rattle.std.specs.declared.vec.Vec.{Vec}
use Rattle.std.proofs.lemmas.List.{drop-append-le, length-map}
use Rattle.std.proofs.lemmas.List.Elements.{All-head, All-weaker}
use Rattle.std.proofs.lemmas.Bool.{false_from_ne_true, lt-ltb, ltb-true}
use Rattle.std.proofs.lemmas.List.FromFn.{get_or-range_with_len, length-range_with_len}
use Rattle.tg_model.specs.declared.edge.Edge.{Edge}
use Rattle.tg_model.specs.declared.value.Value.{Value}
use Rattle.tg_model.specs.Opened.{IsPlan}
use Rattle.tg_journal.specs.Auditing.{FeedsPart, IsRefusedPart}
use Rattle.tg_journal.specs.History.{IsLegal, graph_after}
use Rattle.tg_journal.specs.Live.{AuditState}
use Rattle.tg_journal.specs.declared.auditor.PartFault.{PartFault}
use Rattle.tg_journal.specs.declared.auditor.PartFault.TheVariants as part
use Rattle.tg_journal.proofs.HistoryLaws.{IsFirstBad-not_legal, IsLegal-append, IsLegal-cut, graph_after-append}
use Rattle.tg_journal.specs.declared.entry.Entry.{Entry}
use Rattle.tg_store.specs.declared.fault.StoreAuditFault.{StoreAuditFault}
use Rattle.tg_store.specs.declared.fault.StoreAuditFault.TheVariants as audit
use Rattle.tg_store.specs.Origin.{Origin, opened_by, start_at}
use Rattle.tg_store.specs.Store.{StoreState, graph_of_store}
use Rattle.tg_text.specs.declared.line.Line.{Line}
use Rattle.tg_text.specs.declared.line.Line.TheVariants as line
use Rattle.tg_text.specs.declared.fault.ScriptFault.TheVariants as script
use Rattle.tg_text.specs.Reading.{ReadsScript}
use Rattle.tg_text.specs.Sinks.{KeepsBytes}
use Rattle.tg_script.specs.Opening.{IsCommand, edge_lines}
use Rattle.tg_script.specs.declared.going.RunOn.{RunOn}
use Rattle.tg_script.specs.Script.{Start, commands_of, edges_of}
use Rattle.tg_script.proofs.LinesLaws.{keeps_known}
use Rattle.tg_shared.specs.declared.closing.CloseFault.{CloseFault}
use Rattle.tg_shared.specs.declared.closing.CloseFault.TheVariants as closing
use Rattle.tg_passes.specs.declared.signed.Signed.{Signed}
use Rattle.tg_passes.specs.Passes.{BeginsWith, Sees, entries_of}
use Rattle.tg_passes.proofs.Signing.{begins_entries}
use Rattle.tg_shared.specs.Closing.{IsSignedBy}
use Rattle.tg_shared.specs.Sessions.{SessionState, SharedStart, AreFresh, knowledge, since, start_of_store}
use Rattle.tg_shared.proofs.Knowing.{since_is}
use Rattle.tg_threads.specs.declared.fault.RaceFault.{RaceFault}
use Rattle.tg_threads.specs.declared.fault.RaceFault.TheVariants as fault
use Rattle.tg_threads.specs.declared.race.Raced.{Raced}
use Rattle.tg_threads.specs.declared.task.Told.{Told}
use Rattle.tg_threads.specs.declared.work.Work.{Work}
use Rattle.tg_threads.specs.declared.work.Finished.{Finished}
use Rattle.tg_threads.specs.Boxes.{Boxed, boxed}
use Rattle.tg_threads.specs.Shares.{IsInScriptOrder, all_shares, is_among, is_run_by, lines_in}
use Rattle.tg_threads.specs.Telling.{text_of_told}
use Rattle.tg_script.specs.Entering.{plan_of}
use Rattle.tg_threads.specs.Output.{Arena, AreTold, HasEach, IsNewStore, IsRaceOutput, IsRaceOutputOn, RaceText, RaceTextOn, arena_of, count_before, has_thread}
use Rattle.tg_threads.specs.Tasks.{AllBring, AreRaced, all_assigned, assigned_of}
use Rattle.tg_threads.specs.Race.{CountsRace, EndsRace, FinishesRace, HasFinished, HasHistory, HasRaced, IsBeforeWriting, IsOfTelling, IsRaceDue, IsRaceDueOn, IsRacedFrom, IsWhole, MayAudit, RaceKind, RacesFrom, ReadsLines, TellsRace, WritesRace, race_fault_of_part, race_from, race_on, race_read_failures, race_write_failures}
use Rattle.tg_threads.proofs.AssignedLaws.{each_assigned}
use Rattle.tg_threads.proofs.ShareLaws.{among_each, placed, threaded}
use Rattle.tg_threads.proofs.WeaveLaws.{HasSeenFront, each_told}

-- as many fresh sessions as names
pub fresh_length : (names : List ℕ) (sessions : List SessionState) → AreFresh names sessions → length sessions ≡ length names
fresh_length names sessions fresh = sym (length-map sessions (λ (s : SessionState). s.worker)) ∙ ap (λ (l : List ℕ). length l) fresh.0

-- ---- the lines of a script that was read

-- all edges are in front
pub edges_before : (edges : List Edge) (lines : List Line) → All IsCommand lines → edges_of (edge_lines edges ++ lines) ≡ edges
edges_before [] (line.Edge e ∷ lines) h = absurd (false≢true (All-head IsCommand (line.Edge e) lines h).0)
edges_before (e ∷ edges) lines h = ap (λ es. e ∷ es) (edges_before edges lines h)
edges_before [] lines h = refl

-- and the other lines after them
pub commands_behind : (edges : List Edge) (lines : List Line) → All IsCommand lines → commands_of (edge_lines edges ++ lines) ≡ lines
commands_behind [] (line.Edge e ∷ lines) h = absurd (false≢true (All-head IsCommand (line.Edge e) lines h).0)
commands_behind (e ∷ edges) lines h = commands_behind edges lines h
commands_behind [] lines h = refl

-- ---- what the threads brought back

pub all_brought : {P : Type 0} (shared : SharedStart) (helpers : ℕ) (names : List ℕ) (bs : List Boxed) (works : List (Work SessionState P)) (sessions : List SessionState) (all : List (Finished SessionState)) → AreFresh names sessions →
    map (λ w. w.session) works ≡ sessions → map lines_in works ≡ all_shares names bs → AllBring shared helpers (map assigned_of works) all → AllBring shared helpers (all_assigned names bs) all
all_brought shared helpers names bs works sessions all fresh is lines h =
    let P : List (ℕ × List Boxed) → Type 0 = λ g. AllBring shared helpers g all in
    subst P (each_assigned names bs works sessions fresh is lines) h

-- the names of fresh sessions
pub crew_of : (names : List ℕ) (sessions lent : List SessionState) (listed crew : List ℕ) → AreFresh names sessions → lent ≡ sessions → listed ≡ map (λ s. s.worker) lent → crew ≡ listed → crew ≡ names
crew_of names sessions lent listed crew fresh same is lent_as =
    let worker : SessionState → ℕ = λ s. s.worker in
    lent_as ∙ is ∙ ap (map worker) same ∙ fresh.0

-- as many as each thread has lines
pub whole_of : (shared : SharedStart) (helpers : ℕ) (names crew : List ℕ) (stock : List Value) (lines : List Line) (all lent : List (Finished SessionState)) → crew ≡ names → lent ≡ all → AllBring shared helpers (all_assigned names (boxed stock lines)) all →
    map (λ f. length f.told.items) lent ≡ map (λ k. length (filter (is_run_by crew k) lines)) (range_with_len 0 (length crew))
whole_of shared helpers names crew stock lines all lent named same h =
    let P : List (Finished SessionState) → List ℕ → Type 0 = λ fs ns. map (λ f. length f.told.items) fs ≡ map (λ k. length (filter (is_run_by ns k) lines)) (range_with_len 0 (length ns)) in
    subst (λ ns. P lent ns) (sym named) (subst (λ fs. P fs names) (sym same) (each_told shared helpers names stock lines all h))

-- their results are in script order
pub in_order_of : (names crew : List ℕ) (lines : List Line) (all lent : List (Finished SessionState)) (ts : List Told) → crew ≡ names → lent ≡ all → IsInScriptOrder crew lines (map (λ f. f.told.items) lent) ts → IsInScriptOrder names lines (map (λ f. f.told.items) all) ts
in_order_of names crew lines all lent ts named same h =
    let P : List (Finished SessionState) → List ℕ → Type 0 = λ fs ns. IsInScriptOrder ns lines (map (λ f. f.told.items) fs) ts in
    subst (λ fs. P fs names) same (subst (λ ns. P lent ns) named h)

-- the entries since the start begin with those that each session has seen
pub seen_fronts : (start : SharedStart) (s : StoreState) (sessions : List SessionState) (signed : List Signed) → IsSignedBy start s sessions signed → All (HasSeenFront (since start s)) sessions
seen_fronts start s sessions signed by =
    let all : since start s ≡ entries_of signed = since_is start s signed by.grown in
    All-weaker (λ (t : SessionState). Sees signed (knowledge t)) (HasSeenFront (since start s))
    (λ t sees. subst (λ l. BeginsWith l (entries_of t.seen)) (sym all) (begins_entries signed t.seen sees.front)) sessions by.sees

-- why a store isn't closed
pub unclosed : {A B : Type 0} (why : CloseFault) → (why ≡ closing.SessionsMissing → A) → (why ≡ closing.ReceiptMismatch → B) → A ⊎ B
unclosed closing.SessionsMissing missing mismatch = inl (missing refl)
unclosed closing.ReceiptMismatch missing mismatch = inr (mismatch refl)

-- ---- the whole

-- the workers of an opening have a thread each, and nobody else has one
among_workers : (workers x : ℕ) (c : Bool) → nat_lt x workers ≡ c → is_among (range_with_len 0 workers) x ≡ c
among_workers workers x true is =
    let low = ltb-true x workers is in
    let names = range_with_len 0 workers in
    subst (λ y. is_among names y ≡ true) (get_or-range_with_len 0 workers x 0 low ∙ (let same : 0 + x ≡ x = omega arith in same)) (among_each names x (omega (arith, low, length-range_with_len 0 workers)))
among_workers workers x false is = false_from_ne_true (is_among (range_with_len 0 workers) x) (λ yes.
    let at = threaded (range_with_len 0 workers) x yes in
    let there = placed (range_with_len 0 workers) x at.0 at.1 in
    let low : at.0 < workers = omega (arith, there.0, length-range_with_len 0 workers) in
    let same : at.0 ≡ x = omega (arith, get_or-range_with_len 0 workers at.0 0 low, there.1) in
    false≢true (sym is ∙ lt-ltb x workers (omega (arith, low, same))))

pub among_opened : (workers : ℕ) → is_among (range_with_len 0 workers) ≡ has_thread workers
among_opened workers = λ i x. among_workers workers x (nat_lt x workers) refl i

-- the lines came to this, with these entries in the journal, where the lines of these workers are run
abbrev pub RacedSo : Arena → (ℕ → Bool) → List Boxed → List Entry → List Told → Type 0
RacedSo arena served bs entries ts = (made : List Entry) × AreTold arena served bs made (text_of_told entries ts) × HasEach arena.entries made

-- the same by other names
pub raced_same : (arena : Arena) (names : List ℕ) (served : ℕ → Bool) (stock : List Value) (lent lines : List Line) (entries : List Entry) (ts : List Told) → is_among names ≡ served → lent ≡ lines → AreRaced arena names (boxed stock lent) entries ts → RacedSo arena served (boxed stock lines) entries ts
raced_same arena names served stock lent lines entries ts same is h =
    (h.made, subst (λ ls. AreTold arena served (boxed stock ls) h.made (text_of_told entries ts)) is (subst (λ f. AreTold arena f (boxed stock lent) h.made (text_of_told entries ts)) same h.told), h.each)

-- what the lines came to, with a legal history, is an output
raced_output : (race_text : RaceText) (start : Start) (shared : SharedStart) (lines : List Line) (s : StoreState) (ts : List Told) → IsNewStore (opened_by (plan_of start lines)) start.blocks shared → s.opening ≡ opened_by (plan_of start lines) → RacedSo (arena_of shared start.helpers s.entries) (has_thread start.workers) (boxed start.stock (commands_of lines)) s.entries ts → HasHistory s →
    IsRaceOutput race_text start lines (race_text s.opening.plan s.entries (text_of_told s.entries ts))
raced_output race_text start shared lines s ts new opening raced history = record {
  shared = shared;
  new = new;
  entries = s.entries;
  made = raced.0;
  replies = text_of_told s.entries ts;
  plan = subst (λ (o : Origin). IsPlan o.plan) opening history.0;
  run = record {
    legal = subst (λ (o : Origin). IsLegal (start_at o) s.entries) opening history.1;
    told = raced.1;
    each = raced.2;
  };
  text_is = ap (λ (o : Origin). race_text o.plan s.entries (text_of_told s.entries ts)) opening;
}

pub race_told : {T : Type 0} (r : Result T RaceFault) (race_text : RaceText) (start : Start) (shared : SharedStart) (bytes before left : List ℕ) (lines : List Line) (s : StoreState) (ts : List Told) (after : Option (List ℕ)) → IsWhole start bytes lines left → IsNewStore (opened_by (plan_of start lines)) start.blocks shared → s.opening ≡ opened_by (plan_of start lines) →
    RacedSo (arena_of shared start.helpers s.entries) (has_thread start.workers) (boxed start.stock (commands_of lines)) s.entries ts → TellsRace s (race_text s.opening.plan s.entries (text_of_told s.entries ts)) before r after → HasRaced (race_from race_text start) bytes before r left after
race_told (Ok done) race_text start shared bytes before left lines s ts after whole new opening raced h =
    (lines, race_text s.opening.plan s.entries (text_of_told s.entries ts), whole, raced_output race_text start shared lines s ts new opening raced h.0, h.1)
race_told (Err (fault.Script f)) race_text start shared bytes before left lines s ts after whole new opening raced h = absurd h
race_told (Err fault.AuditFailed) race_text start shared bytes before left lines s ts after whole new opening raced h = absurd h
race_told (Err fault.WriteFailed) race_text start shared bytes before left lines s ts after whole new opening raced h =
    (lines, h.1, h.2, whole, subst (λ text. IsRaceOutput race_text start lines text) h.3 (raced_output race_text start shared lines s ts new opening raced h.0), h.4)
race_told r race_text start shared bytes before left lines s ts after whole new opening raced h = (lines, whole, h)

-- the audit of a store that gave no entry up is refused for lack of memory alone
pub own_audit_fault : {A B : Type 0} (handed : ℕ) (shown : Option B) (r : Result A StoreAuditFault) (f : StoreAuditFault) → r ≡ Err f → handed ≡ 0 → shown ≡ None → (r ≡ Err audit.NotWhole → (0 < handed) ⊎ IsSome shown)
    → (f ≡ audit.NotWhole) ⊎ (f ≡ audit.OutOfMemory) → f ≡ audit.OutOfMemory
own_audit_fault handed shown r f was none first gave (inl not_whole) = lacks (gave (was ∙ ap (λ (why : StoreAuditFault). Err why) not_whole))
  where
    lacks : (0 < handed) ⊎ IsSome shown → f ≡ audit.OutOfMemory
    lacks (inl some) = absurd (omega (arith, none, some))
    lacks (inr again) = absurd (cc (first, again))
own_audit_fault handed shown r f was none first gave (inr memory) = memory

-- and then nothing is written
pub lacking : {T : Type 0} (s : StoreState) (text : List ℕ) (g : RaceFault) (r : Result T RaceFault) (before : List ℕ) (after : Option (List ℕ)) → g ≡ fault.OutOfMemory → IsErrAnd r (λ why. why ≡ g) → after ≡ Some before →
    TellsRace s text before r after
lacking s text g (Ok done) before after memory is kept = absurd is
lacking {T} s text g (Err why) before after memory is kept =
    let P : RaceFault → Type 0 = λ x. TellsRace {T = T} s text before (Err x) after in
    subst P (sym (is ∙ memory)) kept

-- ---- when a fault is due

-- so it is no fault that the audit found
pub lacking_fault : {T : Type 0} (g : RaceFault) (r : Result T RaceFault) → g ≡ fault.OutOfMemory → IsErrAnd r (λ why. why ≡ g) → IfErr r IsOfTelling
lacking_fault g (Ok done) memory is = absurd is
lacking_fault g (Err why) memory is = subst IsOfTelling (sym (is ∙ memory)) tt

-- the only fault of an audit is the lack of memory
pub only_memory : {T : Type 0} (g : RaceFault) (r : Result T RaceFault) → g ≡ fault.OutOfMemory → IsErrAnd r (λ why. why ≡ g) → IfErr r (λ f. f ≡ fault.OutOfMemory)
only_memory g (Ok done) memory is = absurd is
only_memory g (Err why) memory is = is ∙ memory

-- and where the replies are
pub telling_due : {T : Type 0} (start : Start) (r : Result T RaceFault) → IfErr r IsOfTelling → IfErr r (IsRaceDue start)
telling_due start (Ok done) h = tt
telling_due start (Err fault.OutOfMemory) h = tt
telling_due start (Err fault.WriteFailed) h = tt
telling_due start r h = absurd h

-- ---- a race from a history on

-- the auditor may go on to what a race added
pub audit_on : (start : SharedStart) (old new : StoreState) (grown : List Entry) (auditor : AuditState) → start ≡ start_of_store old → MayAudit old auditor → new.opening ≡ start.opening → new.entries ≡ start.entries ++ grown → (new.handed ≡ start.handed) × (start.handed ≤ length start.entries) →
    IsLegal (graph_of_store old) grown → MayAudit new auditor
audit_on start old new grown auditor is may opening entries handed legal =
    let front : List Entry = drop old.handed old.entries in
    let low : old.handed ≤ length old.entries = subst (λ (s : SharedStart). s.handed ≤ length s.entries) is handed.1 in
    let all : new.entries ≡ old.entries ++ grown = entries ∙ ap (λ (s : SharedStart). s.entries ++ grown) is in
    let place : new.handed ≡ old.handed = handed.0 ∙ ap (λ (s : SharedStart). s.handed) is in
    let held : drop new.handed new.entries ≡ front ++ grown = (λ i. drop (place i) (all i)) ∙ drop-append-le old.handed old.entries grown low in
    let from = may.from in
    record {
      from = from;
      comes = may.comes;
      place = may.place ∙ sym place;
      legal = subst (IsLegal from) (sym held) (IsLegal-append from front grown may.legal (subst (λ g. IsLegal g grown) may.graph legal));
      graph = (λ i. graph_after (start_at ((opening ∙ ap (λ (s : SharedStart). s.opening) is) i)) (all i)) ∙ graph_after-append (start_at old.opening) old.entries grown
          ∙ ap (λ g. graph_after g grown) may.graph ∙ sym (graph_after-append from front grown) ∙ ap (graph_after from) (sym held);
    }

-- what a race added is a legal history from its start
pub legal_since : (start : SharedStart) (old new : StoreState) (grown : List Entry) → start ≡ start_of_store old → new.opening ≡ start.opening → new.entries ≡ start.entries ++ grown → IsLegal (start_at new.opening) new.entries → IsLegal (graph_of_store old) grown
legal_since start old new grown is opening entries legal =
    let all : new.entries ≡ old.entries ++ grown = entries ∙ ap (λ (s : SharedStart). s.entries ++ grown) is in
    (IsLegal-cut (start_at old.opening) old.entries grown (subst (IsLegal (start_at old.opening)) all (subst (λ o. IsLegal (start_at o) new.entries) (opening ∙ ap (λ (s : SharedStart). s.opening) is) legal))).1

-- what it came to is an output
pub output_on : {P : Type 0} (race_text : RaceTextOn) (from : RunOn P) (lines : List Line) (raced : Raced P) (first : ℕ) → IsRacedFrom from.helpers (start_of_store from.store) from.stock.items lines raced → first ≡ length from.store.entries → from.skipped ≤ length from.store.entries →
    IsRaceOutputOn race_text from lines (race_text (length raced.store.entries - from.skipped) (drop first raced.store.entries) (text_of_told raced.store.entries raced.told.items))
output_on race_text from lines raced first came at place =
    let start = start_of_store from.store in
    let grown : List Entry = since start raced.store in
    let long : length raced.store.entries ≡ length from.store.entries + length grown = ap (λ (es : List Entry). length es) came.grown ∙ length-append from.store.entries grown in
    let total : length raced.store.entries - from.skipped ≡ count_before from + length grown = omega (arith, long, place) in
    record {
      entries = grown;
      made = came.told.made;
      replies = text_of_told raced.store.entries raced.told.items;
      run = record {
        legal = legal_since start from.store raced.store grown refl came.opening came.grown came.faithful.legal;
        told = came.told.told;
        each = came.told.each;
      };
      text_is = λ i. race_text (total i) (drop (at i) raced.store.entries) (text_of_told raced.store.entries raced.told.items);
    }

-- the auditor lacks memory, where it stops
pub fed_lacks : (s : StoreState) (old new : AuditState) (f : PartFault) (r : Result (Unit {0}) PartFault) → r ≡ Err f → s.handed ≤ length s.entries → MayAudit s old → FeedsPart old new s.handed s.entries r → race_fault_of_part f ≡ fault.OutOfMemory
fed_lacks s old new f r is within may feeds = lacks f is (if_err r f is feeds.refused) where
  if_err : (r : Result (Unit {0}) PartFault) (f : PartFault) → r ≡ Err f → IfErr r (IsRefusedPart old new s.handed s.entries) → IsRefusedPart old new s.handed s.entries f
  if_err r f is h = subst (λ (x : Result (Unit {0}) PartFault). IfErr x (IsRefusedPart old new s.handed s.entries)) is h

  lacks : (f : PartFault) → r ≡ Err f → IsRefusedPart old new s.handed s.entries f → race_fault_of_part f ≡ fault.OutOfMemory
  lacks (part.BadPlace due start end) is h =
      let same : r ≡ Err (part.BadPlace old.at s.handed (length s.entries)) = is ∙ (λ i. Err (part.BadPlace (h.0 i) (h.1 i) (h.2 i))) in
      absurd (outside ((feeds.bad_place may.comes.none_bad).0 same))
    where
      outside : (old.at < s.handed) ⊎ (length s.entries < old.at) → ⊥
      outside (inl low) = omega (arith, low, may.place)
      outside (inr high) = omega (arith, high, within, may.place)
  lacks (part.BadEntry at) is h =
      let legal : IsLegal may.from (drop old.at s.entries) = subst (λ (n : ℕ). IsLegal may.from (drop n s.entries)) (sym may.place) may.legal in
      absurd (IsFirstBad-not_legal may.from (drop old.at s.entries) (at - old.at) (h.3 may.from may.comes) legal)
  lacks (part.OutOfMemory at) is h = refl

-- a fault of the telling is due
pub telling_due_on : {T : Type 0} (r : Result T RaceFault) → IfErr r IsOfTelling → IfErr r IsRaceDueOn
telling_due_on (Ok done) h = tt
telling_due_on (Err fault.OutOfMemory) h = tt
telling_due_on (Err fault.WriteFailed) h = tt
telling_due_on r h = absurd h

-- and so is one before
pub before_due_on : (f : RaceFault) → IsBeforeWriting f → IsRaceDueOn f
before_due_on (fault.Script f) h = absurd h
before_due_on fault.AuditFailed h = absurd h
before_due_on f h = tt

pub before_silent : (T : Type 0) (f : RaceFault) → IsBeforeWriting f → (race_read_failures {T = T} (Err f) ≡ 0) × (race_write_failures {T = T} (Err f) ≡ 0)
before_silent T (fault.Script f) h = absurd h
before_silent T fault.WriteFailed h = absurd h
before_silent T f h = (refl, refl)

-- it writes nothing
pub before_writes : (T : Type 0) (IsText : List ℕ → Type 0) (f : RaceFault) (before : List ℕ) (after : Option (List ℕ)) → IsBeforeWriting f → after ≡ Some before → WritesRace {T = T} IsText before (Err f) after
before_writes T IsText (fault.Script f) before after h kept = absurd h
before_writes T IsText fault.AuditFailed before after h kept = absurd h
before_writes T IsText fault.WriteFailed before after h kept = absurd h
before_writes T IsText f before after h kept = kept

-- the text that is told is one that may be written
pub told_text : {T : Type 0} (r : Result T RaceFault) (IsText : List ℕ → Type 0) (s : StoreState) (text before : List ℕ) (after : Option (List ℕ)) → IsText text → TellsRace s text before r after → WritesRace IsText before r after
told_text (Ok done) IsText s text before after is h = (text, is, h.1)
told_text (Err (fault.Script f)) IsText s text before after is h = absurd h
told_text (Err fault.AuditFailed) IsText s text before after is h = absurd h
told_text (Err fault.WriteFailed) IsText s text before after is h = (h.1, h.2, subst IsText h.3 is, h.4)
told_text r IsText s text before after is h = h

-- what is written for the lines that were read
pub wrote_on : {P T : Type 0} (r : Result T RaceFault) (race_text : RaceTextOn) (from : RunOn P) (bytes before left : List ℕ) (lines commands : List Line) (after : Option (List ℕ)) → ReadsScript 0 bytes lines None left → commands ≡ commands_of lines →
    WritesRace (IsRaceOutputOn race_text from commands) before r after → HasRaced (race_on race_text from) bytes before r left after
wrote_on (Ok done) race_text from bytes before left lines commands after reads is h =
    (lines, h.0, reads, subst (λ (ls : List Line). IsRaceOutputOn race_text from ls h.0) is h.1, h.2)
wrote_on (Err (fault.Script f)) race_text from bytes before left lines commands after reads is h = absurd h
wrote_on (Err fault.AuditFailed) race_text from bytes before left lines commands after reads is h = absurd h
wrote_on (Err fault.WriteFailed) race_text from bytes before left lines commands after reads is h =
    (lines, h.0, h.1, reads, subst (λ (ls : List Line). IsRaceOutputOn race_text from ls (h.0 ++ h.1)) is h.2, h.3)
wrote_on r race_text from bytes before left lines commands after reads is h = (lines, reads, h)

-- a fault is as many failures, whatever it is a fault of
pub same_reads : {A : Type 0} (r : Result A RaceFault) (f : RaceFault) → r ≡ Err f → race_read_failures r ≡ race_read_failures {T = Unit {0}} (Err f)
same_reads {A} r f is = ap race_read_failures is ∙ at f where
  at : (f : RaceFault) → race_read_failures {T = A} (Err f) ≡ race_read_failures {T = Unit {0}} (Err f)
  at (fault.Script script.ReadFailed) = refl
  at f = refl

pub same_writes : {A : Type 0} (r : Result A RaceFault) (f : RaceFault) → r ≡ Err f → race_write_failures r ≡ race_write_failures {T = Unit {0}} (Err f)
same_writes {A} r f is = ap race_write_failures is ∙ at f where
  at : (f : RaceFault) → race_write_failures {T = A} (Err f) ≡ race_write_failures {T = Unit {0}} (Err f)
  at fault.WriteFailed = refl
  at (fault.Script script.WriteFailed) = refl
  at f = refl

-- why the script isn't read
pub unread_on : {P A : Type 0} (r : Result (Vec Line A) RaceFault) (f : RaceFault) (race_text : RaceTextOn) (from : RunOn P) (bytes before left : List ℕ) (after : Option (List ℕ)) → r ≡ Err f → ReadsLines bytes r left → after ≡ Some before → HasRaced {T = Unit {0}} (race_on race_text from) bytes before (Err f) left after
unread_on {P} {A} r f race_text from bytes before left after is reads kept = by_fault f (subst (λ (x : Result (Vec Line A) RaceFault). ReadsLines bytes x left) is reads) where
  by_fault : (f : RaceFault) → ReadsLines {A = A} bytes (Err f) left → HasRaced {T = Unit {0}} (race_on race_text from) bytes before (Err f) left after
  by_fault (fault.Script f) h = (h, kept)
  by_fault f h = absurd h

-- ---- the end

race_keeps : {T : Type 0} (r : Result T RaceFault) (kind : RaceKind) (bytes before left : List ℕ) (mid after : Option (List ℕ)) → HasRaced kind bytes before r left mid → KeepsBytes mid after → HasRaced kind bytes before r left after
race_keeps (Ok done) kind bytes before left mid after h keeps = (h.0, h.1, h.2, h.3, keeps_known mid after (before ++ h.1) h.4 keeps)
race_keeps (Err (fault.Script f)) kind bytes before left mid after h keeps = (h.0, keeps_known mid after before h.1 keeps)
race_keeps (Err fault.AuditFailed) kind bytes before left mid after h keeps = absurd h
race_keeps (Err fault.WriteFailed) kind bytes before left mid after h keeps = (h.0, h.1, h.2, h.3, h.4, keeps_known mid after (before ++ h.1) h.5 keeps)
race_keeps r kind bytes before left mid after h keeps = (h.0, h.1, keeps_known mid after before h.2 keeps)

-- the whole text was written, but the sink was not finished
race_unfinished : {T : Type 0} (r : Result T RaceFault) (kind : RaceKind) (bytes before left : List ℕ) (after : Option (List ℕ)) → IsOk r → HasRaced kind bytes before r left after → HasRaced {T = T} kind bytes before (Err fault.WriteFailed) left after
race_unfinished (Err f) kind bytes before left after fine h = absurd (false≢true fine)
race_unfinished (Ok done) kind bytes before left after fine h =
    (h.0, h.1, [], h.2, subst (λ text. kind.IsText h.0 text) (sym (append-nil h.1)) h.3, h.4)

pub race_ended : {T : Type 0} (outcome r : Result T RaceFault) (kind : RaceKind) (bytes before left : List ℕ) (mid after : Option (List ℕ)) (f g : ℕ) → HasRaced kind bytes before outcome left mid → EndsRace mid f outcome r after g → HasRaced kind bytes before r left after
race_ended outcome r kind bytes before left mid after f g h (keeps, inl same) =
    subst (λ x. HasRaced kind bytes before x left after) (sym same.0) (race_keeps outcome kind bytes before left mid after h keeps)
race_ended outcome r kind bytes before left mid after f g h (keeps, inr failed) =
    subst (λ x. HasRaced kind bytes before x left after) (sym failed.1) (race_unfinished outcome kind bytes before left after failed.0 (race_keeps outcome kind bytes before left mid after h keeps))

pub ended_due : {T : Type 0} (IsEnd : RaceFault → Type 0) (outcome r : Result T RaceFault) (mid after : Option (List ℕ)) (f g : ℕ) → IsEnd fault.WriteFailed → IfErr outcome IsEnd → EndsRace mid f outcome r after g → IfErr r IsEnd
ended_due IsEnd outcome r mid after f g may due (keeps, inl same) = subst (λ x. IfErr x IsEnd) (sym same.0) due
ended_due IsEnd outcome r mid after f g may due (keeps, inr failed) = subst (λ x. IfErr x IsEnd) (sym failed.1) may

-- ---- how often the source and the sink failed

-- finishing the sink is no failure of the source
pub ended_read : {T : Type 0} (outcome r : Result T RaceFault) (mid after : Option (List ℕ)) (f g : ℕ) → EndsRace mid f outcome r after g → race_read_failures r ≡ race_read_failures outcome
ended_read outcome r mid after f g (keeps, inl same) = ap race_read_failures same.0
ended_read (Err why) r mid after f g (keeps, inr failed) = absurd (false≢true failed.0)
ended_read (Ok done) r mid after f g (keeps, inr failed) = ap race_read_failures failed.1

pub ended_write : {T : Type 0} (outcome r : Result T RaceFault) (mid after : Option (List ℕ)) (e f g : ℕ) → EndsRace mid f outcome r after g → f ≡ e + race_write_failures outcome → e + race_write_failures r ≤ g
ended_write outcome r mid after e f g (keeps, inl same) had = omega (arith, ap race_write_failures same.0, same.1, had)
ended_write outcome r mid after e f g (keeps, inr failed) had = omega (arith, ap race_write_failures failed.1, failed.2, had)

pub ended_unfailed : {T : Type 0} (outcome r : Result T RaceFault) (mid after : Option (List ℕ)) (e f g : ℕ) → EndsRace mid f outcome r after g → f ≡ e + race_write_failures outcome → OnOk r (g ≡ e)
ended_unfailed outcome (Err why) mid after e f g ended had = tt
ended_unfailed (Err why) (Ok done) mid after e f g (keeps, inl same) had = absurd cc
ended_unfailed (Ok other) (Ok done) mid after e f g (keeps, inl same) had = omega (arith, same.2 refl, had)
ended_unfailed outcome (Ok done) mid after e f g (keeps, inr failed) had = absurd cc

-- ---- the whole, where the sink was finished in the end

module _ {S K T : Type 0} (left : S → Option (List ℕ)) (asks failures : S → ℕ) (taken : K → Option (List ℕ)) (write_fails : K → ℕ) (is_finished : K → Bool) {source source' : S} {sink between after : K} {outcome result : Result T RaceFault}
    (counts : CountsRace asks failures write_fails source source' sink between outcome) (ends : HasFinished taken write_fails is_finished between after outcome result) where
  pub raced_from : (kind : RaceKind) → kind.IsEnd fault.WriteFailed →
      ((bytes before : List ℕ) → left source ≡ Some bytes → taken sink ≡ Some before → (rest : List ℕ) × (left source' ≡ Some rest) × HasRaced kind bytes before outcome rest (taken between)) →
      IfErr outcome kind.IsEnd → RacesFrom left asks failures taken source source' sink after kind result
  raced_from kind may output due = record {
    output = λ bytes before known had.
        let raced = output bytes before known had in
        (raced.0, raced.1, race_ended outcome result kind bytes before raced.0 (taken between) (taken after) (write_fails between) (write_fails after) raced.2 ends.ends);
    due = ended_due kind.IsEnd outcome result (taken between) (taken after) (write_fails between) (write_fails after) may due ends.ends;
    asked = counts.asked;
    read_failed = counts.read_failed ∙ ap (λ n. failures source + n) (sym (ended_read outcome result (taken between) (taken after) (write_fails between) (write_fails after) ends.ends));
  }

  pub race_finishes : FinishesRace write_fails is_finished sink after result
  race_finishes = record {
    write_failed = ended_write outcome result (taken between) (taken after) (write_fails sink) (write_fails between) (write_fails after) ends.ends counts.write_failed;
    unfailed = ended_unfailed outcome result (taken between) (taken after) (write_fails sink) (write_fails between) (write_fails after) ends.ends counts.write_failed;
    finished = ends.finished;
  }
