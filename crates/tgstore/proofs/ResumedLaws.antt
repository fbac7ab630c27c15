-- A run that goes on from the history of a file.
use Rattle.std.proofs.Common.{◌≡◌, ◌∙◌, ◌≤◌, ◌+◌, ℕ, Bool, true, false, List, length, Option, Some, None, Result, Ok, Err, ap, arith, refl, subst, sym}
use Rattle.std.proofs.lemmas.Option.{same_Some}
use Rattle.std.specs.Prelude.{IfOk, IfSome}
use Rattle.tg_text.specs.declared.fault.ScriptFault.{ScriptFault}
use Rattle.tg_text.specs.declared.fault.ScriptFault.TheVariants as script
use Rattle.tg_entries.specs.declared.kept.History.{History}
use Rattle.tg_entries.specs.Kept.{IsTextOf}
use Rattle.tg_entries.specs.declared.kept.HistoryStart.{HistoryStart}
use Rattle.tg_revive.specs.Reviving.{IsRevived, entries_made_before, graph_of_start}
use Rattle.tg_script.specs.declared.going.RunOn.{RunOn}
use Rattle.tg_script.specs.GoingOn.{GoneOn, scene_on}
use Rattle.tg_script.specs.Script.{Scene}
use Rattle.tg_journal.specs.Auditing.{StandsAt}
use Rattle.tg_journal.specs.declared.entry.Entry.{Entry}
use Rattle.tg_journal.specs.History.{IsLegal, graph_after}
use Rattle.tg_journal.specs.Live.{AuditState}
use Rattle.tg_space.specs.SpaceTable.{BlockLimits}
use Rattle.tg_store.specs.Store.{StoreState, graph_of_store}
use Rattle.tg_threads.specs.declared.fault.RaceFault.{RaceFault}
use Rattle.tg_threads.specs.declared.race_on.RaceOn.{RaceOn}
use Rattle.tg_threads.specs.Output.{count_before}
use Rattle.tg_threads.specs.Race.{HasRaced, MayAudit, MayRaceOn, race_on}
use Rattle.tgstore.specs.Resumed.{GoesOnBy, IsOnwardAfter, IsResumed, IsRunAfter, MeetsAsked, ServedOn, ServesOn, WentOn}
use Rattle.tgstore.specs.Serving.{race_text_on_as}
use Rattle.tgstore.specs.declared.onward.Onward.{Onward}
use Rattle.tgstore.specs.declared.onward.Onward.TheVariants.{Lines, Race}
use Rattle.tgstore.specs.Strict.{seen_if, status_if}
use Rattle.tgstore.specs.declared.start.ResumedStart.{ResumedStart}
use Rattle.tgstore.specs.declared.stop.Stop.{Stop}
use Rattle.tgstore.specs.declared.stop.Stop.TheVariants as stop
use Rattle.tgstore.proofs.ServingLaws.{told_as}
use Rattle.tgstore.proofs.StrictLaws.{status_seen}

-- ---- what it goes on from

pub text_known : {E : Type 0} (r : Result History E) (known other : Option (List ℕ)) → known ≡ other → IfOk r (λ (h : History). IfSome other (λ text. IsTextOf text h)) → IfOk r (λ (h : History). IfSome known (λ text. IsTextOf text h))
text_known r known other same read = subst (λ (k : Option (List ℕ)). IfOk r (λ (h : History). IfSome k (λ text. IsTextOf text h))) (sym same) read

resumed_from : {P : Type 0} (known : Option (List ℕ)) (start : ResumedStart) (history : History) (from : Onward P) → IfSome known (λ text. IsTextOf text history) → MeetsAsked start.asked history.start → IsOnwardAfter history start from → IfSome known (λ text. IsResumed text start from)
resumed_from None start history from of asked run = tt
resumed_from (Some text) start history from of asked run = record { history = history; is = of; asked = asked; run = run }

pub resumed : {P : Type 0} (known : Option (List ℕ)) (start : ResumedStart) (history : History) (r : Result (Onward P) Stop) → IfSome known (λ text. IsTextOf text history) → MeetsAsked start.asked history.start → IfOk r (IsOnwardAfter history start) → IfOk r (λ from. IfSome known (λ text. IsResumed text start from))
resumed known start history (Ok from) of asked run = resumed_from known start history from of asked run
resumed known start history (Err why) of asked run = tt

pub placed : {P : Type 0} (start : ResumedStart) (history : History) (from : RunOn P) → IsRunAfter history start from → from.skipped ≤ length from.store.entries
placed start history from run =
    let count : length from.store.entries ≡ entries_made_before history.start + length history.entries.items = run.store.count in
    omega (arith, count, run.skipped)

-- the auditor at the head of a history may audit what the store after it holds
pub may_audit : (start : HistoryStart) (es : List Entry) (given : BlockLimits) (store : StoreState) (auditor : AuditState) → IsRevived start es given store → StandsAt (graph_of_start start) auditor → auditor.at ≡ entries_made_before start → MayAudit store auditor
may_audit start es given store auditor revived stands at = record {
  from = graph_of_start start;
  comes = stands;
  place = at ∙ sym revived.place;
  legal = subst (IsLegal (graph_of_start start)) (sym revived.held) revived.legal;
  graph = revived.graph ∙ ap (graph_after (graph_of_start start)) (sym revived.held);
}

-- a race may go on from there, where somebody acts
pub race_ready : {P : Type 0} (start : ResumedStart) (history : History) (from : RunOn P) (auditor : AuditState) (r : Result (RaceOn P) Stop) → IsRunAfter history start from → StandsAt (graph_of_start history.start) auditor → auditor.at ≡ entries_made_before history.start →
    IfOk r (λ on. (on.from ≡ from) × (on.auditor ≡ auditor)) → IfOk r (λ on. 1 ≤ length (graph_of_store from.store).subjects) → IfOk r MayRaceOn
race_ready {P} start history from auditor (Ok on) run stands at same some = record {
  place = subst (λ (f : RunOn P). f.skipped ≤ length f.store.entries) (sym same.0) (placed start history from run);
  some = subst (λ (f : RunOn P). 1 ≤ length (graph_of_store f.store).subjects) (sym same.0) some;
  audit = subst (λ (f : RunOn P). MayAudit f.store on.auditor) (sym same.0) (subst (MayAudit from.store) (sym same.1) (may_audit history.start history.entries.items start.limits from.store auditor run.store stands at));
}
race_ready start history from auditor (Err why) run stands at same some = tt

pub race_run : {P : Type 0} (start : ResumedStart) (history : History) (from : RunOn P) (auditor : AuditState) (r : Result (RaceOn P) Stop) → IsRunAfter history start from → IfOk r (λ on. (on.from ≡ from) × (on.auditor ≡ auditor)) → IfOk r (λ on. IsRunAfter history start on.from)
race_run {P} start history from auditor (Ok on) run same = subst (λ (f : RunOn P). IsRunAfter history start f) (sym same.0) run
race_run start history from auditor (Err why) run same = tt

-- ---- a run from there

went_on_at : {P : Type 0} (entries : Bool) (from : RunOn P) (bytes before : List ℕ) (saw saw' : Option Bool) (outcome : Result (Unit {0}) ScriptFault) (left : List ℕ) (after : Option (List ℕ)) → GoneOn entries (scene_on from) (count_before from) bytes before saw outcome left after saw' → WentOn entries (Lines from) bytes before saw (told_as stop.Script outcome) left after saw'
went_on_at entries from bytes before saw saw' (Ok done) left after gone = gone
went_on_at entries from bytes before saw saw' (Err fault) left after gone = gone

pub went_on : {P : Type 0} (entries : Bool) (from : RunOn P) (bytes before : List ℕ) (saw saw' : Option Bool) (outcome : Result (Unit {0}) ScriptFault) (result : Result (Unit {0}) Stop) (left : List ℕ) (after : Option (List ℕ)) → told_as stop.Script outcome ≡ result → GoneOn entries (scene_on from) (count_before from) bytes before saw outcome left after saw' → WentOn entries (Lines from) bytes before saw result left after saw'
went_on entries from bytes before saw saw' outcome result left after is gone =
    subst (λ (x : Result (Unit {0}) Stop). WentOn entries (Lines from) bytes before saw x left after saw') is (went_on_at entries from bytes before saw saw' outcome left after gone)

raced_on_at : {P : Type 0} (entries : Bool) (on : RaceOn P) (bytes before : List ℕ) (saw : Option Bool) (outcome : Result (Unit {0}) RaceFault) (left : List ℕ) (after : Option (List ℕ)) → HasRaced (race_on (race_text_on_as entries) on.from) bytes before outcome left after → WentOn entries (Race on) bytes before saw (told_as stop.Race outcome) left after saw
raced_on_at entries on bytes before saw (Ok done) left after raced = (raced, refl)
raced_on_at entries on bytes before saw (Err fault) left after raced = raced

-- and a race from there
pub raced_on : {P : Type 0} (entries : Bool) (on : RaceOn P) (bytes before : List ℕ) (saw : Option Bool) (outcome : Result (Unit {0}) RaceFault) (result : Result (Unit {0}) Stop) (left : List ℕ) (after : Option (List ℕ)) → told_as stop.Race outcome ≡ result → HasRaced (race_on (race_text_on_as entries) on.from) bytes before outcome left after → WentOn entries (Race on) bytes before saw result left after saw
raced_on entries on bytes before saw outcome result left after is raced =
    subst (λ (x : Result (Unit {0}) Stop). WentOn entries (Race on) bytes before saw x left after saw) is (raced_on_at entries on bytes before saw outcome left after raced)

-- of a fault a watch tells nothing
unseen_gone : (entries : Bool) (s : Scene) (count : ℕ) (bytes before : List ℕ) (saw saw' : Option Bool) (fault : ScriptFault) (left : List ℕ) (after : Option (List ℕ)) → GoneOn {T = Unit {0}} entries s count bytes before saw (Err fault) left after saw' → GoneOn {T = Unit {0}} entries s count bytes before None (Err fault) left after None
unseen_gone entries s count bytes before saw saw' script.WriteFailed left after gone = gone
unseen_gone entries s count bytes before saw saw' fault left after gone = gone

unseen_went : {P : Type 0} (entries : Bool) (from : Onward P) (bytes before : List ℕ) (saw saw' : Option Bool) (why : Stop) (left : List ℕ) (after : Option (List ℕ)) → WentOn {T = Unit {0}} entries from bytes before saw (Err why) left after saw' → WentOn {T = Unit {0}} entries from bytes before None (Err why) left after None
unseen_went entries (Lines from) bytes before saw saw' (stop.Script fault) left after went = unseen_gone entries (scene_on from) (count_before from) bytes before saw saw' fault left after went
unseen_went entries (Race on) bytes before saw saw' (stop.Race fault) left after went = went
unseen_went entries from bytes before saw saw' why left after went = absurd went

-- a watch that saw nothing has status 0
race_status : (strict had on saw : Bool) → had ≡ false → seen_if on saw ≡ seen_if strict had → status_if strict saw ≡ 0
race_status false had on saw none same = refl
race_status true had true saw none same = ap (status_if true) (same_Some saw had same ∙ none)
race_status true had false saw none same = absurd cc

served_on : {P : Type 0} (start : ResumedStart) (from : Onward P) (bytes before : List ℕ) (strict had on saw : Bool) (result : Result (Unit {0}) Stop) (status : ℕ) (left : List ℕ) (after : Option (List ℕ)) → strict ≡ start.strict → had ≡ false → status ≡ status_if start.strict saw → WentOn start.entries from bytes before (seen_if strict had) result left after (seen_if on saw) → ServedOn start from bytes before result status left after
served_on start (Lines from) bytes before strict had on saw (Ok done) status left after same none is went =
    let seen = subst (λ (x : Bool). WentOn start.entries (Lines from) bytes before (seen_if x had) (Ok done) left after (seen_if on saw)) same went in
    (seen.0, seen.1, seen.2, seen.3, is ∙ status_seen start.strict had on saw seen.0 none seen.4)
served_on start (Race race) bytes before strict had on saw (Ok done) status left after same none is went =
    let seen = subst (λ (x : Bool). WentOn start.entries (Race race) bytes before (seen_if x had) (Ok done) left after (seen_if on saw)) same went in
    (seen.0, is ∙ race_status start.strict had on saw none seen.1)
served_on start from bytes before strict had on saw (Err why) status left after same none is went =
    unseen_went start.entries from bytes before (seen_if strict had) (seen_if on saw) why left after went

pub serves_on : {P : Type 0} (left left' taken taken' : Option (List ℕ)) (start : ResumedStart) (from : Onward P) (strict had on saw : Bool) (result : Result (Unit {0}) Stop) (status : ℕ) → strict ≡ start.strict → had ≡ false → status ≡ status_if start.strict saw → GoesOnBy start.entries from left left' taken taken' (seen_if strict had) (seen_if on saw) result → ServesOn start from left left' taken taken' result status
serves_on left left' taken taken' start from strict had on saw result status same none is goes = λ bytes before leaves takes.
    let had_so = goes bytes before leaves takes in
    (had_so.0, had_so.1, served_on start from bytes before strict had on saw result status had_so.0 taken' same none is had_so.2)

-- what is known of a reader and a writer is known of those that they were made from
pub serves_from : {P : Type 0} (l left left' k taken taken' : Option (List ℕ)) (start : ResumedStart) (from : Onward P) (result : Result (Unit {0}) Stop) (status : ℕ) → l ≡ left → k ≡ taken → ServesOn start from left left' taken taken' result status → ServesOn start from l left' k taken' result status
serves_from l left left' k taken taken' start from result status reads writes serves = λ bytes before leaves takes. serves bytes before (sym reads ∙ leaves) (sym writes ∙ takes)
