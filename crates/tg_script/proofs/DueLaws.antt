-- A run ends for its limits only where they are at fault, and for its source only where that failed.
use Rattle.std.specs.Prelude.{IfErr, IfNone, IfSome, OnOk}
use Rattle.std.proofs.Common.{◌≡◌, ◌∙◌, ◌+◌, ◌<◌, ◌≤◌, ℕ, Bool, true, List, Option, Some, None, Result, Ok, Err, inl, inr, refl, sym, ap, subst, arith}
use Rattle.std.proofs.lemmas.Bool.{false≢true}
use Rattle.tg_model.specs.Opened.{Plan}
use Rattle.tg_text.specs.declared.fault.ScriptFault.{ScriptFault}
use Rattle.tg_text.specs.declared.fault.ScriptFault.TheVariants as fault
use Rattle.tg_script.specs.Script.{Start}
use Rattle.tg_script.specs.declared.script.Script.{Script}
use Rattle.tg_script.specs.Lines.{CountsFailures, IsOfReading, IsOfKeeping, read_failures, write_failures}
use Rattle.tg_script.specs.Opening.{OpensStore}
use Rattle.tg_text.specs.declared.line.Line.{Line}
use Rattle.tg_script.specs.declared.run_script.Begun.{Begun}
use Rattle.tg_script.specs.Running.{Finishes, FinishesSink, IsDue, RunsAs}
use Rattle.tg_script.specs.Inner.Beginning.{Begins, BeginsStreams, Unbegun}
use Rattle.tg_script.specs.Inner.Telling.{UsesStreams}
use Rattle.tg_script.proofs.LinesLaws.{keeps_known}

reading_due : (start : Start) (f : ScriptFault) → IsOfReading f → IsDue start f
reading_due start fault.HeapFull h = absurd h
reading_due start fault.BadLimits h = absurd h
reading_due start f h = tt

pub keeping_due : (start : Start) (f : ScriptFault) → IsOfKeeping f → IsDue start f
keeping_due start f (inl h) = reading_due start f h
keeping_due start f (inr e) = subst (IsDue start) (sym e) tt

-- after the edges
pub lines_due : {T : Type 0} (start : Start) (r : Result T ScriptFault) → IfErr r IsOfReading → IfErr r (IsDue start)
lines_due start (Ok done) h = tt
lines_due start (Err f) h = reading_due start f h

-- where no store is opened
pub opening_due : (p : Plan) (start : Start) (f : ScriptFault) → p.workers ≡ start.workers → p.limit ≡ start.limit → OpensStore p start.blocks (Err f) → IsDue start f
opening_due p start fault.HeapFull workers limit h = omega (arith, h.1, workers)
opening_due p start fault.BadLimits workers limit h = λ room. h (omega (arith, room.0, limit), omega (arith, room.1, limit), omega (arith, room.2, workers, limit))
opening_due p start f workers limit h = tt

-- at the end
pub finished_due : {T : Type 0} (start : Start) (outcome result : Result T ScriptFault) (before after : Option (List ℕ)) (failures failures' : ℕ) →
    IfErr outcome (IsDue start) → Finishes before failures outcome result after failures' → IfErr result (IsDue start)
finished_due start outcome result before after failures failures' due (kept, inl h) = subst (λ r. IfErr r (IsDue start)) (sym h.0) due
finished_due start outcome result before after failures failures' due (kept, inr h) = subst (λ r. IfErr r (IsDue start)) (sym h.1) tt

-- ---- the failures that source and sink have counted are reported

-- where no store is opened there was none
pub opening_fails : (T : Type 0) (p : Plan) (blocks : ℕ) (f : ScriptFault) → OpensStore p blocks (Err f) → (read_failures {T = T} (Err f) ≡ 0) × (write_failures {T = T} (Err f) ≡ 0)
opening_fails T p blocks fault.ReadFailed h = absurd h
opening_fails T p blocks fault.WriteFailed h = absurd h
opening_fails T p blocks f h = (refl, refl)

-- at the end
pub finished_read : {T : Type 0} (outcome result : Result T ScriptFault) (before after : Option (List ℕ)) (failures failures' : ℕ) →
    Finishes before failures outcome result after failures' → read_failures result ≡ read_failures outcome
finished_read outcome result before after failures failures' (kept, inl h) = ap read_failures h.0
finished_read (Err why) result before after failures failures' (kept, inr h) = absurd (false≢true h.0)
finished_read (Ok done) result before after failures failures' (kept, inr h) = ap read_failures h.1

pub finished_write : {T : Type 0} (outcome result : Result T ScriptFault) (before after : Option (List ℕ)) (first failures failures' : ℕ) →
    Finishes before failures outcome result after failures' → failures ≡ first + write_failures outcome → result ≡ Err fault.WriteFailed → first < failures'
finished_write outcome result before after first failures failures' (kept, inl h) had is = omega (arith, ap write_failures (sym h.0 ∙ is), h.1, had)
finished_write outcome result before after first failures failures' (kept, inr h) had is = omega (arith, h.2, had)

pub finished_unfailed : {T : Type 0} (outcome result : Result T ScriptFault) (before after : Option (List ℕ)) (first failures failures' : ℕ) →
    Finishes before failures outcome result after failures' → failures ≡ first + write_failures outcome → OnOk result (failures' ≡ first)
finished_unfailed outcome (Err why) before after first failures failures' ended had = tt
finished_unfailed (Err why) (Ok done) before after first failures failures' (kept, inl h) had = absurd cc
finished_unfailed (Ok other) (Ok done) before after first failures failures' (kept, inl h) had = omega (arith, h.2 refl, had)
finished_unfailed outcome (Ok done) before after first failures failures' (kept, inr h) had = absurd cc

-- at the end, of a sink that had failed as often as the outcome tells
pub sink_finished : {K T : Type 0} {wrote : K → ℕ} {is_finished : K → Bool} {sink sink' : K} {outcome result : Result T ScriptFault} (takes : K → Option (List ℕ)) (mid : K) → wrote mid ≡ wrote sink + write_failures outcome → Finishes (takes mid) (wrote mid) outcome result (takes sink') (wrote sink') → is_finished sink' ≡ true → FinishesSink wrote is_finished sink sink' result
sink_finished {wrote = wrote} {sink = sink} {sink' = sink'} {outcome = outcome} {result = result} takes mid had ended finished = record {
  write_failed = finished_write outcome result (takes mid) (takes sink') (wrote sink) (wrote mid) (wrote sink') ended had;
  unfailed = finished_unfailed outcome result (takes mid) (takes sink') (wrote sink) (wrote mid) (wrote sink') ended had;
  finished = finished;
}

-- ---- a run, whatever it writes

abbrev Standing : Type 0 → Type 1
Standing T = Start → List ℕ → List ℕ → Result T ScriptFault → List ℕ → Option (List ℕ) → Type 0

-- it hasn't begun
pub runs_unbegun : {S K P T : Type 0} {Stands : Standing T} {left : S → Option (List ℕ)} {asks read : S → ℕ} {wrote : K → ℕ} {takes : K → Option (List ℕ)} {source source' : S} {sink sink' : K} {start : Start} {f : ScriptFault} → ((bytes : List ℕ) → left source ≡ Some bytes → (rest : List ℕ) × (left source' ≡ Some rest) × Unbegun start bytes f rest) → BeginsStreams {P = P} asks read wrote takes source source' sink sink' start (Err f) → ((bytes before rest : List ℕ) (after : Option (List ℕ)) → Unbegun start bytes f rest → after ≡ Some before → Stands start bytes before (Err f) rest after) → RunsAs Stands left asks read takes source source' sink sink' start (Err f)
runs_unbegun {takes = takes} {sink = sink} {sink' = sink'} begins streams stands = record {
  output = λ bytes before leaves taken.
      let n = begins bytes leaves in
      (n.0, n.1, stands bytes before n.0 (takes sink') n.2 (keeps_known (takes sink) (takes sink') before taken streams.taken));
  due = streams.due;
  asked = streams.asked;
  read_failed = streams.failures.read_failed;
}

-- where no line came the source isn't asked again
pub asked_first : (first : Option Line) (room start mid end : ℕ) → IfSome first (λ _. end ≤ mid + room + 1) → IfNone first (end ≡ mid) → mid ≤ start + 1048577 → IfSome first (λ _. mid + room ≡ start + 1048576) → end ≤ start + 1048577
asked_first None room start mid end some none all line = omega (arith, none, all)
asked_first (Some l) room start mid end some none all line = omega (arith, some, line)

-- it has begun, and its lines were run
pub runs_begun : {S K P T : Type 0} {Stands : Standing T} {left : S → Option (List ℕ)} {asks read : S → ℕ} {wrote : K → ℕ} {takes : K → Option (List ℕ)} {source source' source'' : S} {sink sink' sink'' : K} {start : Start} {begun : Begun P} {outcome : Result T ScriptFault} → ((bytes : List ℕ) → left source ≡ Some bytes → (rest : List ℕ) × (left source' ≡ Some rest) × Begins start bytes (Ok begun) rest) → BeginsStreams asks read wrote takes source source' sink sink' start (Ok begun) → UsesStreams asks read wrote source' source'' sink' sink'' begun.script begun.first outcome → ((bytes rest before : List ℕ) → left source' ≡ Some rest → takes sink' ≡ Some before → Begins start bytes (Ok begun) rest → (last : List ℕ) × (left source'' ≡ Some last) × Stands start bytes before outcome last (takes sink'')) → RunsAs Stands left asks read takes source source'' sink sink'' start outcome
runs_begun {asks = asks} {takes = takes} {source = source} {source' = source'} {source'' = source''} {sink = sink} {sink' = sink'} {start = start} {begun = begun} {outcome = outcome} begins streams uses stands = record {
  output = λ bytes before leaves taken.
      let n = begins bytes leaves in
      stands bytes n.0 before n.1 (keeps_known (takes sink) (takes sink') before taken streams.taken) n.2;
  due = lines_due start outcome uses.fault;
  asked = asked_first begun.first begun.script.lines.room (asks source) (asks source') (asks source'') uses.asked uses.unasked streams.asked streams.asked_of_line;
  read_failed = omega (arith, uses.failures.read_failed, streams.failures.read_failed);
}

-- the sink failed before a line of it was read
failed_writing : {S K : Type 0} (read : S → ℕ) (wrote : K → ℕ) (source : S) (sink sink' : K) → wrote sink' ≡ wrote sink + 1 → CountsFailures read wrote source source sink sink' 0 1
failed_writing read wrote source sink sink' failed = record { read_failed = omega arith; write_failed = failed }

pub uses_no_line : {S K : Type 0} (T : Type 0) (asks read : S → ℕ) (wrote : K → ℕ) (source : S) (sink sink' : K) (s : Script) (first : Option Line) → wrote sink' ≡ wrote sink + 1 → UsesStreams {T = T} asks read wrote source source sink sink' s first (Err fault.WriteFailed)
uses_no_line T asks read wrote source sink sink' s None failed =
    record { fault = tt; failures = failed_writing read wrote source sink sink' failed; asked = tt; unasked = refl {a = asks source} }
uses_no_line T asks read wrote source sink sink' s (Some l) failed =
    record { fault = tt; failures = failed_writing read wrote source sink sink' failed; asked = omega arith; unasked = tt }

-- its sink was finished
pub runs_finished : {S K T : Type 0} {Stands : Standing T} {left : S → Option (List ℕ)} {asks read : S → ℕ} {takes : K → Option (List ℕ)} {source source' : S} {sink mid sink' : K} {start : Start} {outcome result : Result T ScriptFault} (wrote : K → ℕ) → RunsAs Stands left asks read takes source source' sink mid start outcome → Finishes (takes mid) (wrote mid) outcome result (takes sink') (wrote sink') → ((bytes before rest : List ℕ) → Stands start bytes before outcome rest (takes mid) → Stands start bytes before result rest (takes sink')) → RunsAs Stands left asks read takes source source' sink sink' start result
runs_finished {read = read} {takes = takes} {source = source} {mid = mid} {sink' = sink'} {start = start} {outcome = outcome} {result = result} wrote ran ended keeps = record {
  output = λ bytes before leaves taken. let had = ran.output bytes before leaves taken in (had.0, had.1, keeps bytes before had.0 had.2);
  due = finished_due start outcome result (takes mid) (takes sink') (wrote mid) (wrote sink') ran.due ended;
  asked = ran.asked;
  read_failed = ran.read_failed ∙ ap (λ n. read source + n) (sym (finished_read outcome result (takes mid) (takes sink') (wrote mid) (wrote sink') ended));
}
