-- How the lines of a script are read one by one, and added.
use Rattle.std.specs.Prelude.{◌≡◌, ◌⊎◌, ℕ, ◌+◌, ◌<◌, true, List, [], ◌∷◌, ◌++◌, Option, Some, None, Result, Ok, Err}
use Rattle.std.specs.declared.sync.ledger.Blank.{Blank}
use Rattle.tg_text.specs.declared.line.Line.{Line}
use Rattle.tg_text.specs.declared.line.Line.TheVariants as line
use Rattle.tg_text.specs.declared.fetch.TheConstants.{MOST_BYTES}
use Rattle.tg_text.specs.declared.fault.ScriptFault.{ScriptFault}
use Rattle.tg_text.specs.declared.fault.ScriptFault.TheVariants as fault
use Rattle.tg_text.specs.Grammar.{LineFits, line_text}
use Rattle.tg_text.specs.Reading.{Reads, ReadsScript, MayStand, IsBadText, opening_after}
use Rattle.tg_plain.specs.declared.reading.Reading.{Reading}
use Rattle.tg_plain.specs.declared.script.Script.{Script}
use Rattle.tg_plain.specs.Lines.{all_lines}

-- the bytes are these lines, and then the fault, or the end, and these bytes are left
abbrev pub ReadsPlainFrom : Reading → List ℕ → List Line → Option ScriptFault → List ℕ → Type 0
ReadsPlainFrom s bytes lines end left = Reads s.workers s.lines.room s.count s.opening bytes lines end left

-- no line was read, with so many workers
pub record IsNewReading (s : Reading) (number : ℕ) : Type 0 where
  pub workers : s.workers ≡ number
  pub room : s.lines.room ≡ MOST_BYTES
  pub count : s.count ≡ 0
  pub opening : s.opening ≡ true

-- the line is taken: whatever is read after it is read after it
abbrev pub PassesPlainLine : Reading → List ℕ → Line → Reading → List ℕ → Type 0
PassesPlainLine s bytes l t rest =
    (lines : List Line) (end : Option ScriptFault) (left : List ℕ) → ReadsPlainFrom t rest lines end left → ReadsPlainFrom s bytes (l ∷ lines) end left

-- these lines of a script were taken: whatever is read after them is read after them
abbrev pub ReadsPlainFront : ℕ → List ℕ → List Line → Reading → List ℕ → Type 0
ReadsPlainFront workers bytes front t rest =
    (lines : List Line) (end : Option ScriptFault) (left : List ℕ) → ReadsPlainFrom t rest lines end left → ReadsScript workers bytes (front ++ lines) end left

-- a line, the end of the input, or the first fault, and the bytes that are left after it
abbrev pub NextPlainLine : Reading → List ℕ → Result (Option Line) ScriptFault → Reading → List ℕ → Type 0
NextPlainLine s bytes (Ok (Some l)) t rest = PassesPlainLine s bytes l t rest
NextPlainLine s bytes (Ok None) t rest = ReadsPlainFrom s bytes [] None rest
NextPlainLine s bytes (Err f) t rest = ReadsPlainFrom s bytes [] (Some f) rest

-- the line may be where it came, and now one more line was read
pub record FollowsReading (s : Reading) (l : Line) (t : Reading) : Type 0 where
  pub stands : MayStand s.workers s.opening l
  pub workers : t.workers ≡ s.workers
  pub count : t.count ≡ s.count + 1
  pub opening : t.opening ≡ opening_after s.opening l

-- the line in the buffer is taken, or is bad
abbrev pub TakesPlainLine : Reading → Result (Option Line) ScriptFault → Reading → Type 0
TakesPlainLine s (Ok (Some l)) t = LineFits l × (s.buffer ≡ line_text l) × FollowsReading s l t × (t.lines ≡ s.lines)
TakesPlainLine s (Ok None) t = ⊥
TakesPlainLine s (Err f) t = (f ≡ fault.BadLine (s.count + 1)) × IsBadText s.workers s.opening s.buffer × (t ≡ s)

-- ---- the lines of a script

-- no line was added
abbrev pub HasNoLine : Script → Type 0
HasNoLine s = (s.edges.items ≡ []) × (s.lines.items ≡ [])

-- its lines are as they were
abbrev pub HasLinesOf : Script → Script → Type 0
HasLinesOf s t = (t.edges.items ≡ s.edges.items) × (t.lines.items ≡ s.lines.items)

-- what it runs on is as it was, and its fault
pub record KeepsOptions (s t : Script) : Type 0 where
  pub fault : t.fault ≡ s.fault
  pub workers : t.workers ≡ s.workers
  pub max_vertices : t.max_vertices ≡ s.max_vertices
  pub stock : t.stock ≡ s.stock
  pub endless : t.is_endless ≡ s.is_endless

-- an edge line is added where there is no other
abbrev pub MayAddLine : Script → Line → Type 0
MayAddLine s (line.Edge edge) = s.lines.items ≡ []
MayAddLine s (line.Create x label) = Unit {0}
MayAddLine s (line.Spawn x label) = Unit {0}
MayAddLine s (line.Plain x command) = Unit {0}
MayAddLine s line.Full = Unit {0}
MayAddLine s line.Minor = Unit {0}

-- it is with its number after the others that are no edge lines
abbrev pub AddsOther : Script → ℕ → Line → Script → Type 0
AddsOther s number l t = (t.edges.items ≡ s.edges.items) × (t.lines.items ≡ s.lines.items ++ record { number = number; line = l } ∷ [])

-- the line is after the others of its kind
abbrev pub AddsLine : Script → ℕ → Line → Script → Type 0
AddsLine s number (line.Edge edge) t = (t.edges.items ≡ s.edges.items ++ edge ∷ []) × (t.lines.items ≡ s.lines.items)
AddsLine s number (line.Create x label) t = AddsOther s number (line.Create x label) t
AddsLine s number (line.Spawn x label) t = AddsOther s number (line.Spawn x label) t
AddsLine s number (line.Plain x command) t = AddsOther s number (line.Plain x command) t
AddsLine s number line.Full t = AddsOther s number line.Full t
AddsLine s number line.Minor t = AddsOther s number line.Minor t

-- the fault of an outcome
abbrev pub fault_of : {T : Type 0} → Result T ScriptFault → Option ScriptFault
fault_of (Ok done) = None
fault_of (Err f) = Some f

-- the bytes are its lines, and then the fault of the outcome, or the end
abbrev pub IsReadAs : {T : Type 0} → List ℕ → Result T ScriptFault → Script → Type 0
IsReadAs bytes outcome s = (left : List ℕ) × ReadsScript s.workers bytes (all_lines s) (fault_of outcome) left

-- These ledgers, each by its name and the number of its parts, may count how often a source is asked and fails: each blank is its
-- ledger's, and has a part.
pub record MayCountBoth (asks all_asks fails all_fails : ℕ) (ask fail : Blank) : Type 0 where
  pub asked : (ask.name ≡ asks) × (ask.parts ≡ all_asks) × (0 < ask.parts)
  pub failures : (fail.name ≡ fails) × (fail.parts ≡ all_fails) × (0 < fail.parts)
