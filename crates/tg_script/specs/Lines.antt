-- The outcome of the next line of a script, and what that says of how its bytes are read.
use Rattle.std.specs.Prelude.{◌≡◌, ◌⊎◌, ℕ, ◌+◌, true, List, [], ◌∷◌, ◌++◌, length, Option, Some, None, Result, Ok, Err, IfErr}
use Rattle.std.specs.List.{flat_map}
use Rattle.tg_text.specs.declared.line.Line.{Line}
use Rattle.tg_text.specs.declared.fetch.TheConstants.{MOST_BYTES}
use Rattle.tg_text.specs.declared.fault.ScriptFault.{ScriptFault}
use Rattle.tg_text.specs.declared.fault.ScriptFault.TheVariants as fault
use Rattle.tg_script.specs.declared.script.Script.{Script}
use Rattle.tg_text.specs.Grammar.{LineFits, line_text}
use Rattle.tg_text.specs.Reading.{Reads, MayStand, IsBadText, IsOfBytes, opening_after}
use Rattle.tg_text.specs.Sinks.{KeepsBytes}

-- the bytes are these lines, and then the fault, or the end, and these bytes are left
abbrev pub ReadsFrom : Script → List ℕ → List Line → Option ScriptFault → List ℕ → Type 0
ReadsFrom s bytes lines end left = Reads s.workers s.lines.room s.count s.opening bytes lines end left

-- a script of which no line was read, with so many workers
pub record IsNewScript (s : Script) (number : ℕ) : Type 0 where
  pub workers : s.workers ≡ number
  pub room : s.lines.room ≡ MOST_BYTES
  pub count : s.count ≡ 0
  pub opening : s.opening ≡ true

-- the line is taken: whatever is read after it is read after it
abbrev pub PassesLine : Script → List ℕ → Line → Script → List ℕ → Type 0
PassesLine s bytes l t rest =
    (lines : List Line) (end : Option ScriptFault) (left : List ℕ) → ReadsFrom t rest lines end left → ReadsFrom s bytes (l ∷ lines) end left

-- a fault that is met in reading, or in finishing what was written before more is read
abbrev pub IsOfReading : ScriptFault → Type 0
IsOfReading fault.ReadFailed = Unit {0}
IsOfReading fault.WriteFailed = Unit {0}
IsOfReading f = IsOfBytes (Some f)

-- a fault that is met in reading lines and keeping them: one of reading, or lack of memory
abbrev pub IsOfKeeping : ScriptFault → Type 0
IsOfKeeping f = IsOfReading f ⊎ (f ≡ fault.OutOfMemory)

-- a line, the end of the input, or the first fault, and the bytes that are left after it
abbrev pub NextLine : Script → List ℕ → Result (Option Line) ScriptFault → Script → List ℕ → Type 0
NextLine s bytes (Ok (Some l)) t rest = PassesLine s bytes l t rest
NextLine s bytes (Ok None) t rest = ReadsFrom s bytes [] None rest
NextLine s bytes (Err f) t rest = IsOfReading f × ReadsFrom s bytes [] (Some f) rest

-- how many bytes may still come after the line, and that nothing changes at the end of the input
abbrev pub PassesOn : Script → Option Line → Script → Type 0
PassesOn s (Some l) t = t.lines.room + (length (line_text l) + 1) ≡ s.lines.room
PassesOn s None t = (t.workers ≡ s.workers) × (t.lines.room ≡ s.lines.room) × (t.count ≡ s.count) × (t.opening ≡ s.opening)

-- the line may be where it came, and now one more line was read
pub record Follows (s : Script) (l : Line) (t : Script) : Type 0 where
  pub stands : MayStand s.workers s.opening l
  pub workers : t.workers ≡ s.workers
  pub count : t.count ≡ s.count + 1
  pub opening : t.opening ≡ opening_after s.opening l

-- the line in the buffer is taken, or is bad
abbrev pub TakesLine : Script → Result (Option Line) ScriptFault → Script → Type 0
TakesLine s (Ok (Some l)) t = LineFits l × (s.buffer ≡ line_text l) × Follows s l t × (t.lines ≡ s.lines)
TakesLine s (Ok None) t = ⊥
TakesLine s (Err f) t = (f ≡ fault.BadLine (s.count + 1)) × IsBadText s.workers s.opening s.buffer × (t ≡ s)

-- the bytes of a line, with its line feed
abbrev pub line_bytes : Line → List ℕ
line_bytes l = line_text l ++ 10 ∷ []

-- what is left is all that is after these lines
abbrev pub IsRestAfter : List Line → List ℕ → List ℕ → Type 0
IsRestAfter lines bytes left = bytes ≡ flat_map line_bytes lines ++ left

-- how many failures of the source an outcome is
abbrev pub read_failures : {T : Type 0} → Result T ScriptFault → ℕ
read_failures (Err fault.ReadFailed) = 1
read_failures r = 0

-- how many failures of the sink an outcome is
abbrev pub write_failures : {T : Type 0} → Result T ScriptFault → ℕ
write_failures (Err fault.WriteFailed) = 1
write_failures r = 0

-- The source and the sink failed so many times more, by the counts that they keep of it.
pub record CountsFailures {S K : Type 0} (read : S → ℕ) (written : K → ℕ) (source source' : S) (sink sink' : K) (reads writes : ℕ) : Type 0 where
  pub read_failed : read source' ≡ read source + reads
  pub write_failed : written sink' ≡ written sink + writes

-- Lines were read, and no more was done: the reading met no fault but one of these, each failure of the source and of the sink is told
-- by its outcome, and the sink took no byte.
pub record OnlyReads {S K T : Type 0} (IsMet : ScriptFault → Type 0) (read : S → ℕ) (written : K → ℕ) (takes : K → Option (List ℕ))
    (source source' : S) (sink sink' : K) (result : Result T ScriptFault) : Type 0 where
  pub fault : IfErr result IsMet
  pub failures : CountsFailures read written source source' sink sink' (read_failures result) (write_failures result)
  pub taken : KeepsBytes (takes sink) (takes sink')
