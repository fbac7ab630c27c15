-- The parts that come from a reader.
use Rattle.std.specs.Prelude.{◌≡◌, ◌⊎◌, ℕ, ◌<◌, Bool, true, false, List, [], ◌∷◌, ◌++◌, length, Option, Some, Result, Ok, Err}
use Rattle.tg_text.specs.declared.fault.ScriptFault.{ScriptFault}
use Rattle.tg_text.specs.declared.fault.ScriptFault.TheVariants as fault
use Rattle.tg_text.specs.declared.buffer.TheConstants.{MOST_LINE_BYTES}
use Rattle.tg_text.specs.Fetching.{IsOneLine}
use Rattle.tg_lasting.specs.declared.chunk.Came.{Came}
use Rattle.tg_lasting.specs.declared.chunk.Came.TheVariants as came

-- the last of the bytes, or this one
abbrev pub last_from : ℕ → List ℕ → ℕ
last_from byte [] = byte
last_from byte (next ∷ bytes) = last_from next bytes

-- the part is empty, or ends with a line feed
abbrev pub AreWholeLines : List ℕ → Type 0
AreWholeLines chunk = last_from 10 chunk ≡ 10

-- the part is one line that is too long, as far as it came
pub record IsTooLongLine (chunk : List ℕ) : Type 0 where
  pub line : IsOneLine chunk
  pub long : MOST_LINE_BYTES < length chunk

-- Whether it is the last one, of which no more bytes are left: how a part may end.
abbrev pub MayEndPart : List ℕ → Bool → List ℕ → Type 0
MayEndPart chunk last rest = ((last ≡ true) × (rest ≡ [])) ⊎ ((last ≡ false) × (AreWholeLines chunk ⊎ IsTooLongLine chunk))

-- The next part came from these bytes, and these are left. Or the reader failed, or memory ran out for the part.
abbrev pub ChunkCame : List ℕ → List ℕ → Result Bool ScriptFault → List ℕ → Type 0
ChunkCame bytes chunk (Ok last) rest = (bytes ≡ chunk ++ rest) × MayEndPart chunk last rest
ChunkCame bytes chunk (Err fault.ReadFailed) rest = Unit {0}
ChunkCame bytes chunk (Err fault.OutOfMemory) rest = Unit {0}
ChunkCame bytes chunk (Err f) rest = ⊥

-- the same by what a reader tells
abbrev pub ComesNext : Option (List ℕ) → Option (List ℕ) → List ℕ → Result Bool ScriptFault → Type 0
ComesNext left left' chunk result = (bytes : List ℕ) → left ≡ Some bytes → (rest : List ℕ) × (left' ≡ Some rest) × ChunkCame bytes chunk result rest

-- the bytes end with a line feed
abbrev pub EndsWithFeed : List ℕ → Type 0
EndsWithFeed bytes = (front : List ℕ) × (bytes ≡ front ++ 10 ∷ [])

-- What a reader held was taken and added: bytes up to a line feed, or bytes without one. Or no byte was left.
abbrev pub HeldCame : List ℕ → List ℕ → List ℕ → Result Came ScriptFault → List ℕ → Type 0
HeldCame bytes before after (Ok came.Lines) rest = (taken : List ℕ) × (bytes ≡ taken ++ rest) × (after ≡ before ++ taken) × EndsWithFeed taken
HeldCame bytes before after (Ok came.Piece) rest = (taken : List ℕ) × (bytes ≡ taken ++ rest) × (after ≡ before ++ taken) × IsOneLine taken
HeldCame bytes before after (Ok came.End) rest = (bytes ≡ []) × (rest ≡ []) × (after ≡ before)
HeldCame bytes before after (Err fault.ReadFailed) rest = Unit {0}
HeldCame bytes before after (Err fault.OutOfMemory) rest = Unit {0}
HeldCame bytes before after (Err f) rest = ⊥

-- the same by what a reader tells
abbrev pub TakesHeld : Option (List ℕ) → Option (List ℕ) → List ℕ → List ℕ → Result Came ScriptFault → Type 0
TakesHeld left left' before after result = (bytes : List ℕ) → left ≡ Some bytes → (rest : List ℕ) × (left' ≡ Some rest) × HeldCame bytes before after result rest
