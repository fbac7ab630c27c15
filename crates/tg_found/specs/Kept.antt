-- The text of a history that a kept file says, and why a file isn't read.
use Rattle.std.specs.Prelude.{◌≡◌, ℕ, ◌+◌, ◌<◌, Bool, false, List, ◌∷◌, [], ◌++◌, length, take, drop, sum_by}
use Rattle.std.specs.Char.{is_ascii_digit}
use Rattle.std.specs.List.{count_by, flat_map}
use Rattle.tg_entries.specs.Texts.{end_text, version_text}
use Rattle.tg_keep.specs.Lines.{file_texts, first_sum, length_after}
use Rattle.tg_keep.specs.Opened.{RefusesFile}
use Rattle.tg_found.specs.declared.fault.KeptFault.{KeptFault}
use Rattle.tg_found.specs.declared.fault.KeptFault.TheVariants as fault
use Rattle.tg_found.specs.declared.torn.TornEnd.{TornEnd}

-- a line with its line feed
abbrev pub ended_line : List ℕ → List ℕ
ended_line text = text ++ 10 ∷ []

-- the texts of a file's whole lines after the first, the marks among them
abbrev pub later_texts : List ℕ → List (List ℕ)
later_texts file = drop 1 (file_texts file)

-- a line of a history begins with a digit exactly if it is that of an entry
abbrev pub begins_with_digit : List ℕ → Bool
begins_with_digit [] = false
begins_with_digit (byte ∷ bytes) = is_ascii_digit byte

-- how many entries the whole lines of a file have
abbrev pub entries_in : List ℕ → ℕ
entries_in file = count_by begins_with_digit (later_texts file)

-- The whole lines of a kept file, with its marks, as the text of a history. It has another first line, and then the texts of all
-- later lines.
abbrev pub text_before_end : List ℕ → List ℕ
text_before_end file = version_text ++ flat_map ended_line (later_texts file)

-- the text that a kept file says, which ends with the number of entries
abbrev pub kept_text : List ℕ → List ℕ
kept_text file = text_before_end file ++ end_text (entries_in file)

-- how many bytes a line with this text has in a file, with its line feed
abbrev pub length_in_file : List ℕ → ℕ
length_in_file text = length text + 11

-- The line of this number is whole, and begins at this byte.
pub record IsLineAt (line byte : ℕ) (file : List ℕ) : Type 0 where
  pub before : ℕ
  pub number : line ≡ before + 1
  pub within : before < length (file_texts file)
  pub place : byte ≡ sum_by length_in_file (take before (file_texts file))

-- Why a kept file isn't read.
abbrev pub RefusesKept : List ℕ → KeptFault → Type 0
RefusesKept file (fault.File why) = RefusesFile file why
RefusesKept file (fault.Line line byte why) = IsLineAt line byte file
RefusesKept file (fault.NoOpening lines) = lines ≡ length (file_texts file)

-- The end that was cut off comes after all whole lines.
pub record IsTornAt (file : List ℕ) (end : TornEnd) : Type 0 where
  pub number : end.line ≡ length (file_texts file) + 1
  pub place : end.byte ≡ length_after first_sum file
