-- What a file of lines says: the texts of its lines, up to the first that isn't whole, without the marks.
use Rattle.std.specs.Prelude.{ℕ, ◌+◌, ◌-◌, ◌==◌, Bool, not, ◌&&◌, if◌then◌else◌, List, [], ◌∷◌, ◌++◌, length, slice_index, take, drop, map, fold, sum_by, bytes_eq, codes}
use Rattle.std.specs.List.{filter, list_any, starts_with}
use Rattle.tg_keep.specs.Sums.{sum_after}

-- '@' if the line begins a batch, and else '#'
abbrev pub mark_of : Bool → ℕ
mark_of begins = if begins then 64 else 35

-- TEXT SP MARK SUM: the line with this text, after a line with the sum `before`. The line feed isn't part of it.
unfoldable pub line_of : List ℕ → Bool → List ℕ → List ℕ
line_of before begins text = text ++ 32 ∷ mark_of begins ∷ sum_after before text

-- the line with its line feed, as a file has it
abbrev pub sealed_line : List ℕ → Bool → List ℕ → List ℕ
sealed_line before begins text = line_of before begins text ++ 10 ∷ []

-- the parts of a line: the text, whether it begins a batch, and the digits of its sum
unfoldable pub text_in : List ℕ → List ℕ
text_in line = take (length line - 10) line

unfoldable pub begins_in : List ℕ → Bool
begins_in line = slice_index line (length line - 9) == 64

unfoldable pub sum_in : List ℕ → List ℕ
sum_in line = drop (length line - 8) line

abbrev pub has_zero : List ℕ → Bool
has_zero bytes = list_any (λ byte. byte == 0) bytes

-- a text that a line may have: it has neither a zero byte nor a line feed
abbrev pub is_text : List ℕ → Bool
is_text text = not (has_zero text) && not (list_any (λ byte. byte == 10) text)

-- A line is whole if it has no zero byte, and its parts make the line.
unfoldable pub is_whole : List ℕ → List ℕ → Bool
is_whole before line = not (has_zero line) && bytes_eq line (line_of before (begins_in line) (text_in line))

-- The lines that a line feed ends, where `line` was read of the first. Bytes after the last line feed are no line.
unfoldable pub lines_from : List ℕ → List ℕ → List (List ℕ)
lines_from line [] = []
lines_from line (byte ∷ bytes) = if byte == 10 then line ∷ lines_from [] bytes else lines_from (line ++ byte ∷ []) bytes

abbrev pub raw_lines : List ℕ → List (List ℕ)
raw_lines bytes = lines_from [] bytes

-- the lines up to the first that isn't whole, each after the sum of the line before
unfoldable pub whole_from : List ℕ → List (List ℕ) → List (List ℕ)
whole_from before [] = []
whole_from before (line ∷ lines) = if is_whole before line then line ∷ whole_from (sum_in line) lines else []

abbrev pub whole_lines : List ℕ → List ℕ → List (List ℕ)
whole_lines before bytes = whole_from before (raw_lines bytes)

-- of the whole lines after the sum `before`: their texts, how many bytes they have with their line feeds, and the last sum
unfoldable pub texts_after : List ℕ → List ℕ → List (List ℕ)
texts_after before bytes = map text_in (whole_lines before bytes)

unfoldable pub length_after : List ℕ → List ℕ → ℕ
length_after before bytes = sum_by (λ line. length line + 1) (whole_lines before bytes)

unfoldable pub last_sum_after : List ℕ → List ℕ → List ℕ
last_sum_after before bytes = fold (λ sum line. sum_in line) before (whole_lines before bytes)

-- the sum that the first line of a file covers: eight times '0'
abbrev pub first_sum : List ℕ
first_sum = 48 ∷ 48 ∷ 48 ∷ 48 ∷ 48 ∷ 48 ∷ 48 ∷ 48 ∷ []

-- the texts of a file's lines, the marks among them
abbrev pub file_texts : List ℕ → List (List ℕ)
file_texts file = texts_after first_sum file

-- A mark is a text that begins with "entries ". It says how many entries came before it.
abbrev pub is_mark : List ℕ → Bool
is_mark text = starts_with (λ x y. x == y) text (codes "entries ")

-- a text that says something, as it is no mark; and a mark that a line may have
abbrev pub is_entry : List ℕ → Bool
is_entry text = is_text text && not (is_mark text)

abbrev pub is_marking : List ℕ → Bool
is_marking text = is_text text && is_mark text

-- what these texts say
unfoldable pub said_by : List (List ℕ) → List (List ℕ)
said_by texts = filter (λ text. not (is_mark text)) texts

-- what a file says
abbrev pub history_of : List ℕ → List (List ℕ)
history_of file = said_by (file_texts file)
