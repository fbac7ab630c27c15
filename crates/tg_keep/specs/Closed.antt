-- How a file ends that was closed.
use Rattle.std.specs.Prelude.{ℕ, ◌==◌, ◌≡◌, Bool, ◌&&◌, List, [], length, fold, take}
use Rattle.tg_keep.specs.Lines.{first_sum, is_mark, length_after, file_texts}

-- the last of these texts, or no text
abbrev pub last_text : List (List ℕ) → List ℕ
last_text texts = fold (λ last text. text) [] texts

-- The last line of the file is a mark, and no byte comes after it.
abbrev pub is_closed : List ℕ → Bool
is_closed file = (length_after first_sum file == length file) && is_mark (last_text (file_texts file))

-- The file ends right after its lines.
abbrev pub IsCutAt : ℕ → List ℕ → List ℕ → Type 0
IsCutAt end old new = new ≡ take end old
