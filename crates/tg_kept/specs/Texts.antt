-- The lines of a file that keeps a history. They are the lines of the history's text, without their line feeds.
use Rattle.std.specs.Prelude.{◌≡◌, ℕ, ◌-◌, ◌≤◌, List, [], ◌∷◌, ◌++◌, length, map, take, codes, decimal}
use Rattle.std.specs.List.{flat_map}
use Rattle.tg_model.specs.declared.edge.Edge.{Edge}
use Rattle.tg_model.specs.declared.value.Value.{Value}
use Rattle.tg_model.specs.Opened.{Plan}
use Rattle.tg_journal.specs.declared.entry.Entry.{Entry}
use Rattle.tg_text.specs.declared.line.Line.TheVariants as line
use Rattle.tg_text.specs.Grammar.{line_text}
use Rattle.tg_text.specs.Texts.{reply_text}
use Rattle.tg_saved.specs.Values.{payload_text}
use Rattle.tg_entries.specs.Texts.{deed_text, end_text, version_text}
use Rattle.tg_keep.specs.Files.{first_texts}

-- `0 create r c0 = ok 5`
abbrev pub entry_line : Entry → List ℕ
entry_line e = deed_text e.worker e.deed ++ (codes " = " ++ reply_text e.reply)

-- `opening WORKERS MAX_VERTICES`
abbrev pub limits_line : ℕ → ℕ → List ℕ
limits_line workers limit = codes "opening " ++ (decimal workers ++ (codes " " ++ decimal limit))

-- `worker c0`, for each worker
abbrev pub worker_line : Value → List ℕ
worker_line value = codes "worker " ++ payload_text value.law value.state

-- `edge 0 1 rw`, for each edge
abbrev pub edge_line : Edge → List ℕ
edge_line edge = line_text (line.Edge edge)

-- the lines of an opening
abbrev pub opening_lines : Plan → List (List ℕ)
opening_lines plan = (limits_line plan.workers plan.limit ∷ map worker_line plan.values) ++ map edge_line plan.edges

-- the lines of a file that keeps these entries after an opening
abbrev pub kept_lines : Plan → List Entry → List (List ℕ)
kept_lines plan entries = (first_texts ++ opening_lines plan) ++ map entry_line entries

-- The texts are the texts of the entries, and of a front of other entries after them.
abbrev pub SaysFront : Plan → List Entry → List Entry → List (List ℕ) → Type 0
SaysFront plan entries others texts = (n : ℕ) × (n ≤ length others) × (texts ≡ kept_lines plan (entries ++ take n others))

-- a line with its line feed
abbrev pub ended_line : List ℕ → List ℕ
ended_line text = text ++ 10 ∷ []

-- the text of a line, without its line feed
abbrev pub unended : List ℕ → List ℕ
unended text = take (length text - 1) text

-- These lines in the text of a history. They come after the line that names the form of the text, each with a line feed. After them
-- comes the number of entries.
abbrev pub text_of_lines : List (List ℕ) → ℕ → List ℕ
text_of_lines texts count = (version_text ++ flat_map ended_line texts) ++ end_text count
