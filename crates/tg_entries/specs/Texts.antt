-- The text of a history: its opening, or the snapshot that it goes on from, a line for each entry, and a last line with their number. Lines
-- with the number of the entries so far may be between the entries. Numbers are decimal without leading zeros, and words have one space
-- between two.
use Rattle.std.specs.Prelude.{◌≡◌, ℕ, ◌+◌, List, [], ◌∷◌, ◌++◌, length, codes, decimal, Option, Some, None}
use Rattle.std.specs.List.{flat_map}
use Rattle.hex.specs.Hex.{encode_lower}
use Rattle.sha2.specs.Sha256.{sha256}
use Rattle.tg_model.specs.declared.command.Deed.{Deed}
use Rattle.tg_model.specs.declared.command.Deed.TheVariants as deed
use Rattle.tg_model.specs.declared.edge.Edge.{Edge}
use Rattle.tg_model.specs.declared.value.Value.{Value}
use Rattle.tg_model.specs.Graph.{ProtectionGraph}
use Rattle.tg_model.specs.Opened.{Plan, IsPlan, start_of}
use Rattle.tg_snapshot.specs.Snapshot.{Saved, IsSnapshot, IsSnapshotOf, graph_shown}
use Rattle.tg_journal.specs.declared.entry.Entry.{Entry}
use Rattle.tg_journal.specs.History.{IsLegal, graph_after}
use Rattle.tg_text.specs.declared.answer.Answer.TheVariants as answer
use Rattle.tg_text.specs.declared.line.Line.TheVariants as line
use Rattle.tg_text.specs.Grammar.{line_text}
use Rattle.tg_text.specs.Texts.{answer_text}
use Rattle.tg_saved.specs.Texts.{edge_line_text, snapshot_text}
use Rattle.tg_saved.specs.Values.{payload_text}
use Rattle.tg_entries.specs.declared.sum.PartHead.{PartHead}

-- ---- entries

-- the line of a script by which x asks for a deed; where a vertex is made, what it stores is after it
abbrev pub deed_text : ℕ → Deed → List ℕ
deed_text x (deed.Create label law state) = line_text (line.Create x label) ++ (32 ∷ payload_text law state)
deed_text x (deed.Spawn label law state) = line_text (line.Spawn x label) ++ (32 ∷ payload_text law state)
deed_text x (deed.Plain command) = line_text (line.Plain x command)

-- the line of an entry, with its line feed: `0 create r c0 = ok 5`
abbrev pub entry_text : Entry → List ℕ
entry_text e = deed_text e.worker e.deed ++ (codes " = " ++ answer_text (answer.Reply e.reply))

-- ---- the opening, in front of them

abbrev pub version_text : List ℕ
version_text = codes "kovshenul entries 1\n"

-- `opening WORKERS MAX_VERTICES`
abbrev pub limits_text : ℕ → ℕ → List ℕ
limits_text workers limit = codes "opening " ++ (decimal workers ++ (codes " " ++ (decimal limit ++ codes "\n")))

-- `worker c0`, for each worker
abbrev pub worker_text : Value → List ℕ
worker_text value = codes "worker " ++ (payload_text value.law value.state ++ codes "\n")

abbrev pub opening_text : ℕ → ℕ → List Value → List Edge → List ℕ
opening_text workers limit values edges =
    ((version_text ++ limits_text workers limit) ++ flat_map worker_text values) ++ flat_map edge_line_text edges

abbrev pub head_text : Plan → List ℕ
head_text p = opening_text p.workers p.limit p.values p.edges

-- ---- the count lines

-- `entries N`
abbrev pub end_text : ℕ → List ℕ
end_text count = codes "entries " ++ (decimal count ++ codes "\n")

-- The text is that of these entries. Before, between and after their lines it may have count lines, each with the number of all entries
-- before it.
pub data IsCountedText : List Entry → List ℕ → Type 0 where
  no_entry : IsCountedText [] []
  next_entry : {entries : List Entry} {text : List ℕ} (e : Entry) → IsCountedText entries text → IsCountedText (entries ++ e ∷ []) (text ++ entry_text e)
  next_count : {entries : List Entry} {text : List ℕ} → IsCountedText entries text → IsCountedText entries (text ++ end_text (length entries))

-- ---- the sum of the part before

-- `sha256 HEX`: the SHA-256 of all bytes of the part before, as 64 digits in lower case
abbrev pub sum_text : List ℕ → List ℕ
sum_text sum = codes "sha256 " ++ (encode_lower sum ++ codes "\n")

-- the head of a part: the text of a snapshot, and the line with the sum of the part before
abbrev pub part_head_text : Saved → List ℕ → List ℕ
part_head_text p sum = snapshot_text p ++ sum_text sum

-- ---- the whole

-- the text of a history of this opening, with no count line but the last
abbrev pub history_text : Plan → List Entry → List ℕ
history_text p es = (head_text p ++ flat_map entry_text es) ++ end_text (length es)

-- where a history begins: at an opening, at a snapshot of an earlier graph, or at a snapshot and the sum of the part before
pub data TextStart : Type 0 where
  Opened : Plan → TextStart
  Shown : Saved → TextStart
  Joined : Saved → List ℕ → TextStart

-- an opening, or a snapshot, that may be one
abbrev pub IsTextStart : TextStart → Type 0
IsTextStart (Opened plan) = IsPlan plan
IsTextStart (Shown p) = IsSnapshot p
IsTextStart (Joined p sum) = IsSnapshot p

-- the graph from which its entries go on
abbrev pub graph_of_origin : TextStart → ProtectionGraph
graph_of_origin (Opened plan) = start_of plan
graph_of_origin (Shown p) = graph_shown p
graph_of_origin (Joined p sum) = graph_shown p

-- how many entries were made before it
abbrev pub entries_before : TextStart → ℕ
entries_before (Opened plan) = 0
entries_before (Shown p) = p.entries
entries_before (Joined p sum) = p.entries

-- the sum of the part before, where its line is there
abbrev pub sum_before : TextStart → Option (List ℕ)
sum_before (Opened plan) = None
sum_before (Shown p) = None
sum_before (Joined p sum) = Some sum

-- the text in front of its entries
abbrev pub origin_text : TextStart → List ℕ
origin_text (Opened plan) = head_text plan
origin_text (Shown p) = snapshot_text p
origin_text (Joined p sum) = part_head_text p sum

-- the text of these entries after their origin, with no count line but the last
abbrev pub uncounted_text : TextStart → List Entry → List ℕ
uncounted_text origin es = (origin_text origin ++ flat_map entry_text es) ++ end_text (length es)

-- a text that has the lines of these entries, with the lines of more entries and the number of all of them after it
abbrev pub text_gone_on : List ℕ → List Entry → List Entry → List ℕ
text_gone_on text es more = text ++ (flat_map entry_text more ++ end_text (length es + length more))

-- The text is that of these entries after their origin, of which they are a legal history. Its last line has their number.
pub record IsHistory (text : List ℕ) (origin : TextStart) (entries : List Entry) : Type 0 where
  pub body : List ℕ
  pub accepted : IsTextStart origin
  pub legal : IsLegal (graph_of_origin origin) entries
  pub counted : IsCountedText entries body
  pub whole : text ≡ (origin_text origin ++ body) ++ end_text (length entries)

-- the text is that of a legal history of so many entries
pub record IsAudited (text : List ℕ) (count : ℕ) : Type 0 where
  pub origin : TextStart
  pub entries : List Entry
  pub history : IsHistory text origin entries
  pub number : count ≡ length entries

-- the text is that of a legal history of so many entries, and its head has this sum of the part before
pub record IsAuditedAfter (sum text : List ℕ) (count : ℕ) : Type 0 where
  pub origin : TextStart
  pub entries : List Entry
  pub history : IsHistory text origin entries
  pub number : count ≡ length entries
  pub before : sum_before origin ≡ Some sum

-- the text is that of a legal history, and the snapshot is of the graph after its last entry
pub record IsSavedAfter (text : List ℕ) (p : Saved) : Type 0 where
  pub origin : TextStart
  pub entries : List Entry
  pub history : IsHistory text origin entries
  pub of : IsSnapshotOf p (graph_after (graph_of_origin origin) entries)
  pub place : p.entries ≡ entries_before origin + length entries

-- the text is that of a legal history, and the head is that of the next part: the snapshot after its last entry, and its sum
pub record IsHeadAfter (text : List ℕ) (head : PartHead) : Type 0 where
  pub saved : IsSavedAfter text head.snapshot
  pub sum : head.sum ≡ sha256 text
