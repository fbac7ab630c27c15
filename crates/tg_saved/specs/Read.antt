-- What a reader of a snapshot's text has read.
use Rattle.std.specs.Prelude.{◌≡◌, ℕ, List, []}
use Rattle.tg_snapshot.specs.Snapshot.{Saved}
use Rattle.tg_saved.specs.declared.stage.SnapshotStage.{SnapshotStage}
use Rattle.tg_saved.specs.declared.stage.SnapshotStage.TheVariants.{Version, Counts, Lines, Whole}
use Rattle.tg_saved.specs.Texts.{lines_text, snapshot_text, snapshot_version_text}

-- the text that was read where the reader stands: nothing, the first line, more lines, or the whole text of a snapshot
abbrev pub HasReadSnapshot : List ℕ → SnapshotStage → Type 0
HasReadSnapshot text Version = text ≡ []
HasReadSnapshot text Counts = text ≡ snapshot_version_text
HasReadSnapshot text (Lines lines) = text ≡ lines_text lines
HasReadSnapshot text (Whole snapshot) = text ≡ snapshot_text snapshot
