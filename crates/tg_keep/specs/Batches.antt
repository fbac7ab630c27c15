-- What a batch says.
use Rattle.std.specs.Prelude.{ℕ, List}
use Rattle.tg_keep.specs.Lines.{texts_after}
use Rattle.tg_keep.specs.declared.batch.Batch.{Batch}

-- the texts of its lines
abbrev pub batch_texts : Batch → List (List ℕ)
batch_texts batch = texts_after batch.before.digits batch.bytes.items
