-- The text of each part of a history's text.
use Rattle.std.specs.Prelude.{ℕ, List}
use Rattle.tg_entries.specs.declared.part.Part.{Part}
use Rattle.tg_entries.specs.declared.part.Part.TheVariants as part
use Rattle.tg_saved.specs.Texts.{edge_line_text}
use Rattle.tg_entries.specs.Texts.{deed_text, end_text, limits_text, sum_text, worker_text}

abbrev pub part_text : Part → List ℕ
part_text (part.Limits workers limit) = limits_text workers limit
part_text (part.Worker value) = worker_text value.now
part_text (part.Edge edge) = edge_line_text edge.now
part_text (part.Deed x deed) = deed_text x deed.now
part_text (part.End count) = end_text count
part_text (part.Sum sum) = sum_text sum.now
