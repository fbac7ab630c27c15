use Rattle.std.proofs.Common.{◌∙◌, refl}
use Rattle.tg_rows.proofs.Indexing.{listed_index, names_once}
use Rattle.tg_rows.proofs.Marked.{no_marks, none_marked}
use Rattle.tg_rows.proofs.cells.Cells.index_of.Goals as goal

pub of_row-requires : goal.of_row-requires
of_row-requires g c =
    names_once c.args.self.now.spaces.spaces c.args.self.now.payloads c.requires.graph c.args.from c.requires.object c.deref.result.now (c.deref.ensures.value ∙ c.in_ok-names.ensures.names)

pub returns-clause-index : goal.returns-clause-index
returns-clause-index g c =
    listed_index c.args.self.now.spaces.spaces c.args.self.now.payloads c.requires.graph c.args.from c.requires.object c.deref.result.now (c.deref.ensures.value ∙ c.in_ok-names.ensures.names)
    c.in_ok-names.cells.items c.in_ok-names.ensures.cells c.in_ok-of_row.field-0 c.in_ok-of_row.ensures.index c.in_ok-of_row.ensures.len

pub returns-clause-marked : goal.returns-clause-marked
returns-clause-marked g c = λ places. none_marked places _ refl (no_marks _ c.new.ensures)
