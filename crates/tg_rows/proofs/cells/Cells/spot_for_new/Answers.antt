use Rattle.std.proofs.Common.{sym, subst}
use Rattle.tg_rows.specs.Inner.Following.{IsWay}
use Rattle.tg_rows.specs.Index.{IsRowIndex}
use Rattle.tg_rows.specs.declared.indexed_row.IndexedRow.{IndexedRow}
use Rattle.tg_rows.specs.declared.indexes.Way.{Way}
use Rattle.tg_rows.specs.declared.indexes.Way.TheVariants.{New}
use Rattle.tg_space.proofs.Tables.{table_list}
use Rattle.tg_rows.proofs.Finding.{fresh_lacks}
use Rattle.tg_rows.proofs.IndexedRows.{index_looked, inside_looked, row_looked, there_looked}
use Rattle.tg_rows.proofs.cells.Cells.spot_for_new.Goals as goal

pub index-requires : goal.index-requires
index-requires g c = inside_looked c.args.self.now c.args.rows.now c.args.way.now c.args.from c.requires.row c.in-Index.at c.in-Index.is

pub find_spot-requires : goal.find_spot-requires
find_spot-requires g c = row_looked c.args.self.now c.args.rows.now c.args.way.now c.args.from c.requires.row

pub spot_for_new-requires : goal.spot_for_new-requires
spot_for_new-requires g c = record { row = there_looked c.args.self.now c.args.rows.now c.args.way.now c.args.from c.requires.row c.in-Index.at c.in-Index.is c.index.result.now c.index.ensures; absent = fresh_lacks c.args.self.now.spaces.spaces c.args.self.now.payloads (table_list c.args.self.now.spaces c.blocks-2.ensures.table) c.requires.row.graph c.args.from c.requires.row.from c.args.name c.requires.fresh }

pub spot_for_new-requires-in-New : goal.spot_for_new-requires-in-New
spot_for_new-requires-in-New g c =
    let h = c.args.self.now.spaces.spaces in
    let way : IsWay h c.args.rows.now.entries c.args.from (New c.in-New.row) = subst (λ (w : Way). IsWay h c.args.rows.now.entries c.args.from w) c.in-New.is c.requires.row.way in
    record { row = index_looked c.args.self.now c.args.rows.now c.args.way.now c.args.from c.requires.row c.deref.result.now (subst (λ (r : IndexedRow). IsRowIndex h c.args.from r.names r.cells.items) (sym c.deref.ensures) way.1); absent = fresh_lacks c.args.self.now.spaces.spaces c.args.self.now.payloads (table_list c.args.self.now.spaces c.blocks-2.ensures.table) c.requires.row.graph c.args.from c.requires.row.from c.args.name c.requires.fresh }
