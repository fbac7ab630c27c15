use Rattle.std.proofs.Common.{◌∙◌, arith, sym}
use Rattle.tg_space.proofs.Tables.{table_list}
use Rattle.tg_rows.proofs.Indexed.{index_finds, index_lacks, number_low, places_long}
use Rattle.tg_rows.proofs.indexed_row.find_indexed.Goals as goal

pub place_of_number-index-requires : goal.place_of_number-index-requires
place_of_number-index-requires c =
    let is = table_list c.args.spaces.now c.cells.ensures.table in
    let cells = c.args.row.now.cells.items in
    let low = number_low c.args.spaces.now.spaces is c.args.from c.requires.row c.args.row.now.names cells c.requires.index c.args.name c.in-Some.number (sym c.find.ensures ∙ c.in-Some.is) in
    let long = places_long c.args.spaces.now.spaces is c.args.from c.requires.row c.args.row.now.names cells c.requires.index in
    omega (arith, low, long)

pub spot_for_new-requires : goal.spot_for_new-requires
spot_for_new-requires c =
    let is = table_list c.args.spaces.now c.cells.ensures.table in
    record { row = c.requires; absent = index_lacks c.args.spaces.now.spaces is c.args.from c.requires.row c.args.row.now.names c.args.row.now.cells.items c.requires.index c.args.name (sym c.find.ensures ∙ c.in_default.is) }

pub returns-in-Some : goal.returns-in-Some
returns-in-Some c =
    let is = table_list c.args.spaces.now c.cells.ensures.table in
    let cells = c.args.row.now.cells.items in
    let e = c.place_of_number-index.result in
    record {
      table = c.cells.ensures.table;
      spot = index_finds c.args.spaces.now.spaces is c.args.from c.requires.row c.args.row.now.names cells c.requires.index c.args.name c.in-Some.number e.0 e.1 (sym c.find.ensures ∙ c.in-Some.is) c.place_of_number-index.ensures;
    }
