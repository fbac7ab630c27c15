use Rattle.std.proofs.Common.{◌≡◌, Some, length, slice_get, ◌-◌, arith, subst, sym}
use Rattle.tg_space.proofs.Tables.{table_list}
use Rattle.tg_index.specs.Slots.{IsFirstVacant}
use Rattle.tg_rows.specs.Index.{row_slots}
use Rattle.tg_rows.proofs.Ages.{slice_get_is}
use Rattle.tg_rows.proofs.Indexed.{empty_none, empty_nth, last_is, places_long}
use Rattle.tg_rows.proofs.indexed_row.spot_for_new.Goals as goal

pub place_of_number-index-requires : goal.place_of_number-index-requires
place_of_number-index-requires c =
    let is = table_list c.args.spaces.now c.cells.ensures.table in
    let h = c.args.spaces.now.spaces in
    let cells = c.args.row.now.cells.items in
    let first = subst (IsFirstVacant (row_slots h c.args.from) c.args.row.now.names.len) c.in-Some.is (c.first_empty.ensures.first (row_slots h c.args.from) c.requires.row.index.names) in
    let low = first.0 in
    let long = places_long h is c.args.from c.requires.row.row c.args.row.now.names cells c.requires.row.index in
    omega (arith, low, long)

pub returns-in-Some : goal.returns-in-Some
returns-in-Some c =
    let is = table_list c.args.spaces.now c.cells.ensures.table in
    let h = c.args.spaces.now.spaces in
    let cells = c.args.row.now.cells.items in
    let e = c.place_of_number-index.result in
    let n = c.in-Some.number in
    let first = subst (IsFirstVacant (row_slots h c.args.from) c.args.row.now.names.len) c.in-Some.is (c.first_empty.ensures.first (row_slots h c.args.from) c.requires.row.index.names) in
    record { table = c.cells.ensures.table; spot = (c.requires.absent, empty_nth h is c.args.from c.requires.row.row c.args.row.now.names cells c.requires.row.index n e.0 e.1 first c.place_of_number-index.ensures) }

pub returns : goal.returns
returns c =
    let is = table_list c.args.spaces.now c.cells.ensures.table in
    let h = c.args.spaces.now.spaces in
    let cells = c.args.row.now.cells.items in
    let full = subst (IsFirstVacant (row_slots h c.args.from) c.args.row.now.names.len) c.in_default.is (c.first_empty.ensures.first (row_slots h c.args.from) c.requires.row.index.names) in
    let here : slice_get cells (length cells - 1) ≡ Some c.place.result = subst (λ k. slice_get cells (k - 1) ≡ Some c.place.result) c.len.ensures.len c.place.ensures in
    let last = last_is h is c.args.from c.requires.row.row c.args.row.now.names cells c.requires.row.index c.place.result (sym (slice_get_is cells (length cells - 1) c.place.result here)) in
    record { table = c.cells.ensures.table; spot = (c.requires.absent, empty_none h is c.args.from c.requires.row.row c.args.row.now.names cells c.requires.row.index full, last) }
