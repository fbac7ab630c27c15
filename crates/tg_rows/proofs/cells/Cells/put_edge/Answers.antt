use Rattle.std.proofs.Common.{◌≡◌, ◌≢◌, ◌∙◌, ◌<◌, List, Option, true, false, ap, arith, refl, subst, sym, zero-add, Err, ℕ}
use Rattle.tg_word.specs.Word.{nursery_space}
use Rattle.tg_nursery.specs.Allocation.{room_made_for}
use Rattle.tg_rows.specs.Spots.{cells_for, note_for, table_put, with_note}
use Rattle.tg_space.specs.SpaceTable.{SpaceTable}
use Rattle.tg_rows.specs.Steps.{TakesOneCell}
use Rattle.tg_rows.proofs.Growing.{takes_one_cell, added_can, added_changes, added_remembered, left, room, there}
use Rattle.tg_word.specs.declared.Place.{Place}
use Rattle.tg_space.specs.Targets.{young_spaces}
use Rattle.tg_rows.proofs.Remembering.{AreNoted, cells_few, is_young, nothing_noted}
use Rattle.tg_rows.specs.Rows.{name_at}
use Rattle.tg_rows.specs.Graph.{IsOutOfCells}
use Rattle.tg_space.specs.Generations.{AreRemembered}
use Rattle.tg_space.specs.declared.room_fault.RoomFault.TheVariants.{HeapFull}
use Rattle.std.proofs.lemmas.Result.{err_from_is_err_and}
use Rattle.tg_space.proofs.Tables.{table_list}
use Rattle.tg_rows.proofs.Places.{held_place}
use Rattle.tg_space.specs.declared.room_fault.RoomFault.{RoomFault}
use Rattle.tg_rows.proofs.Results.{ok_or_err}
use Rattle.std.proofs.lemmas.Bool.{false≢true}
use Rattle.tg_rows.proofs.cells.Cells.put_edge.Goals as goal

pub returns-in_err-make_room-clause-had_room : goal.returns-in_err-make_room-clause-had_room
returns-in_err-make_room-clause-had_room g c =
    λ left none.
    let t = c.args.self.now.spaces in
    let few = cells_few c.args.spot in
    let nothing = nothing_noted t c.requires.row.table c.args.self.now.payloads c.requires.row.graph c.args.from c.requires.row.from none (name_at c.args.self.now.spaces.spaces c.args.gift.to) c.args.spot c.moves.result c.requires.row.spot in
    let ok : false ≡ true = c.in_err-make_room.ensures.had_room (omega (arith, left, few, c.cells.ensures)) (c.note-note.ensures ∙ nothing) in
    absurd (false≢true ok)

pub make_room-requires : goal.make_room-requires
make_room-requires g c = record { few = let few = c.requires.row.table.few in omega (arith, few, c.requires.gift.nursery); few_cells = omega (arith, cells_few c.args.spot, c.cells.ensures); nursery = c.requires.gift.nursery }

pub returns : goal.returns
returns g c =
    let t = c.args.self.now.spaces in
    let grown = c.make_room.new.self.spaces in
    let payloads = c.args.self.now.payloads in
    let made = c.in_ok-make_room.ensures.room in
    let row = c.requires.row in
    let gift = c.requires.gift in
    let from = c.args.from in
    let to = c.args.gift.to in
    let name = name_at t.spaces to in
    let spot = c.args.spot in
    let space = nursery_space c.args.nursery in
    let places = c.args.self.now.remembered.places in
    let later = c.remember.new.remembered.places in
    let made_now : grown ≡ room_made_for t space (cells_for spot) = made.spaces ∙ ap (room_made_for t space) c.cells.ensures in
    let wider = room t grown payloads row.table made.table row.graph space c.cells.result gift.nursery made.spaces from row.from name spot row.spot made.left c.cells.ensures in
    let can = added_can t grown payloads row.table made.table row.graph space c.cells.result gift.nursery made.spaces from row.from name spot row.spot made.left c.cells.ensures in
    record {
      edge = record {
        added = added_changes t grown payloads row.table made.table row.graph space c.cells.result gift.nursery made.spaces from row.from name spot row.spot made.left c.cells.ensures to gift.to refl c.args.gift.rights gift.some (omega arith) c.put.new.spaces c.put.ensures;
        payloads = c.make_room.ensures.payloads;
        refused = tt;
        full = λ is. absurd (ok_or_err _ _ is);
        placed = record {
          spot = spot;
          found = row.spot;
          put = c.put.ensures ∙ ap (λ (x : SpaceTable). table_put x space spot c.args.gift.rights to) made_now;
          noted = c.remember.ensures.noted ∙ ap (λ (ps : List Place). with_note ps c.note-note.result) c.make_room.ensures.room.remembered
              ∙ ap (with_note places) (c.note-note.ensures ∙ ap (note_for spot) c.moves.ensures);
        };
        remembered = λ before.
            let tells : to.space ≢ 0 → c.moves.result ≡ true = λ far. c.moves.ensures ∙ is_young to.space far in
            let noted = subst (λ (o : Option Place). AreNoted places later o) c.note-note.ensures (subst (λ (ps : List Place). AreNoted ps later c.note-note.result) c.make_room.ensures.room.remembered c.remember.ensures.members) in
            added_remembered t grown payloads row.table made.table row.graph space c.cells.result gift.nursery made.spaces from row.from name spot row.spot made.left c.cells.ensures
            (omega arith) to gift.to c.args.gift.rights c.moves.result tells places later noted c.put.new.spaces c.put.ensures before;
        places = tt;
      };
      had_room = λ _ _. refl;
      put = record {
        ready = grown;
        rows = wider.rows;
        put = record {
          payloads = payloads;
          space = space;
          to = c.args.gift.to;
          rights = c.args.gift.rights;
          young = young_spaces c.args.gift.to.space;
          table = made.table;
          graph = wider.becomes.graph;
          object = wider.rows.objects c.args.from c.requires.row.from;
          found = there t grown payloads c.requires.row.table made.table c.requires.row.graph space c.cells.result c.requires.gift.nursery made.spaces c.args.from c.requires.row.from name c.args.spot c.requires.row.spot made.left c.cells.ensures;
          nursery = (omega arith, subst (λ n. space < n) (sym wider.spaces) c.requires.gift.nursery);
          left = left t grown payloads c.requires.row.table made.table c.requires.row.graph space c.cells.result c.requires.gift.nursery made.spaces c.args.from c.requires.row.from name c.args.spot c.requires.row.spot made.left c.cells.ensures;
          target = record { object = wider.rows.objects c.args.gift.to c.requires.gift.to; named = wider.rows.names c.args.gift.to c.requires.gift.to };
          some = c.requires.gift.some;
          put = c.put.ensures;
          noted = refl;
        };
        remembered = c.remember.ensures.noted ∙ ap (λ (ps : List Place). with_note ps c.note-note.result) c.make_room.ensures.room.remembered
            ∙ ap (with_note c.args.self.now.remembered.places) (c.note-note.ensures ∙ ap (note_for c.args.spot) c.moves.ensures);
      };
      one_cell = subst (λ (x : SpaceTable). TakesOneCell t x space) (sym c.put.ensures) (takes_one_cell t grown space c.cells.result spot c.args.gift.rights to gift.nursery (omega (arith, cells_few spot, c.cells.ensures)) made.spaces made.table can);
    }

pub returns-in_err-make_room-clause-edge : goal.returns-in_err-make_room-clause-edge
returns-in_err-make_room-clause-edge g c =
    let t = c.args.self.now.spaces in
    let space = nursery_space c.args.nursery in
    let given = err_from_is_err_and c.from_residual.result c.from_residual.ensures.1 in
    let was = c.make_room.ensures.room in
    record {
      added = rw given.1 tt;
      payloads = c.make_room.ensures.payloads;
      refused = rw given.1 c.in_err-make_room.ensures.room.refused;
      full = λ is.
          let refused : c.make_room.result ≡ Err HeapFull = c.in_err-make_room.was ∙ ap (λ (why : RoomFault). Err why) (sym given.2) ∙ sym given.1 ∙ is in
          let out = was.full refused in
          record {
            row = c.args.from;
            held = record { object = c.requires.row.from; named = refl };
            spot = c.args.spot;
            found = c.requires.row.spot;
            out = subst (λ (n : ℕ). IsOutOfCells t space n) (c.cells.ensures ∙ sym (zero-add (cells_for c.args.spot))) (record { few_left = out.0; full = out.1 });
          };
      placed = rw given.1 tt;
      remembered = λ before.
          subst (λ (x : SpaceTable). AreRemembered x.spaces c.make_room.new.self.remembered.places) (sym c.in_err-make_room.ensures.room.refused)
          (subst (λ (ps : List Place). AreRemembered t.spaces ps) (sym was.remembered) before);
      places = rw given.1 was.remembered;
    }

pub put-requires : goal.put-requires
put-requires g c =
    let made = c.in_ok-make_room.ensures.room in
    record {
      few = let few = c.requires.row.table.few in omega (arith, few, c.requires.gift.nursery);
      nursery = subst (λ m. nursery_space c.args.nursery < m) (sym (room c.args.self.now.spaces c.make_room.new.self.spaces c.args.self.now.payloads c.requires.row.table made.table c.requires.row.graph (nursery_space c.args.nursery) c.cells.result c.requires.gift.nursery made.spaces c.args.from c.requires.row.from (name_at c.args.self.now.spaces.spaces c.args.gift.to) c.args.spot c.requires.row.spot made.left c.cells.ensures).spaces) c.requires.gift.nursery;
      can = added_can c.args.self.now.spaces c.make_room.new.self.spaces c.args.self.now.payloads c.requires.row.table made.table c.requires.row.graph (nursery_space c.args.nursery) c.cells.result c.requires.gift.nursery made.spaces c.args.from c.requires.row.from (name_at c.args.self.now.spaces.spaces c.args.gift.to) c.args.spot c.requires.row.spot made.left c.cells.ensures;
      place = held_place c.args.self.now.spaces.spaces (table_list c.args.self.now.spaces c.requires.row.table) c.args.gift.to c.requires.gift.to.held;
    }
