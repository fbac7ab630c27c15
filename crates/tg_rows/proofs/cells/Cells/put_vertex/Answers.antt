use Rattle.std.proofs.Common.{◌≡◌, ◌∙◌, ◌+◌, ◌<◌, ℕ, List, Option, Err, true, arith, refl, ap, subst, sym}
use Rattle.std.specs.Prelude.{IfSome}
use Rattle.tg_word.specs.Word.{nursery_space}
use Rattle.tg_remember.specs.Notes.{Notes}
use Rattle.tg_word.specs.declared.Place.{Place}
use Rattle.tg_space.specs.SpaceTable.{SpaceTable}
use Rattle.tg_space.specs.declared.room_fault.RoomFault.{RoomFault}
use Rattle.tg_space.specs.Generations.{AreRemembered}
use Rattle.tg_rows.specs.Graph.{IsOutOfCells}
use Rattle.tg_rows.specs.Spots.{with_note}
use Rattle.tg_rows.proofs.Growing.{made_in_row, found_placed, keeps_rows_then, left_over, made_room, object_placed, grown_graph, placed_can, still_fresh, vertex_made, vertex_remembered, vertex_there}
use Rattle.tg_rows.proofs.Remembering.{AreNoted, cells_few}
use Rattle.tg_space.proofs.Tables.{table_list}
use Rattle.tg_rows.proofs.Places.{held_place}
use Rattle.tg_rows.proofs.cells.Cells.put_vertex.Goals as goal

pub place_vertex-to-requires : goal.place_vertex-to-requires
place_vertex-to-requires g c =
    let t = c.args.self.now.spaces in
    let payloads = c.args.self.now.payloads in
    let row = c.requires.row in
    let vertex = c.requires.vertex in
    let made = c.in_default.ensures in
    let grown = c.make_vertex_room.new.self in
    let space = nursery_space c.args.nursery in
    let room = made_room t grown.spaces grown.spaces payloads grown.payloads grown.payloads row.table made.room.table made.room.table row.graph space (1 + c.cells.result) vertex.nursery made.room.spaces made.payloads c.args.from row.from c.args.vertex.name c.args.spot row.spot in
    record {
      few = let few = row.table.few in omega (arith, few, vertex.nursery);
      nursery = subst (λ (n : ℕ). space < n) (sym room.spaces) vertex.nursery;
      table = made.room.table;
      graph = grown_graph t grown.spaces grown.spaces payloads grown.payloads grown.payloads row.table made.room.table made.room.table row.graph space (1 + c.cells.result) vertex.nursery made.room.spaces made.payloads c.args.from row.from c.args.vertex.name c.args.spot row.spot;
      fresh = still_fresh t grown.spaces grown.spaces payloads grown.payloads grown.payloads row.table made.room.table made.room.table row.graph space (1 + c.cells.result) vertex.nursery made.room.spaces made.payloads c.args.from row.from c.args.vertex.name c.args.spot row.spot vertex.fresh;
      spare = made.spare;
      left = let left = made.room.left in omega (arith, left);
    }

pub remember-requires : goal.remember-requires
remember-requires g c = subst (λ (n : Notes). IfSome c.note-note.result (λ _. 0 < n.spare)) (sym c.place_vertex-to.ensures.notes) c.in_default.ensures.room.note

pub make_vertex_room-requires : goal.make_vertex_room-requires
make_vertex_room-requires g c = record { few = let few = c.requires.row.table.few in omega (arith, few, c.requires.vertex.nursery); few_cells = omega (arith, cells_few c.args.spot, c.cells.ensures); nursery = c.requires.vertex.nursery }

pub returns-in-Err : goal.returns-in-Err
returns-in-Err g c =
    let was = c.make_vertex_room.ensures in
    record {
      vertex = record {
        made = tt;
        vertex = tt;
        handed_back = refl;
        spaces = c.in-Err.ensures.room.refused;
        payloads = was.payloads;
        places = was.room.remembered;
        remembered = λ before.
            subst (λ (t : SpaceTable). AreRemembered t.spaces c.make_vertex_room.new.self.remembered.places) (sym c.in-Err.ensures.room.refused)
            (subst (λ (ps : List Place). AreRemembered c.args.self.now.spaces.spaces ps) (sym was.room.remembered) before);
        placed = tt;
        full = λ is.
            let spot = c.args.spot in
            let out = was.room.full (c.in-Err.is ∙ ap (λ (why : RoomFault). Err why) is) in
            record {
              row = c.args.from;
              held = record { object = c.requires.row.from; named = refl };
              spot = spot;
              found = c.requires.row.spot;
              out = subst (λ (n : ℕ). IsOutOfCells c.args.self.now.spaces (nursery_space c.args.nursery) (1 + n)) c.cells.ensures (record { few_left = out.0; full = out.1 });
            };
      };
      put = tt;
    }

pub returns : goal.returns
returns g c =
    let t = c.args.self.now.spaces in
    let payloads = c.args.self.now.payloads in
    let row = c.requires.row in
    let vertex = c.requires.vertex in
    let made = c.in_default.ensures in
    let grown = c.make_vertex_room.new.self in
    let placed = c.place_vertex-to.new.self in
    let step = c.place_vertex-to.ensures in
    let from = c.args.from in
    let name = c.args.vertex.name in
    let spot = c.args.spot in
    let space = nursery_space c.args.nursery in
    let places = c.args.self.now.remembered.places in
    let later = c.remember.new.remembered.places in
    let cells = ap (λ n. 1 + n) c.cells.ensures in
    let kept : placed.remembered.places ≡ places = ap (λ (r : Notes). r.places) step.notes ∙ made.room.remembered in
    let room = made_room t grown.spaces placed.spaces payloads grown.payloads placed.payloads row.table made.room.table step.table row.graph space (1 + c.cells.result) vertex.nursery made.room.spaces made.payloads from row.from name spot row.spot in
    let object = object_placed t grown.spaces placed.spaces payloads grown.payloads placed.payloads row.table made.room.table step.table row.graph space (1 + c.cells.result) vertex.nursery made.room.spaces made.payloads from row.from name spot row.spot c.args.vertex.draft step.placed step.rows c.place_vertex-to.result step.vertex step.used (step.blocks space) made.room.left cells in
    let there = found_placed t grown.spaces placed.spaces payloads grown.payloads placed.payloads row.table made.room.table step.table row.graph space (1 + c.cells.result) vertex.nursery made.room.spaces made.payloads from row.from name spot row.spot c.args.vertex.draft step.placed step.rows c.place_vertex-to.result step.vertex step.used (step.blocks space) made.room.left cells in
    let left = left_over t grown.spaces placed.spaces payloads grown.payloads placed.payloads row.table made.room.table step.table row.graph space (1 + c.cells.result) vertex.nursery made.room.spaces made.payloads from row.from name spot row.spot c.args.vertex.draft step.placed step.rows c.place_vertex-to.result step.vertex step.used (step.blocks space) made.room.left cells in
    record {
      vertex = record {
        made = vertex_made t grown.spaces placed.spaces payloads grown.payloads placed.payloads row.table made.room.table step.table row.graph space (1 + c.cells.result) vertex.nursery made.room.spaces made.payloads from row.from name spot row.spot
            c.args.vertex.draft step.placed step.rows c.place_vertex-to.result step.vertex step.used (step.blocks space) made.room.left cells c.args.vertex.rights vertex.some (omega arith) c.put.new.spaces c.put.ensures;
        vertex = vertex_there t grown.spaces placed.spaces payloads grown.payloads placed.payloads row.table made.room.table step.table row.graph space (1 + c.cells.result) vertex.nursery made.room.spaces made.payloads from row.from name spot row.spot
            c.args.vertex.draft step.placed step.rows c.place_vertex-to.result step.vertex step.used (step.blocks space) made.room.left cells c.args.vertex.rights vertex.some (omega arith) c.put.new.spaces c.put.ensures;
        handed_back = tt;
        spaces = tt;
        payloads = tt;
        places = tt;
        remembered = λ before.
            let noted = subst (λ (o : Option Place). AreNoted places later o) c.note-note.ensures (subst (λ (ps : List Place). AreNoted ps later c.note-note.result) kept c.remember.ensures.members) in
            vertex_remembered t grown.spaces placed.spaces payloads grown.payloads placed.payloads row.table made.room.table step.table row.graph space (1 + c.cells.result) vertex.nursery made.room.spaces made.payloads from row.from name spot row.spot
            c.args.vertex.draft step.placed step.rows c.place_vertex-to.result step.vertex step.used (step.blocks space) made.room.left cells (omega arith) c.args.vertex.rights places later noted (step.remembered places) c.put.new.spaces c.put.ensures before;
        placed = made_in_row t grown.spaces placed.spaces c.put.new.spaces places later space c.cells.result from row.from name c.args.vertex.rights spot row.spot c.cells.ensures made.room.spaces step.written c.place_vertex-to.result step.next c.put.ensures
            (c.remember.ensures.noted ∙ ap (λ (ps : List Place). with_note ps c.note-note.result) kept ∙ ap (with_note places) c.note-note.ensures);
        full = tt;
      };
      put = record {
        ready = placed.spaces;
        rows = keeps_rows_then t.spaces grown.spaces.spaces placed.spaces.spaces room.rows step.rows;
        put = record {
          payloads = placed.payloads;
          space = space;
          to = c.place_vertex-to.result;
          rights = c.args.vertex.rights;
          young = true;
          table = step.table;
          graph = step.placed.graph;
          object = object;
          found = there;
          nursery = (omega arith, omega (arith, vertex.nursery, room.spaces, step.placed.spaces));
          left = left;
          target = step.vertex;
          some = vertex.some;
          put = c.put.ensures;
          noted = refl;
        };
        remembered = c.remember.ensures.noted
            ∙ ap (λ (ps : List Place). with_note ps c.note-note.result) (ap (λ (r : Notes). r.places) step.notes ∙ made.room.remembered) ∙ ap (with_note places) c.note-note.ensures;
      };
    }

pub put-requires : goal.put-requires
put-requires g c =
    let made = c.in_default.ensures in
    let grown = c.make_vertex_room.new.self in
    let placed = c.place_vertex-to.new.self in
    let step = c.place_vertex-to.ensures in
    let room = made_room c.args.self.now.spaces grown.spaces placed.spaces c.args.self.now.payloads grown.payloads placed.payloads c.requires.row.table made.room.table step.table c.requires.row.graph (nursery_space c.args.nursery) (1 + c.cells.result) c.requires.vertex.nursery made.room.spaces made.payloads c.args.from c.requires.row.from c.args.vertex.name c.args.spot c.requires.row.spot in
    record {
      few = let few = c.requires.row.table.few in omega (arith, few, c.requires.vertex.nursery);
      nursery = omega (arith, c.requires.vertex.nursery, room.spaces, step.placed.spaces);
      can = placed_can c.args.self.now.spaces grown.spaces placed.spaces c.args.self.now.payloads grown.payloads placed.payloads c.requires.row.table made.room.table step.table c.requires.row.graph (nursery_space c.args.nursery) (1 + c.cells.result) c.requires.vertex.nursery made.room.spaces made.payloads c.args.from c.requires.row.from c.args.vertex.name c.args.spot c.requires.row.spot c.args.vertex.draft step.placed step.rows c.place_vertex-to.result step.vertex step.used (step.blocks (nursery_space c.args.nursery)) made.room.left (ap (λ n. 1 + n) c.cells.ensures);
      place = held_place placed.spaces.spaces (table_list placed.spaces step.table) c.place_vertex-to.result step.vertex.object.held;
    }

pub overflow_add-cells : goal.overflow_add-cells
overflow_add-cells g c = omega (arith, cells_few c.args.spot, c.cells.ensures)
