use Rattle.std.proofs.Common.{refl}
use Rattle.tg_rows.proofs.Results.{always_ok, no_full}
use Rattle.tg_rows.proofs.cells.Cells.make_room.Goals as goal

pub returns-in_default-clause-room : goal.returns-in_default-clause-room
returns-in_default-clause-room g c = record { remembered = c.reserve_note.ensures.places; note = tt; spaces = tt; table = tt; left = tt; refused = refl; full = λ is. absurd (no_full is) }

pub returns-clause-room : goal.returns-clause-room
returns-clause-room g c =
    let made = c.reserve.ensures in
    record {
      remembered = c.reserve_note.ensures.places;
      note = always_ok c.reserve.result c.in-Ok.ensures.room;
      spaces = made.exact;
      table = made.table;
      left = made.room;
      refused = made.refused;
      full = λ is. made.full.0 is;
    }
