use Rattle.std.proofs.Common.{◌∙◌, ap, arith, refl}
use Rattle.tg_payload.specs.Table.{Payloads}
use Rattle.tg_rows.proofs.Results.{always_ok, no_full}
use Rattle.tg_rows.proofs.cells.Cells.make_vertex_room.Goals as goal

pub returns-in_default : goal.returns-in_default
returns-in_default g c = record {
  room = record { remembered = refl; note = tt; spaces = tt; table = tt; left = tt; refused = refl; full = λ is. absurd (no_full is) };
  payloads = c.reserve.ensures.kept;
  spare = tt;
}

pub returns : goal.returns
returns g c =
    let made = c.make_room.ensures.room in
    record {
      room = record { remembered = made.remembered; note = made.note; spaces = made.spaces; table = made.table; left = made.left; refused = made.refused; full = made.full };
      payloads = ap (λ (p : Payloads). p.entries) c.make_room.ensures.payloads ∙ c.reserve.ensures.kept;
      spare = always_ok c.make_room.result (let room = c.in-Ok.ensures.room in let same = ap (λ (p : Payloads). p.spare) c.make_room.ensures.payloads in omega (arith, room, same));
    }
