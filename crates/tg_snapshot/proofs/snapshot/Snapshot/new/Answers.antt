use Rattle.std.proofs.Common.{refl, sym}
use Rattle.tg_snapshot.specs.Snapshot.{Saved}
use Rattle.tg_snapshot.proofs.FaultLaws.{accepted_lists, refused_lists}
use Rattle.tg_snapshot.proofs.snapshot.Snapshot.new.Goals as goal

pub returns-in-Some : goal.returns-in-Some
returns-in-Some c =
    let saved : Saved = record { picture = c.args.picture; vertices = c.args.vertices.items; entries = c.args.entries } in
    refused_lists saved c.in-Some.fault (c.in-Some.ensures saved refl (sym c.as_slice.ensures.value))

pub returns : goal.returns
returns c =
    let saved : Saved = record { picture = c.args.picture; vertices = c.args.vertices.items; entries = c.args.entries } in
    accepted_lists saved (c.in_default.ensures saved refl (sym c.as_slice.ensures.value))
