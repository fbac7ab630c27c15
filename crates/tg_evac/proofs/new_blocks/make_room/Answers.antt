use Rattle.std.proofs.Common.{List, ℕ, arith}
use Rattle.std.specs.List.{flat_map}
use Rattle.std.proofs.lemmas.List.{length-append}
use Rattle.tg_space.proofs.Flat.{length-blocks}
use Rattle.tg_evac.proofs.new_blocks.make_room.Goals as goal

pub close-requires : goal.close-requires
close-requires c =
    let full = c.args.full.now in let last = c.args.last.now.items in let fits = c.requires.open.fits in
    let blocks = length-blocks full c.requires.open.space.1 in
    let long = length-append (flat_map (λ (b : List (List ℕ)). b) full) last in
    record { whole = (omega arith, fits.1); opened = c.requires.open; room = omega (arith, c.requires.room) }
