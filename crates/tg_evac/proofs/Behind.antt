-- The cells that a collection moves are after those that stay.
use Rattle.std.proofs.Common.{◌≡◌, ◌<◌, ◌≤◌, ◌+◌, ◌*◌, true, length, arith}
use Rattle.std.specs.List.{All}
use Rattle.std.proofs.lemmas.Bool.Decides.{nat_tests}
use Rattle.tg_word.specs.declared.Place.{Place}
use Rattle.tg_space.specs.SpaceList.{SpaceList, HasCell, IsSpace, blocks_before, cells_of, flat_of, space_of}
use Rattle.tg_space.specs.SpaceTable.{kept_blocks}
use Rattle.tg_space.specs.Targets.{from_space}
use Rattle.tg_space.specs.declared.kind.Kind.{Kind}
use Rattle.tg_space.specs.declared.kind.Kind.TheVariants.{Full, Nursery}
use Rattle.tg_space.proofs.Flat.{before_le, before_mono, before_more, length-cells_of}

pub moved_behind : (kind : Kind) (h : SpaceList) (p : Place) → HasCell h p → from_space kind p.space ≡ true → 64 * kept_blocks kind h ≤ flat_of h p
moved_behind Full h p holds moves = omega arith
moved_behind Nursery h p holds moves =
    let young : 1 ≤ p.space = grind (arith, nat_tests) in
    let inside = holds.space in
    let first : blocks_before h 1 ≡ blocks_before h 0 + length (space_of h 0) = before_more h 0 (omega arith) in
    omega (arith, before_mono h 1 p.space young)

pub kept_within : (kind : Kind) (h : SpaceList) → All IsSpace h → 0 < length h → 64 * kept_blocks kind h ≤ length (cells_of h)
kept_within Full h are some = omega arith
kept_within Nursery h are some = omega (arith, before_more h 0 some, before_le h 1, length-cells_of h are)
