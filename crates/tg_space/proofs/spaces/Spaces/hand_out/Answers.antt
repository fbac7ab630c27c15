use Rattle.std.proofs.Common.{◌≡◌, ◌+◌, ◌/◌, ◌%◌, arith, get_or, set, []}
use Rattle.std.proofs.lemmas.List.{get_or-set_same}
use Rattle.std.proofs.lemmas.List.Elements.{All-get_or}
use Rattle.tg_word.specs.declared.Place.{Place}
use Rattle.tg_space.specs.SpaceList.{HasCell, IsSpace, space_of}
use Rattle.tg_space.proofs.Tables.{next_cell}
use Rattle.tg_space.proofs.spaces.Spaces.hand_out.Goals as goal

pub returns-clause-free : goal.returns-clause-free
returns-clause-free c =
    let now = c.args.self.now in
    let space = c.args.space in
    let count = c.index-used.result.now in
    let next = next_cell _ now space count c.self.view_is c.self.invariant.0 c.requires.nursery.1 c.index-used.ensures in
    let place : Place = record { space = space; block = count / 64; cell = count % 64 } in
    let held : HasCell now.spaces place = record { space = c.requires.nursery.1; block = omega (arith, c.requires.room, next.counts); cell = omega arith } in
    next.table.fresh place held c.requires.nursery.0 (omega (arith, next.counts))

pub returns-clause-handed_out : goal.returns-clause-handed_out
returns-clause-handed_out c =
    let used = c.self.inside.used.items in let space = c.args.space in let count = c.index-used.result.now in
    let next = next_cell _ c.args.self.now space count c.self.view_is c.self.invariant.0 c.requires.nursery.1 c.index-used.ensures in
    let changed : get_or (set used space (count + 1)) space 0 ≡ count + 1 = get_or-set_same used space (count + 1) 0 (omega (arith, next.counted, next.low)) in
    λ young. omega (arith, changed)

pub returns-clause-in_range : goal.returns-clause-in_range
returns-clause-in_range c =
    let now = c.args.self.now in
    let next = next_cell _ now c.args.space _ c.self.view_is c.self.invariant.0 c.requires.nursery.1 c.index-used.ensures in
    let whole : IsSpace (space_of now.spaces c.args.space) = All-get_or IsSpace now.spaces c.args.space [] c.requires.nursery.1 next.table.blocks in
    record { space = omega (arith, next.table.few, c.requires.nursery.1); block = omega (arith, c.requires.room, next.counts, whole.0); cell = omega arith }
