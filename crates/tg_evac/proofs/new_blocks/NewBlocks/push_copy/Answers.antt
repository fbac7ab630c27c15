use Rattle.std.proofs.Common.{◌≡◌, List, ℕ, length, subst, sym, arith, ◌∙◌}
use Rattle.tg_space.specs.Targets.{from_space, named_by, pointers_of}
use Rattle.tg_evac.specs.Walks.{ClaimsAll, MayMove}
use Rattle.tg_evac.proofs.Pushing.{one_copied, still_open, read_last}
use Rattle.tg_evac.proofs.new_blocks.NewBlocks.push_copy.Goals as goal

pub invariant_of-self-2 : goal.invariant_of-self-2
invariant_of-self-2 g c =
    let last = c.make_room.new.last.items in
    let at : c.len-at.result ≡ length last = omega (arith, c.len-at.ensures, c.make_room.new.last.ok) in
    let items = c.push_reserved.new.self.items in
    let fits = still_open last items c.args.original.words.now c.len-at.result at c.push_reserved.ensures.items c.move_cell.new.cell c.make_room.ensures.open.fits c.in_ok-make_room.ensures.ready c.move_cell.ensures.long in
    record { space = c.make_room.ensures.open.space; fits = fits; cells = omega (arith, c.make_room.ensures.open.cells, c.push_reserved.ensures.capacity) }

pub move_cell-requires : goal.move_cell-requires
move_cell-requires g c =
    let at : c.len-at.result ≡ length c.make_room.new.last.items = omega (arith, c.len-at.ensures, c.make_room.new.last.ok) in
    let same = read_last c.make_room.new.last.items c.push_reserved.new.self.items c.args.original.words.now c.len-at.result at c.push_reserved.ensures.items c.index_mut.result.now in
    subst (λ (ws : List ℕ). MayMove c.args.walk.kind c.args.walk.spaces.now.spaces (pointers_of ws) (g.C.Claimer.walked c.args.claimer.now)) (sym (c.index_mut.ensures.value ∙ same)) c.requires.may

pub returns-clause-claims : goal.returns-clause-claims
returns-clause-claims g c =
    let m = g.C.Claimer in let h = c.args.walk.spaces.now.spaces in let from = from_space (m.walked c.args.claimer.now).kind in
    let at : c.len-at.result ≡ length c.make_room.new.last.items = omega (arith, c.len-at.ensures, c.make_room.new.last.ok) in
    let same = read_last c.make_room.new.last.items c.push_reserved.new.self.items c.args.original.words.now c.len-at.result at c.push_reserved.ensures.items c.index_mut.result.now in
    subst (λ (ws : List ℕ). ClaimsAll m.walked m.knows m.is_full h c.args.original.is_in_old (named_by from h (pointers_of ws)) c.args.claimer.now c.move_cell.new.claimer c.move_cell.result) (c.index_mut.ensures.value ∙ same) c.move_cell.ensures.claims

pub returns-clause-copied : goal.returns-clause-copied
returns-clause-copied g c =
    let m = g.C.Claimer in let last = c.make_room.new.last.items in
    let at : c.len-at.result ≡ length last = omega (arith, c.len-at.ensures, c.make_room.new.last.ok) in
    let same = read_last last c.push_reserved.new.self.items c.args.original.words.now c.len-at.result at c.push_reserved.ensures.items c.index_mut.result.now in
    one_copied last c.push_reserved.new.self.items c.args.original.words.now c.len-at.result at c.push_reserved.ensures.items c.move_cell.new.cell c.move_cell.result (m.walked c.args.claimer.now).kind c.args.walk.spaces.now.spaces (m.knows c.move_cell.new.claimer) c.args.self.now c.make_room.new.full c.index_mut.result.now
    (c.index_mut.ensures.value ∙ same) (c.in_ok-make_room.ensures.same ∙ c.self.view_is) c.move_cell.ensures.image
