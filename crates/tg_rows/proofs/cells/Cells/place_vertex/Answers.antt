use Rattle.std.proofs.Common.{◌≡◌, ◌∙◌, ◌<◌, ap, arith, length, subst, sym, ◌+◌, ◌*◌}
use Rattle.tg_word.specs.declared.Place.{Place}
use Rattle.tg_space.specs.SpaceList.{HasCell, with_cell_at, space_of}
use Rattle.tg_space.specs.SpaceTable.{SpaceTable, IsHandedOut, place_in_space, used_of, with_spaces}
use Rattle.tg_nursery.specs.Allocation.{HasRoomLeft}
use Rattle.tg_rows.specs.Steps.{vertex_words}
use Rattle.tg_rows.proofs.Growing.{VertexStep, vertex_step}
use Rattle.tg_rows.proofs.cells.Cells.place_vertex.Given.{Over}
use Rattle.std.specs.Prelude.{slice_set}
use Rattle.tg_rows.proofs.cells.Cells.place_vertex.Goals as goal

step : (g : Over) (c : goal.After-write_cell g) →
    VertexStep c.args.self.now.spaces c.write_cell.new.self c.args.self.now.payloads c.insert.new.self c.hand_out-place.result c.args.name c.args.draft
step g c =
    let t = c.args.self.now.spaces in
    let q = c.hand_out-place.result in
    let words = vertex_words c.args.name c.in-Ok.key in
    let handed = c.hand_out-place.ensures in
    let space = c.nursery_space.result in
    let is = c.nursery_space.ensures in
    vertex_step t c.write_cell.new.self c.args.self.now.payloads c.insert.new.self space q c.args.name c.in-Ok.key c.args.draft
    c.requires.table c.requires.graph (omega (arith, is), subst (λ s. s < length t.spaces) (sym is) c.requires.nursery) (subst (λ s. HasRoomLeft t s 1) (sym is) c.requires.left) handed.held (ap (λ (r : Place). r.space) handed.place) handed.free
    (subst (λ (x : SpaceTable). IsHandedOut x q) handed.counted handed.handed_out) c.requires.fresh c.in-Ok.ensures.fresh c.in-Ok.ensures.inserted
    (c.write_cell.ensures ∙ ap (λ (x : SpaceTable). with_spaces x (with_cell_at x.spaces q words)) handed.counted)

pub returns-clause-placed : goal.returns-clause-placed
returns-clause-placed g c = (step g c).placed

pub returns-clause-vertex : goal.returns-clause-vertex
returns-clause-vertex g c = (step g c).vertex

pub returns-clause-rows : goal.returns-clause-rows
returns-clause-rows g c = (step g c).rows

pub returns-clause-table : goal.returns-clause-table
returns-clause-table g c = (step g c).table

pub returns-clause-remembered : goal.returns-clause-remembered
returns-clause-remembered g c = (step g c).remembered

pub returns-clause-next : goal.returns-clause-next
returns-clause-next g c = subst (λ s. c.hand_out-place.result ≡ place_in_space s (used_of c.args.self.now.spaces s)) c.nursery_space.ensures c.hand_out-place.ensures.place

pub write_cell-requires-clause-held : goal.write_cell-requires-clause-held
write_cell-requires-clause-held g c = subst (λ (x : SpaceTable). HasCell x.spaces c.hand_out-place.result) (sym c.hand_out-place.ensures.counted) c.hand_out-place.ensures.held

pub hand_out-place-requires : goal.hand_out-place-requires
hand_out-place-requires g c =
    let t = c.args.self.now.spaces in
    let is = c.nursery_space.ensures in
    record {
      nursery = (omega (arith, is), subst (λ s. s < length t.spaces) (sym is) c.requires.nursery);
      room = subst (λ s. used_of t s < 64 * length (space_of t.spaces s)) (sym is) (omega (arith, c.requires.left));
    }

pub returns-clause-used : goal.returns-clause-used
returns-clause-used g c =
    let t = c.args.self.now.spaces in
    subst (λ s. c.write_cell.new.self.used ≡ slice_set t.used s (used_of t s + 1)) c.nursery_space.ensures
    (ap (λ (x : SpaceTable). x.used) c.write_cell.ensures ∙ ap (λ (x : SpaceTable). x.used) c.hand_out-place.ensures.counted)
