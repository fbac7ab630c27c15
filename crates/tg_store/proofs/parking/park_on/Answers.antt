-- The row that is listed is the user's, and there is room for all entries.
use Rattle.std.proofs.Common.{ℕ, ap, length, refl, subst, arith}
use Rattle.tg_graph.specs.Heap.{content_of}
use Rattle.tg_store.specs.Inner.Parking.{IsRowOf}
use Rattle.tg_store.proofs.ParkLaws.{keeps_all, keeps_roomy, parks_some, when_refused}
use Rattle.tg_store.proofs.parking.park_on.Goals as goal

pub returns-in_err-row-clause-refused : goal.returns-in_err-row-clause-refused
returns-in_err-row-clause-refused g c = when_refused c.from_residual.result (keeps_all c.args.heap.now c.args.journal.now c.args.journal.now refl)

pub returns-in_err-reserve_many-clause-refused : goal.returns-in_err-reserve_many-clause-refused
returns-in_err-reserve_many-clause-refused g c = when_refused c.from_residual-in_err-reserve_many.result (keeps_all c.args.heap.now c.args.journal.now c.reserve_many.new.self c.reserve_many.ensures.entries)

pub decide_parking-requires-clause-row : goal.decide_parking-requires-clause-row
decide_parking-requires-clause-row g c = subst (λ (x : ℕ). IsRowOf (content_of c.args.heap.now) x c.in_ok-row.row) c.requires.user.vertex.named c.in_ok-row.ensures

pub decide_parking-requires-clause-room : goal.decide_parking-requires-clause-room
decide_parking-requires-clause-room g c = omega (arith, c.in_ok-reserve_many.ensures.room, ap (λ es. length es) c.as_slice-count.ensures)

pub returns-clause-comes : goal.returns-clause-comes
returns-clause-comes g c =
    parks_some c.args.sides.now c.in_ok-row.row c.args.heap.now c.decide_parking.new.heap c.args.journal.now c.reserve_many.new.self c.decide_parking.new.journal c.reserve_many.ensures.entries
    (subst (λ (x : ℕ). IsRowOf (content_of c.args.heap.now) x c.in_ok-row.row) c.requires.user.vertex.named c.in_ok-row.ensures) c.decide_parking.result c.decide_parking.ensures.comes

pub returns-clause-refused : goal.returns-clause-refused
returns-clause-refused g c =
    keeps_roomy c.args.heap.now c.decide_parking.new.heap c.args.journal.now c.reserve_many.new.self c.decide_parking.new.journal c.reserve_many.ensures.entries
    c.decide_parking.result c.decide_parking.ensures.refused
