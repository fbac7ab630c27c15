-- The row that is listed is the account's, and there is room for all entries.
use Rattle.std.proofs.Common.{ℕ, List, ap, length, refl, subst, arith}
use Rattle.std.specs.Prelude.{IfOk}
use Rattle.tg_rights.specs.RightSet.{only}
use Rattle.tg_rights.specs.declared.Right.TheVariants as right
use Rattle.tg_model.specs.Rules.{Permits}
use Rattle.tg_model.proofs.AllowedLaws.{permits-no_denial}
use Rattle.tg_model.proofs.ReachLaws.{HasEdge-holds}
use Rattle.tg_journal.specs.declared.entry.Entry.{Entry}
use Rattle.tg_graph.specs.Heap.{content_of}
use Rattle.tg_store.specs.Unparking.{take_key_of}
use Rattle.tg_store.specs.Inner.Parking.{IsRowOf, parking_of}
use Rattle.tg_store.specs.Inner.Unparking.{UnparksOnHeap}
use Rattle.tg_store.proofs.ParkLaws.{keeps_all, keeps_roomy, when_refused}
use Rattle.tg_store.proofs.unparking.serve_unparking.Goals as goal

pub find_account-account-requires-clause-edge : goal.find_account-account-requires-clause-edge
find_account-account-requires-clause-edge g c =
    let content = content_of c.args.heap.now in
    let p = parking_of c.args.sides.now in
    let may : Permits content.label content.value p.host (take_key_of p) = permits-no_denial content.label content.value p.host (take_key_of p) c.requires.served in
    HasEdge-holds content.label p.host p.account (only right.T) may.4 refl

pub returns-in_err-row-clause-refused : goal.returns-in_err-row-clause-refused
returns-in_err-row-clause-refused g c = when_refused c.from_residual.result (keeps_all c.args.heap.now c.args.journal.now c.args.journal.now refl)

pub returns-in_err-reserve_many-clause-refused : goal.returns-in_err-reserve_many-clause-refused
returns-in_err-reserve_many-clause-refused g c = when_refused c.from_residual-in_err-reserve_many.result (keeps_all c.args.heap.now c.args.journal.now c.reserve_many.new.self c.reserve_many.ensures.entries)

pub take_out-requires-clause-row : goal.take_out-requires-clause-row
take_out-requires-clause-row g c = subst (λ (x : ℕ). IsRowOf (content_of c.args.heap.now) x c.in_ok-row.row) c.find_account-account.ensures.place.named c.in_ok-row.ensures

pub take_out-requires-clause-room : goal.take_out-requires-clause-room
take_out-requires-clause-room g c = omega (arith, c.in_ok-reserve_many.ensures.room, ap (λ es. length es) c.as_slice.ensures)

pub returns-clause-comes : goal.returns-clause-comes
returns-clause-comes g c =
    subst (λ (es : List Entry). IfOk c.take_out.result (UnparksOnHeap c.args.sides.now c.args.heap.now c.take_out.new.heap es c.take_out.new.journal.entries))
    c.reserve_many.ensures.entries c.take_out.ensures.comes

pub returns-clause-refused : goal.returns-clause-refused
returns-clause-refused g c =
    keeps_roomy c.args.heap.now c.take_out.new.heap c.args.journal.now c.reserve_many.new.self c.take_out.new.journal c.reserve_many.ensures.entries
    c.take_out.result c.take_out.ensures.refused
