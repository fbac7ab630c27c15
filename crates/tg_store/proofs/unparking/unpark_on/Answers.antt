-- The grant that is decided is the host's.
use Rattle.std.proofs.Common.{◌≡◌, ◌∙◌, ◌++◌, ◌∷◌, [], List, ap, refl, subst}
use Rattle.std.specs.Prelude.{IfOk, None, Some}
use Rattle.tg_model.specs.declared.command.Deed.TheVariants.{Plain}
use Rattle.tg_journal.specs.declared.entry.Entry.{Entry}
use Rattle.tg_graph.specs.Heap.{content_of}
use Rattle.tg_store.specs.declared.parking.Parking.{Parking}
use Rattle.tg_store.specs.Unparking.{take_key_of}
use Rattle.tg_store.specs.Inner.Parking.{parking_of}
use Rattle.tg_store.specs.Inner.Unparking.{UnparksOnHeap}
use Rattle.tg_store.proofs.ParkLaws.{keeps_all, keeps_roomy, key_denial, when_refused}
use Rattle.tg_store.proofs.unparking.unpark_on.Goals as goal

pub returns-in_err-reserve-clause-refused : goal.returns-in_err-reserve-clause-refused
returns-in_err-reserve-clause-refused g c = when_refused c.from_residual.result (keeps_all c.args.heap.now c.args.journal.now c.reserve.new.self c.reserve.ensures.entries)

pub serve_unparking-requires-clause-served : goal.serve_unparking-requires-clause-served
serve_unparking-requires-clause-served g c =
    let content = content_of c.args.heap.now in
    let s = c.args.sides.now in
    let key : c.take_key-key.result ≡ take_key_of (parking_of s) = c.take_key-key.ensures ∙ ap (λ (p : Parking). take_key_of p) c.parking-parking.ensures in
    key_denial content s.host.name c.take_key-key.result (take_key_of (parking_of s)) None key c.in-Ok.ensures.denial

pub returns-in-Ok-clause-comes : goal.returns-in-Ok-clause-comes
returns-in-Ok-clause-comes g c =
    subst (λ (es : List Entry). IfOk c.serve_unparking.result (UnparksOnHeap c.args.sides.now c.args.heap.now c.serve_unparking.new.heap es c.serve_unparking.new.journal.entries))
    c.reserve.ensures.entries c.serve_unparking.ensures.comes

pub returns-in-Ok-clause-refused : goal.returns-in-Ok-clause-refused
returns-in-Ok-clause-refused g c =
    keeps_roomy c.args.heap.now c.serve_unparking.new.heap c.args.journal.now c.reserve.new.self c.serve_unparking.new.journal c.reserve.ensures.entries
    c.serve_unparking.result c.serve_unparking.ensures.refused

pub returns-in-Err-clause-comes : goal.returns-in-Err-clause-comes
returns-in-Err-clause-comes g c =
    let content = content_of c.args.heap.now in
    let s = c.args.sides.now in
    let key : c.take_key-key.result ≡ take_key_of (parking_of s) = c.take_key-key.ensures ∙ ap (λ (p : Parking). take_key_of p) c.parking-parking.ensures in
    record {
      denied = key_denial content s.host.name c.take_key-key.result (take_key_of (parking_of s)) (Some c.in-Err.denial) key c.in-Err.ensures.denial;
      entry = c.deny.ensures.entered.entries
          ∙ (λ i. c.reserve.ensures.entries i ++ (record { worker = s.host.name; deed = Plain (key i); reply = c.deny.ensures.reply i }) ∷ []);
      heap = refl;
    }
