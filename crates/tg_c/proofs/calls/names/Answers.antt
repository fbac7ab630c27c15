use Rattle.std.proofs.Common.{◌∙◌, Ok, refl, sym, ap}
use Rattle.tg_graph.specs.Heap.{content_of}
use Rattle.tg_c.specs.Calls.{AreNames, IsShown}
use Rattle.tg_c.proofs.CallLaws.{served_as}
use Rattle.tg_c.proofs.calls.names.Goals as goal

pub returns : goal.returns
returns c =
    let store = c.deref.result.now.store in
    let told = c.names-count.ensures in
    served_as (λ why. why) AreNames c.args.place.now c.put.new.self (IsShown c.args.into.now c.names-count.new.into (Ok c.names-count.result)) store store (Ok (content_of store.heap).names)
    c.in-Some.ensures.taken.0 c.put.ensures.open (sym (ap (λ s. s.store) (c.deref.ensures ∙ c.in-Some.ensures.taken.1))) (ap (λ s. s.store) (c.put.ensures.opened ∙ sym c.deref.ensures))
    (ap Ok told.number, told.shown) (record { same = refl; names = refl; once = told.once })
