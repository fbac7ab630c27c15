-- Room for the receipt was made, and the store was asked.
use Rattle.std.proofs.Common.{◌≡◌, ◌∙◌, refl, subst}
use Rattle.tg_store.specs.Store.{IsFaithful}
use Rattle.tg_shared.specs.Sessions.{LockedState, SessionState}
use Rattle.tg_shared.proofs.Adding.{adds_still}
use Rattle.tg_shared.proofs.Creations.{next_made, next_named, next_reason, next_refused, no_copy}
use Rattle.tg_shared.proofs.locked.Locked.create_next.Goals as goal

pub returns : goal.returns
returns g c =
    let v : LockedState = c.args.self.now in
    let w : LockedState = c.create-made.new.self in
    let old : SessionState = c.args.session.now in
    let ready : SessionState = c.make_room.new.self in
    let new : SessionState = c.create-made.new.session in
    let told = c.create-made.ensures in
    let keeps = c.make_room.ensures.room.receipts in
    let faithful : IsFaithful w.store = c.store.ensures.held.faithful in
    let named = next_named c.args.label c.args.draft v w ready new c.create-made.result told.served in
    record {
      made = next_made c.args.label c.args.draft v w old ready new c.create-made.result keeps told.signed told.refusals.opening told.refusals.collections faithful told.served;
      name = named.0;
      next = named.1;
      refused = next_refused c.args.label c.args.draft v w old ready new c.create-made.result keeps told.signed told.refusals.opening told.refusals.collections faithful told.noted told.no_workers_full;
      reason = next_reason c.args.label c.args.draft v.store w.store old ready new c.create-made.result keeps told.refusals told.noted told.no_workers_full;
      handed_back = told.refusals.handed_back;
      numbers = told.numbers;
    }
