-- Room for the receipt was made, and the store was asked.
use Rattle.tg_store.specs.Store.{IsFaithful}
use Rattle.tg_shared.specs.Sessions.{LockedState, SessionState}
use Rattle.tg_shares.proofs.SeenCreates.{next_made, next_named, next_reason, next_refused}
use Rattle.tg_shares.proofs.metered.Metered.create_next.Goals as goal

pub returns-clause-made : goal.returns-clause-made
returns-clause-made g c =
    let v : LockedState = c.args.self.now.locked in
    let w : LockedState = c.create-made.new.self.locked in
    let old : SessionState = c.args.client.now.session in
    let ready : SessionState = c.make_room.new.self in
    let new : SessionState = c.create-made.new.client.session in
    let told = c.create-made.ensures in
    let keeps = c.make_room.ensures.room.receipts in
    let faithful : IsFaithful w.store = c.store.ensures.held.faithful in
    next_made c.args.label c.args.draft v w old ready new c.create-made.result keeps told.signed told.refusals.opening told.refusals.collections faithful told.served

pub returns-clause-name : goal.returns-clause-name
returns-clause-name g c = (next_named c.args.label c.args.draft c.args.self.now.locked c.create-made.new.self.locked c.make_room.new.self c.create-made.new.client.session c.create-made.result c.create-made.ensures.served).0

pub returns-clause-next : goal.returns-clause-next
returns-clause-next g c = (next_named c.args.label c.args.draft c.args.self.now.locked c.create-made.new.self.locked c.make_room.new.self c.create-made.new.client.session c.create-made.result c.create-made.ensures.served).1

pub returns-clause-refused : goal.returns-clause-refused
returns-clause-refused g c =
    let v : LockedState = c.args.self.now.locked in
    let w : LockedState = c.create-made.new.self.locked in
    let old : SessionState = c.args.client.now.session in
    let ready : SessionState = c.make_room.new.self in
    let new : SessionState = c.create-made.new.client.session in
    let told = c.create-made.ensures in
    let keeps = c.make_room.ensures.room.receipts in
    let faithful : IsFaithful w.store = c.store.ensures.held.faithful in
    next_refused c.args.label c.args.draft v w old ready new c.create-made.result keeps told.signed told.refusals.opening told.refusals.collections faithful told.noted told.no_workers_full

pub returns-clause-reason : goal.returns-clause-reason
returns-clause-reason g c =
    let v : LockedState = c.args.self.now.locked in
    let w : LockedState = c.create-made.new.self.locked in
    let old : SessionState = c.args.client.now.session in
    let ready : SessionState = c.make_room.new.self in
    let new : SessionState = c.create-made.new.client.session in
    let told = c.create-made.ensures in
    let keeps = c.make_room.ensures.room.receipts in
    next_reason c.args.label c.args.draft v.store w.store old ready new c.create-made.result keeps told.refusals told.noted told.no_workers_full
