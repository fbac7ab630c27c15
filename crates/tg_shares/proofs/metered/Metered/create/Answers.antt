use Rattle.std.proofs.Common.{◌≡◌, refl, subst}
use Rattle.tg_store.specs.declared.fault.CreateFault.TheVariants as fault
use Rattle.tg_store.specs.Store.{graph_of_store}
use Rattle.tg_shares.specs.Shares.{one_vertex}
use Rattle.tg_shares.specs.Tills.{TakesIn, TillState}
use Rattle.tg_shares.proofs.Paying.{Holds, holds_made, holds_still, name_left}
use Rattle.tg_shares.proofs.metered.Metered.create.Goals as goal

pub returns-in-Err-clause-never_full : goal.returns-in-Err-clause-never_full
returns-in-Err-clause-never_full g c = λ why.
    name_left c.args.self.now.till.left.vertices c.args.client.now.purse.vertices c.args.self.now.locked.store c.args.self.now.covered c.requires.share.0 c.tell.ensures.left
    (c.in-Err.ensures.refusals.no_more (graph_of_store c.args.self.now.locked.store) refl why).1

pub invariant_of-self : goal.invariant_of-self
invariant_of-self g c =
    let held : Holds c.args.self.now.till c.args.self.now.locked = record { covered = c.args.self.now.covered; paid = c.args.self.now.paid } in
    let paid = subst (λ (t : TillState). TakesIn one_vertex t c.pay_vertex.new.till) c.tell.ensures.till c.pay_vertex.ensures.till in
    let still = holds_made c.args.self.now.till c.pay_vertex.new.till c.args.self.now.locked c.create.new.self _ _ _ held
    c.in-Ok.ensures.served.entry.entry c.create.ensures.refusals.opening c.create.ensures.numbers.entered paid in
    record { covered = still.covered; paid = still.paid }

pub invariant_of-self-in-Err-1 : goal.invariant_of-self-in-Err-1
invariant_of-self-in-Err-1 g c =
    let held : Holds c.args.self.now.till c.args.self.now.locked = record { covered = c.args.self.now.covered; paid = c.args.self.now.paid } in
    let never : (c.in-Err.refused.why ≡ fault.VerticesFull) → ⊥ = λ why.
    name_left c.args.self.now.till.left.vertices c.args.client.now.purse.vertices c.args.self.now.locked.store c.args.self.now.covered c.requires.share.0 c.tell.ensures.left
    (c.in-Err.ensures.refusals.no_more (graph_of_store c.args.self.now.locked.store) refl why).1 in
    let nothing = c.in-Err.ensures.noted.refused never c.in-Err.ensures.no_workers_full in
    let still = holds_still c.args.self.now.till c.tell.new.till c.args.self.now.locked c.create.new.self held c.tell.ensures.till c.create.ensures.refusals.opening nothing.0.entries c.create.ensures.numbers.entered in
    record { covered = still.covered; paid = still.paid }
