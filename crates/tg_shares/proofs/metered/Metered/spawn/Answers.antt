use Rattle.std.proofs.Common.{◌≡◌, ◌∙◌, refl, subst}
use Rattle.tg_store.specs.declared.fault.CreateFault.TheVariants as fault
use Rattle.tg_store.specs.Store.{graph_of_store}
use Rattle.tg_shares.specs.Shares.{one_entry, one_vertex}
use Rattle.tg_shares.specs.Tills.{TakesIn, TillState}
use Rattle.tg_shares.proofs.Paying.{Holds, holds_crowded, holds_made, name_left}
use Rattle.tg_shares.proofs.metered.Metered.spawn.Goals as goal

pub returns-in-Err-clause-never_full : goal.returns-in-Err-clause-never_full
returns-in-Err-clause-never_full g c = λ why.
    name_left c.args.self.now.till.left.vertices c.args.client.now.purse.vertices c.args.self.now.locked.store c.args.self.now.covered c.requires.share.0 c.tell.ensures.left
    (c.in-Err.ensures.refusals.no_more (graph_of_store c.args.self.now.locked.store) refl why).1

pub invariant_of-self : goal.invariant_of-self
invariant_of-self g c =
    let held : Holds c.args.self.now.till c.args.self.now.locked = record { covered = c.args.self.now.covered; paid = c.args.self.now.paid } in
    let paid = subst (λ (t : TillState). TakesIn one_vertex t c.pay_vertex.new.till) c.tell.ensures.till c.pay_vertex.ensures.till in
    let still = holds_made c.args.self.now.till c.pay_vertex.new.till c.args.self.now.locked c.spawn.new.self _ _ _ held
    c.in-Ok.ensures.served.1.entry.entry c.spawn.ensures.refusals.opening c.spawn.ensures.entered paid in
    record { covered = still.covered; paid = still.paid }

pub invariant_of-self-in-Err : goal.invariant_of-self-in-Err
invariant_of-self-in-Err g c =
    let held : Holds c.args.self.now.till c.args.self.now.locked = record { covered = c.args.self.now.covered; paid = c.args.self.now.paid } in
    let old = c.args.self.now.locked in
    let next = c.pay_refused_spawn.new.till in
    let never : (c.in-Err.refused.why ≡ fault.VerticesFull) → ⊥ = λ why.
    name_left c.args.self.now.till.left.vertices c.args.client.now.purse.vertices old.store c.args.self.now.covered c.requires.share.0 c.tell.ensures.left
    (c.in-Err.ensures.refusals.no_more (graph_of_store old.store) refl why).1 in
    let still = holds_crowded c.in-Err.refused.why c.args.self.now.till next old c.spawn.new.self _ _ held c.spawn.ensures.refusals.opening c.spawn.ensures.entered
    (λ full. (
      subst (λ (t : TillState). TakesIn one_entry t next) c.tell.ensures.till ((c.pay_refused_spawn.ensures.crowded full).1),
      (c.in-Err.ensures.noted.too_many_entry full).0.entry,
      c.in-Err.ensures.refusals.same_graph (graph_of_store old.store) refl,
    ))
    (λ other. ((c.pay_refused_spawn.ensures.unpaid other).1 ∙ c.tell.ensures.till, (c.in-Err.ensures.noted.refused never other).0.entries)) in
    record { covered = still.covered; paid = still.paid }
