use Rattle.std.proofs.Common.{refl}
use Rattle.tg_store.specs.Store.{graph_of_store}
use Rattle.tg_shares.proofs.Paying.{Holds, holds_commanded}
use Rattle.tg_shares.proofs.metered.Metered.apply.Goals as goal

pub invariant_of-self : goal.invariant_of-self
invariant_of-self g c =
    let held : Holds c.args.self.now.till c.args.self.now.locked = record { covered = c.args.self.now.covered; paid = c.args.self.now.paid } in
    let still = holds_commanded c.args.self.now.till c.pay_entries.new.till c.args.self.now.locked c.apply.new.self c.args.client.now.session.worker c.args.command _ held
    (c.in-Ok.ensures.served.entry (graph_of_store c.args.self.now.locked.store) refl).entry c.apply.ensures.kept.opening c.apply.ensures.kept.numbers.entered c.pay_entries.ensures.till in
    record { covered = still.covered; paid = still.paid }
