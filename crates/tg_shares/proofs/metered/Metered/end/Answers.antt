use Rattle.tg_shares.proofs.Paying.{Holds, holds_after_end}
use Rattle.tg_shares.proofs.metered.Metered.end.Goals as goal

pub invariant_of-self : goal.invariant_of-self
invariant_of-self g c =
    let held : Holds c.args.self.now.till c.args.self.now.locked = record { covered = c.args.self.now.covered; paid = c.args.self.now.paid } in
    let still = holds_after_end c.end.result c.args.worker c.args.self.now.till c.args.self.now.locked c.end.new.self held c.end.ensures.ended c.end.ensures.entered c.end.ensures.none_entered in
    record { covered = still.covered; paid = still.paid }
