use Rattle.std.proofs.Common.{subst, sym}
use Rattle.tg_revive.specs.Reviving.{IsReviveFault}
use Rattle.tg_revive.specs.declared.fault.ReviveFault.{ReviveFault}
use Rattle.tg_revive.proofs.Reviving.{fault_on, revived_on}
use Rattle.tg_revive.proofs.revive.go_on.Goals as goal

pub returns-in-Ok-clause-revived : goal.returns-in-Ok-clause-revived
returns-in-Ok-clause-revived g c = λ begin limits was.
    revived_on begin c.args.entries.now limits c.args.store c.replay_all.new.store was c.in-Ok.ensures.resumed

pub returns-in-Err-clause-refused : goal.returns-in-Err-clause-refused
returns-in-Err-clause-refused g c = λ begin limits was.
    subst (λ (f : ReviveFault). IsReviveFault begin c.args.entries.now limits f) (sym c.from.ensures)
    (fault_on begin c.args.entries.now limits c.args.store c.replay_all.new.store c.in-Err.halted was c.journal.ensures.faithful c.in-Err.ensures.halted)
