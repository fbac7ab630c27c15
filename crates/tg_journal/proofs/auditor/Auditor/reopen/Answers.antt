use Rattle.std.proofs.Common.{refl, sym, subst}
use Rattle.tg_snapshot.specs.Snapshot.{graph_shown}
use Rattle.tg_journal.specs.Auditing.{HasComeTo}
use Rattle.tg_journal.proofs.SnapshotLaws.{listed_alike, listed_shown}
use Rattle.tg_journal.proofs.auditor.Auditor.reopen.Goals as goal

pub returns-clause-stands : goal.returns-clause-stands
returns-clause-stands c = record {
  none_bad = refl;
  come = subst (HasComeTo (graph_shown c.args.snapshot.now)) (sym c.in_ok-reopen.ensures.listed) (listed_shown c.args.snapshot.now c.in_ok-reopen.ensures.accepted);
}

pub returns-clause-of : goal.returns-clause-of
returns-clause-of c = λ g sound is. record {
  none_bad = refl;
  come = subst (HasComeTo g) (sym c.in_ok-reopen.ensures.listed) (listed_alike c.args.snapshot.now g sound is);
}
