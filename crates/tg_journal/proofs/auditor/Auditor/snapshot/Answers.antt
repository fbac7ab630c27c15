use Rattle.std.proofs.Common.{◌≡◌, ap, sym, subst}
use Rattle.tg_snapshot.specs.Snapshot.{Saved, IsSnapshotOf}
use Rattle.tg_snapshot.proofs.AcceptedLaws.{accepted}
use Rattle.tg_journal.specs.Auditing.{StandsAt}
use Rattle.tg_journal.specs.Live.{AuditState, graph_kept}
use Rattle.tg_journal.proofs.SavingLaws.{saved_same, saved_some}
use Rattle.tg_journal.proofs.SnapshotLaws.{IsSnapshotOf-whole}
use Rattle.tg_journal.proofs.auditor.Auditor.snapshot.Goals as goal

pub returns-clause-of : goal.returns-clause-of
returns-clause-of c = λ g stands.
    let here = subst (StandsAt g) (sym c.self.view_is) stands in
    saved_same _ c.new.result c.new.ensures c.ok.result c.ok.ensures.value (λ (p : Saved). IsSnapshotOf p g)
    (IsSnapshotOf-whole _ g (graph_kept c.self.inside.graph) here.come (c.in_ok-picture.ensures.lists c.self.inside.at))

pub returns-clause-some : goal.returns-clause-some
returns-clause-some c = λ g stands can.
    let here = subst (StandsAt g) (sym c.self.view_is) stands in
    let of = IsSnapshotOf-whole _ g (graph_kept c.self.inside.graph) here.come (c.in_ok-picture.ensures.lists c.self.inside.at) in
    saved_some _ c.new.result c.new.ensures c.ok.result c.ok.ensures.value
    (accepted _ g here.come.sound of c.in_ok-picture.ensures.names c.in_ok-picture.ensures.ends c.in_ok-picture.ensures.held can.some_made can.within can.limit can.values)

pub returns-clause-place : goal.returns-clause-place
returns-clause-place c =
    saved_same _ c.new.result c.new.ensures c.ok.result c.ok.ensures.value (λ (p : Saved). p.entries ≡ c.args.self.now.at)
    (ap (λ (a : AuditState). a.at) c.self.view_is)
