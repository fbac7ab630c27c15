use Rattle.std.proofs.Common.{Some, refl, sym, subst}
use Rattle.tg_space.specs.declared.kind.Kind.{Kind}
use Rattle.tg_passes.specs.Passes.{entries_of}
use Rattle.tg_shared.specs.Sessions.{LeavesAtSeen}
use Rattle.tg_threads.specs.Output.{IsCountTold, LeavesAtFront}
use Rattle.tg_threads.proofs.FrontLaws.{front_seen, leaves_seen}
use Rattle.tg_threads.proofs.worker.collect.Goals as goal

pub returns-in-Ok-Full-clause-collected : goal.returns-in-Ok-Full-clause-collected
returns-in-Ok-Full-clause-collected g c =
    let kept = c.in-Ok-Full.kept in
    let start = g.L.Round.start in
    let seen = c.collect_by.new.session.seen in
    let told : Kind → Type 0 = λ k. IsCountTold start (entries_of seen) k (Some kept) in
    let left : Kind → Type 0 = λ k. LeavesAtFront start (entries_of seen) k kept in
    subst told (sym c.in-Ok-Full.is-1) (kept, subst left c.in-Ok-Full.is-1 (leaves_seen start seen _ kept c.in-Ok-Full.ensures.number), refl)

pub returns-in-Err-default-clause-collected : goal.returns-in-Err-default-clause-collected
returns-in-Err-default-clause-collected g c = record {
  want = c.in-Err-default.ensures.refused;
  full = λ is. front_seen g.L.Round.start c.collect_by.new.session.seen _ (c.in-Err-default.ensures.full is);
}
