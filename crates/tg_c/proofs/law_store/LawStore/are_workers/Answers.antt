use Rattle.std.proofs.Common.{◌<◌, length, refl, subst, arith}
use Rattle.std.proofs.lemmas.List.{get_or_default}
use Rattle.std.proofs.lemmas.List.Elements.{AllWithin-more}
use Rattle.tg_model.specs.Graph.{ProtectionGraph, IsSubject}
use Rattle.tg_store.specs.Store.{graph_of_store}
use Rattle.tg_c.proofs.law_store.LawStore.are_workers.Goals as goal

pub loop-name-preserved : goal.loop-name-preserved
loop-name-preserved c =
    let low : c.loop-name.name-index < length c.args.names.now = omega arith in
    let g : ProtectionGraph = graph_of_store c.args.self.now.store in
    AllWithin-more (IsSubject g) c.args.names.now 0 c.loop-name.name-index c.loop-name.invariant
    (λ d. subst (IsSubject g) (get_or_default c.args.names.now c.loop-name.name-index _ d low) ((c.is_subject.ensures g refl).0 c.if-not-is_subject.false))
