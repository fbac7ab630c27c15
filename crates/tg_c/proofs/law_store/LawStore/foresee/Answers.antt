use Rattle.std.proofs.Common.{◌∙◌, List, sym, subst, ap}
use Rattle.std.proofs.lemmas.Result.{err_from_is_err_and}
use Rattle.tg_model.specs.declared.edge.Edge.{Edge}
use Rattle.tg_model.specs.Graph.{ProtectionGraph}
use Rattle.tg_could.specs.Reached.{IsToldOf, JoinReached, with_edges}
use Rattle.tg_store.specs.Store.{graph_of_store}
use Rattle.tg_c.specs.Could.{IsForeseenOn}
use Rattle.tg_c.proofs.CouldLaws.{not_answered}
use Rattle.tg_c.proofs.law_store.LawStore.foresee.Goals as goal

pub returns-in_err-told : goal.returns-in_err-told
returns-in_err-told c =
    let g : ProtectionGraph = graph_of_store c.args.self.now.store in
    let scene = c.in_ok-scene.ensures.told in
    let given = err_from_is_err_and c.from_residual-in_err-told.result c.from_residual-in_err-told.ensures.1 in
    not_answered g c.args.silent.now c.args.as_if.now _ _ _ _ _ given.1 given.2 (c.as_slice.ensures.value ∙ scene.edges) scene.active (c.in_err-told.ensures.refused g scene.picture)

pub returns : goal.returns
returns c =
    let g : ProtectionGraph = graph_of_store c.args.self.now.store in
    let scene = c.in_ok-scene.ensures.told in
    let both = subst (λ (es : List Edge). JoinReached g es × IsToldOf c.args.silent.now (with_edges g es) c.args.question.x c.args.question.right c.args.question.y c.in_ok-told.told)
    (c.as_slice.ensures.value ∙ scene.edges) (c.in_ok-told.ensures.told g scene.sound scene.picture) in
    record {
      told = subst (λ t. IsForeseenOn g c.args.silent.now c.args.as_if.now c.args.question.x c.args.question.right c.args.question.y t) (sym (ap (λ o. o.told) c.in_ok-new.ensures.ok))
          (record { active = scene.active; joined = both.0; told_of = both.1 });
      refused = tt;
    }
