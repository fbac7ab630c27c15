use Rattle.std.proofs.Common.{◌∙◌}
use Rattle.std.proofs.lemmas.Result.{err_from_is_err_and}
use Rattle.tg_store.specs.Store.{graph_of_store}
use Rattle.tg_c.proofs.CouldLaws.{not_answered}
use Rattle.tg_c.proofs.law_store.LawStore.look.Goals as goal

pub returns-in_err-sight : goal.returns-in_err-sight
returns-in_err-sight c =
    let scene = c.in_ok-scene.ensures.told in
    let given = err_from_is_err_and c.from_residual-in_err-sight.result c.from_residual-in_err-sight.ensures.1 in
    not_answered (graph_of_store c.args.self.now.store) c.args.silent.now c.args.as_if.now _ _ _ _ _ given.1 given.2
    (c.as_slice.ensures.value ∙ scene.edges) scene.active (c.in_err-sight.ensures.refused _ scene.picture)
