use Rattle.std.proofs.Common.{◌≡◌, ◌∙◌, ◌∷◌, ◌++◌, [], ℕ, List, Result, ap, subst}
use Rattle.std.specs.Prelude.{IfOk}
use Rattle.tg_model.specs.declared.opening.OpeningFault.{OpeningFault}
use Rattle.tg_model.specs.declared.opening.TheConstants.{MAX_LASTING_VERTICES}
use Rattle.tg_model.specs.declared.value.Value.{Value}
use Rattle.tg_model.specs.Opened.{OpensPlan, Plan, start_of}
use Rattle.tg_graph.specs.Heap.{content_of}
use Rattle.tg_graph.specs.Standing.{IsContentOf}
use Rattle.tg_rebuild.proofs.RaisingLaws.{zero_raised}
use Rattle.tg_rebuild.proofs.zero.open_zero.Goals as goal

pub returns-in-Ok-clause-raised : goal.returns-in-Ok-clause-raised
returns-in-Ok-clause-raised g c =
    let v : Value = c.in_ok-draft.draft in
    let limit : ℕ = c.limit-limit.result in
    let handed : Plan = record { workers = 1; edges = c.new.result.items; values = c.in_ok-values.values.items; limit = limit } in
    let opened : OpensPlan MAX_LASTING_VERTICES handed c.unwrap-opening.result =
    subst (λ (r : Result Plan OpeningFault). IfOk r (OpensPlan MAX_LASTING_VERTICES handed)) c.unwrap-opening.ensures c.lasting.ensures.kept in
    let values : c.in_ok-values.values.items ≡ v ∷ [] =
    c.in_ok-values.ensures.values ∙ c.as_slice.ensures.value ∙ c.in_ok-push.ensures.items ∙ ap (λ (vs : List Value). vs ++ v ∷ []) c.new-drafts.ensures.items in
    let is : c.unwrap-opening.result ≡ record { workers = 1; edges = []; values = v ∷ []; limit = limit } =
    opened.0 ∙ (λ i. record { workers = 1; edges = c.new.ensures.items i; values = values i; limit = limit }) in
    zero_raised c.args.snapshot.now c.picture.ensures.accepted c.in-Ok.heap v limit
    (subst (λ (q : Plan). IsContentOf (content_of c.in-Ok.heap) (start_of q)) is c.in-Ok.ensures.stands) c.in_ok-draft.ensures
