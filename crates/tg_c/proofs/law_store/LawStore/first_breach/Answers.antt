use Rattle.std.proofs.Common.{◌∙◌, ◌≡◌, List, inr, inl, subst, map}
use Rattle.std.proofs.lemmas.Result.{IfErr-weaker, IfOk-weaker, err_from_is_err_and}
use Rattle.tg_model.specs.declared.edge.Edge.{Edge}
use Rattle.tg_could.specs.Reached.{JoinReached, with_edges}
use Rattle.tg_store.specs.Store.{graph_of_store}
use Rattle.tg_c.specs.Could.{IsRefusedOn}
use Rattle.tg_c.specs.Policy.{IsPolicyOutcome, IsPolicyOn}
use Rattle.tg_c.specs.declared.refusal.CallRefusal.TheVariants as refusal
use Rattle.tg_c.proofs.CouldLaws.{not_answered}
use Rattle.tg_c.proofs.law_store.LawStore.first_breach.Goals as goal

pub returns-in_err-sight : goal.returns-in_err-sight
returns-in_err-sight c =
    let scene = c.in_ok-scene.ensures.told in
    let given = err_from_is_err_and c.from_residual-in_err-sight.result c.from_residual-in_err-sight.ensures.1 in
    not_answered (graph_of_store c.args.self.now.store) c.args.silent.now c.args.as_if.now _ _ _ _ _ given.1 given.2
    (c.as_slice-edges.ensures.value ∙ scene.edges) scene.active (c.in_err-sight.ensures.refused _ scene.picture)

pub returns : goal.returns
returns c =
    let g = graph_of_store c.args.self.now.store in
    let silent = c.args.silent.now in
    let as_if = c.args.as_if.now in
    let questions = c.args.questions.now in
    let scene = c.in_ok-scene.ensures.told in
    let same = c.as_slice-edges.ensures.value ∙ scene.edges in
    let seen = c.in_ok-sight.ensures.seen g scene.sound scene.picture in
    record {
      told = IfOk-weaker c.find_breach.result _ (IsPolicyOn g silent as_if questions)
          (λ told on. record {
            active = scene.active;
            joined = subst (λ (es : List Edge). JoinReached g es) same seen.0;
            told_of = subst (λ (es : List Edge). IsPolicyOutcome silent (with_edges g es) questions told) same (on g scene.sound scene.picture seen.0 seen.1);
          })
          c.find_breach.ensures.told;
      refused = IfErr-weaker c.find_breach.result (λ why. why ≡ refusal.OutOfMemory) (IsRefusedOn g silent as_if) (λ why is. inr (scene.active, inl is)) c.find_breach.ensures.refused;
    }
