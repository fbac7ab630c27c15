use Rattle.std.proofs.Common.{◌≡◌, ◌∙◌, ℕ, List, ap, arith, length, refl, sym}
use Rattle.std.proofs.lemmas.List.{length-map}
use Rattle.tg_store.specs.Store.{graph_of_store}
use Rattle.tgstore.proofs.onward.race_after.Goals as goal

pub returns-then-acting-gt0-clause-acts : goal.returns-then-acting-gt0-clause-acts
returns-then-acting-gt0-clause-acts g c =
    let names = c.subjects-acting.ensures.names (graph_of_store c.args.from.store) refl in
    let long = sym (length-map c.subjects-acting.result.now (λ s. s.name)) ∙ ap (λ (l : List ℕ). length l) names in
    omega (arith, long, c.if-acting-gt0.true)

pub returns-clause-nobody : goal.returns-clause-nobody
returns-clause-nobody g c =
    let names = c.subjects-acting.ensures.names (graph_of_store c.args.from.store) refl in
    let long = sym (length-map c.subjects-acting.result.now (λ s. s.name)) ∙ ap (λ (l : List ℕ). length l) names in
    (refl, omega (arith, long, c.if-acting-gt0.false))
