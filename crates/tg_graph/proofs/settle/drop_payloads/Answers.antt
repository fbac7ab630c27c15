use Rattle.std.proofs.Common.{◌++◌, ◌∷◌, [], ℕ, List, get_or, take, subst, sym, ⊎_elim}
use Rattle.std.specs.List.{Contains}
use Rattle.std.proofs.lemmas.List.{take_more}
use Rattle.std.proofs.lemmas.List.Elements.{Contains-append_left, Contains-push, Contains-push_cases}
use Rattle.tg_graph.specs.Kept.{Drops}
use Rattle.tg_graph.proofs.KeptDropped.{drops_more}
use Rattle.tg_graph.proofs.settle.drop_payloads.Goals as goal

pub loop-key-preserved : goal.loop-key-preserved
loop-key-preserved g c =
    let keys = c.args.keys.now in
    let i = c.loop-key.key-index in
    let key = get_or keys i 0 in
    let done : List ℕ = take i keys in
    subst (λ (ks : List ℕ). Drops c.args.payloads.now c.take_out.new.self (Contains ks)) (sym (take_more keys i 0 c.loop-key-test.true))
    (drops_more c.args.payloads.now c.loop-key.payloads c.take_out.new.self (Contains done) (Contains (done ++ key ∷ [])) key c.loop-key.invariant c.take_out.ensures.gone
    (Contains-push done key)
    (λ k has. Contains-append_left done (key ∷ []) k has)
    (λ k has other. ⊎_elim (λ earlier. earlier) (λ last. absurd (other (sym last))) (Contains-push_cases done key k has)))
