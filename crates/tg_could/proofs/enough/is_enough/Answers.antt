use Rattle.std.proofs.Common.{◌≡◌, not, sym, ◌∙◌, ap, List, ℕ, subst}
use Rattle.std.proofs.lemmas.Bool.{true_from_ne_false, false≢true}
use Rattle.tg_model.specs.Graph.{without_subject}
use Rattle.tg_could.specs.Turns.{NeverHolds}
use Rattle.tg_could.proofs.enough.is_enough.Goals as goal

pub returns : goal.returns
returns c not_enough g picture =
    let others : c.as_slice.result.now ≡ without_subject c.args.scene.now.silent.now c.args.host =
    c.as_slice.ensures.value ∙ (c.leave_out.ensures ∙ ap (λ (l : List ℕ). without_subject l c.args.host) c.in_ok-others.ensures.items) in
    subst (λ (l : List ℕ). NeverHolds l g c.args.question.x c.args.question.right c.args.question.y) others
    (c.parts-parts.ensures (true_from_ne_false c.parts-parts.result (λ out. false≢true (sym not_enough ∙ ap not out))) g picture)
