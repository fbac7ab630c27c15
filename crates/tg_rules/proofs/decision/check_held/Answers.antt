use Rattle.std.proofs.Common.{◌≡◌, ◌∙◌, ℕ, Bool, false, Some, None, refl, sym, ap, subst}
use Rattle.std.specs.Prelude.{if◌then◌else◌}
use Rattle.tg_rights.specs.RightSet.{RightSet, holds_all, is_none_held, minus, no_rights}
use Rattle.tg_rights.proofs.RightLaws.{minus-no_rights}
use Rattle.tg_model.specs.Rules.{unless_held}
use Rattle.tg_model.specs.declared.reply.Denial.{Denial}
use Rattle.tg_model.specs.declared.reply.Rule.{Rule}
use Rattle.tg_model.specs.declared.reply.Cause.TheVariants.{Missing}
use Rattle.tg_graph.specs.Heap.{content_of}
use Rattle.tg_rules.proofs.decision.check_held.Goals as goal

-- where there is no edge, all rights that are asked for are missing
none_held : (label : ℕ → ℕ → RightSet) (rule : Rule) (x y : ℕ) (rights : RightSet) → no_rights ≡ label x y → is_none_held rights ≡ false
    → Some (record { rule = rule; cause = Missing rights x y }) ≡ unless_held label rule x y rights
none_held label rule x y rights empty some =
    let without : RightSet → Denial = λ left. record { rule = rule; cause = Missing left x y } in
    subst (λ (held : RightSet). Some (without rights) ≡ (if holds_all held rights then None else Some (without (minus rights held)))) empty
    (subst (λ (left : RightSet). Some (without rights) ≡ (if is_none_held left then None else Some (without left))) (sym (minus-no_rights rights))
    (subst (λ (b : Bool). Some (without rights) ≡ (if b then None else Some (without rights))) (sym some) refl))

pub returns-in-None-clause-denial : goal.returns-in-None-clause-denial
returns-in-None-clause-denial g c =
    let label = (content_of c.args.heap.now).label in
    let empty : no_rights ≡ label c.args.from.name c.args.to = subst (λ (n : ℕ). no_rights ≡ label n c.args.to) c.requires.checkable.from.named c.in-None.ensures.rights in
    ap (λ (d : Denial). Some d) c.missing-in-None.ensures
    ∙ none_held label c.args.rule c.args.from.name c.args.to c.args.rights empty c.requires.checkable.some
