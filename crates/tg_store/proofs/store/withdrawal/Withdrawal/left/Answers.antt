use Rattle.std.proofs.Common.{◌≡◌, ◌∙◌, ◌==◌, ◌&&◌, cond, ap, sym}
use Rattle.std.specs.List.{list_any}
use Rattle.std.proofs.lemmas.Bool.{eq-eqb, ne_eqb}
use Rattle.tg_rights.specs.RightSet.{label_of, minus}
use Rattle.tg_store.specs.Inner.Reaching.{names_found}
use Rattle.tg_store.proofs.LeftLaws.{any_found, not_both}
use Rattle.tg_store.proofs.store.withdrawal.Withdrawal.left.Goals as goal

pub returns-then-to-self : goal.returns-then-to-self
returns-then-to-self c =
    let w = c.args.self.now in
    let label = c.args.label in
    let gives = list_any (λ x. x == c.args.from) (names_found w.givers.items) in
    c.new.ensures ∙ ap label_of (c.rights-rights.ensures.same ∙ sym (ap (λ v. cond (v && gives) (minus label w.rights) label) (ne_eqb c.args.to w.target c.if-to-self.true)))

pub returns-then-not-is_giver : goal.returns-then-not-is_giver
returns-then-not-is_giver c =
    let w = c.args.self.now in
    let label = c.args.label in
    let here = c.args.to == w.target in
    let gives : list_any (λ x. x == c.args.from) (names_found w.givers.items) ≡ c.is_giver.result = sym (c.is_giver.ensures ∙ any_found c.args.from w.givers.items) in
    c.new-then-not-is_giver.ensures ∙ ap label_of (c.rights-rights.ensures.same ∙ sym (ap (λ v. cond (here && v) (minus label w.rights) label) (gives ∙ c.if-not-is_giver.true) ∙ not_both here (minus label w.rights) label))

pub returns : goal.returns
returns c =
    let w = c.args.self.now in
    let label = c.args.label in
    let gives : list_any (λ x. x == c.args.from) (names_found w.givers.items) ≡ c.is_giver.result = sym (c.is_giver.ensures ∙ any_found c.args.from w.givers.items) in
    c.new-2.ensures
    ∙ ap label_of (c.minus.ensures ∙ (λ i. minus (c.rights-rights.ensures.same i) (c.rights.ensures.same i))
    ∙ sym (λ i. cond (eq-eqb c.args.to w.target c.if-to-self.false i && (gives ∙ c.if-not-is_giver.false) i) (minus label w.rights) label))
