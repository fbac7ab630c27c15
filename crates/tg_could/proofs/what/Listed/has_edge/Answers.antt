use Rattle.std.proofs.Common.{◌≡◌, not, refl, sym, ap, ap₂, ◌∙◌, ⊎_elim, subst, eq-eqb}
use Rattle.std.proofs.lemmas.Bool.{false_from_ne_true}
use Rattle.tg_rights.specs.RightSet.{holds_all}
use Rattle.tg_could.specs.Separation.{Stays, sides_against, place_in}
use Rattle.tg_could.specs.Listed.{rights_over}
use Rattle.tg_could.specs.declared.separation.Membership.{Membership}
use Rattle.tg_could.proofs.what.Listed.has_edge.Goals as goal

pub returns : goal.returns
returns c t =
    let s = sides_against c.args.sides.now in
    let e = c.args.edge.now in
    let told : c.contains-told.result ≡ holds_all (rights_over c.args.self.now e.to) e.label =
    c.contains-told.ensures ∙ ap₂ holds_all c.over.ensures c.rights.ensures.same in
    record {
      walks =
          subst (λ (p : Membership). Stays e.label p (place_in s e.to)) c.place_against-from.ensures
          (subst (λ (p : Membership). Stays e.label c.place_against-from.result p) c.place_against.ensures (c.stays.ensures c.if-not-stays.false));
      held = λ at_x. sym told ∙ c.both_imply.ensures c.if-not-both_imply.false (eq-eqb e.from c.args.x at_x) refl;
      got = λ differ helped out.
          sym told
          ∙ c.both_imply-2.ensures c.if-not-both_imply-2.false (ap not (false_from_ne_true c.is_kept.result (λ kept. ⊎_elim differ helped (c.is_kept.ensures kept))))
          (ap not (ap (λ (p : Membership). p.back) c.place_against-from.ensures ∙ out));
      not_given = λ at_x is f.
          c.not_all.ensures.not_all t (eq-eqb e.to c.args.x at_x) (c.has.ensures ∙ is) (ap (λ (p : Membership). p.forward) c.place_against-from.ensures ∙ f);
    }
