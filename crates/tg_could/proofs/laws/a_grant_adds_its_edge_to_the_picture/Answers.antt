use Rattle.std.proofs.Common.{◌==◌, ◌&&◌, ◌∷◌, [], ◌∙◌, ⊎_elim, ap, cond, refl, subst, sym, arith}
use Rattle.tg_rights.specs.RightSet.{RightSet, only, union}
use Rattle.tg_rights.specs.declared.Right.TheVariants.{G}
use Rattle.tg_model.specs.declared.command.Command.TheVariants.{Grant}
use Rattle.tg_model.specs.Picture.{IsPictureOf}
use Rattle.tg_model.proofs.AllowedLaws.{step-allowed}
use Rattle.tg_model.proofs.LabelLaws.{label_in-push}
use Rattle.tg_model.proofs.PictureLaws.{Holds-with_rights}
use Rattle.tg_could.specs.Laws.{edge_with}
use Rattle.tg_could.specs.View.{shown_with}
use Rattle.tg_could.proofs.SeparationLaws.{Holds-each}
use Rattle.tg_could.proofs.laws.a_grant_adds_its_edge_to_the_picture.Goals as goal

pub returns : goal.returns
returns c p g host via target rights picture permits =
    let ends = picture.is_made.ends in
    subst (IsPictureOf (shown_with p (edge_with via target rights ∷ []))) (sym (step-allowed g host (Grant rights via target) permits))
    (record {
      is_made = record {
        subjects = picture.is_made.subjects;
        ends = λ a b q h. ⊎_elim (λ old. ends a b q old)
            (λ (at_a, at_b, is).
            let to_via = (ends host via G (Holds-each g.label host via (only G) permits.3 G refl)).1 in
            let to_target = (ends host target q (Holds-each g.label host target rights permits.4 q is)).1 in
            (omega (arith, at_a, to_via), omega (arith, at_b, to_target)))
            (Holds-with_rights g.label via target rights a q b h);
      };
      subjects = picture.subjects;
      made = picture.made;
      limit = picture.limit;
      labels = λ a b.
          ap (λ (m : RightSet). cond ((a == via) && (b == target)) (union m rights) m) (picture.labels a b)
          ∙ sym (label_in-push p.edges (edge_with via target rights) a b);
    })
