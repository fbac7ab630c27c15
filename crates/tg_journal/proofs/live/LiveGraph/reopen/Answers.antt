use Rattle.std.proofs.Common.{◌∙◌, ℕ, List, ap, sym, subst, arith}
use Rattle.std.specs.Prelude.{EachIndex}
use Rattle.tg_rights.specs.RightSet.{RightSet, is_none_held}
use Rattle.tg_model.specs.Opened.{label_in}
use Rattle.tg_model.specs.Picture.{Shown}
use Rattle.tg_snapshot.specs.declared.vertex.ShownVertex.{ShownVertex}
use Rattle.tg_snapshot.specs.Snapshot.{ComesAfter, NamePrecedes, value_shown}
use Rattle.tg_journal.proofs.SavingLaws.{listed_target}
use Rattle.tg_journal.proofs.live.LiveGraph.reopen.Goals as goal

pub from_shown-requires : goal.from_shown-requires
from_shown-requires c =
    subst (λ (vs : List ShownVertex). EachIndex vs (ComesAfter NamePrecedes vs)) (sym c.vertices.ensures) (λ k inside. (c.picture-picture.ensures.accepted.vertices k inside).rises)

pub invariant_of-result : goal.invariant_of-result
invariant_of-result c = λ x y edge.
    let p = c.args.snapshot.now in
    let listed = c.in_ok-vertices.ensures.labels ∙ ap label_in (c.edges.ensures ∙ ap (λ (s : Shown). s.edges) c.picture-picture.ensures.picture) in
    let below = listed_target p c.picture-picture.ensures.accepted x y (sym (ap (λ (f : ℕ → ℕ → RightSet). is_none_held (f x y)) listed) ∙ edge) in
    let made = c.made.ensures ∙ ap (λ (s : Shown). s.made) c.picture-picture.ensures.picture in
    omega (arith, below, made)

pub returns-clause-listed : goal.returns-clause-listed
returns-clause-listed c = λ i.
    let shown = c.picture-picture.ensures.picture in
    record {
      subjects = (c.in_ok-subjects.ensures.items ∙ c.subjects.ensures ∙ ap (λ (s : Shown). s.subjects) shown) i;
      made = (c.made.ensures ∙ ap (λ (s : Shown). s.made) shown) i;
      limit = (c.limit.ensures ∙ ap (λ (s : Shown). s.limit) shown) i;
      label = (c.in_ok-vertices.ensures.labels ∙ ap label_in (c.edges.ensures ∙ ap (λ (s : Shown). s.edges) shown)) i;
      value = λ y.
          (ap (λ f. f y) c.in_ok-vertices.ensures.values ∙ c.in_ok-bare.ensures.values y ∙ ap (λ (vs : List ShownVertex). value_shown vs y) c.vertices.ensures) i;
    }
