use Rattle.std.proofs.Common.{◌≡◌, ◌∙◌, [], ◌∷◌, ℕ, List, ap, append_assoc, subst, sym}
use Rattle.tg_model.specs.declared.edge.Edge.{Edge}
use Rattle.tg_model.specs.Picture.{Shown}
use Rattle.tg_could.specs.Reached.{JoinsMade}
use Rattle.tg_could.specs.View.{shown_with}
use Rattle.tg_could.proofs.view.View.follow.Goals as goal

pub returns : goal.returns
returns c = (
  c.takes.ensures.joins c.if-not-takes.false,
  λ silent p view.
      let since = view (c.takes.ensures.shown c.if-not-takes.false) in
      let opened = since.opened in
      let last : List Edge = c.args.edge ∷ [] in
      let made : opened.made ≡ p.made = ap (λ (s : Shown). s.made) (sym since.is) in (
        subst (λ (m : ℕ). JoinsMade m c.args.edge) (since.checked.made ∙ made) (c.takes.ensures.made c.if-not-takes.false),
        λ shown. record {
          opened = opened;
          checked = since.checked;
          is =
              ap (λ (s : Shown). shown_with s last) since.is
              ∙ ap (λ (es : List Edge). record opened { edges = es }) (append_assoc opened.edges c.args.self.now.added.items last)
              ∙ ap (shown_with opened) (sym c.in_ok-push.ensures.items);
        },
      ),
)
