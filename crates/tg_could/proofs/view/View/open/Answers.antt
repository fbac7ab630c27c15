use Rattle.std.proofs.Common.{◌∙◌, List, ap, append-nil, sym}
use Rattle.tg_model.specs.declared.edge.Edge.{Edge}
use Rattle.tg_could.specs.View.{shown_with}
use Rattle.tg_could.proofs.view.View.open.Goals as goal

pub returns : goal.returns
returns c shown =
    let p = c.args.scene.now.picture.now in
    record {
      opened = p;
      checked = c.is_checked-is_shown.ensures shown;
      is = ap (λ (es : List Edge). record p { edges = es }) (sym (append-nil p.edges)) ∙ ap (shown_with p) (sym c.new-added.ensures.items);
    }
