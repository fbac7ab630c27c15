use Rattle.std.proofs.Common.{◌∙◌, ap, sym, subst}
use Rattle.tg_model.specs.Opened.{label_in}
use Rattle.tg_model.specs.Picture.{IsPictureOf}
use Rattle.tg_journal.specs.History.{graph_after}
use Rattle.tg_past.proofs.ActorLaws.{pictured}
use Rattle.tg_past.proofs.picture_after.Goals as goal

pub returns : goal.returns
returns c = λ g sound picture legal.
    let es = c.args.entries.now in
    let first = c.args.first.now in
    subst (λ p. IsPictureOf p (graph_after g es)) (sym c.new.ensures)
    (pictured g es c.in_ok-edges.edges.items c.in_ok-subjects.field-0 c.limit.result sound legal (picture.limit ∙ sym c.limit.ensures)
    (c.in_ok-edges.ensures g (λ a b. picture.labels a b ∙ ap (λ l. label_in l a b) (sym c.edges.ensures)) legal)
    (c.in_ok-subjects.ensures g picture.subjects picture.made picture.limit legal))
