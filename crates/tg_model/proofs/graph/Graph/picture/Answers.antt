use Rattle.std.proofs.Common.{◌≡◌, List, length, sym, ap, ◌∙◌, subst, arith}
use Rattle.tg_model.specs.Picture.{Shown, Holds}
use Rattle.tg_model.specs.declared.edge.Edge.{Edge}
use Rattle.tg_model.specs.Opened.{label_in}
use Rattle.tg_model.specs.Plain.{PlainGraph, IsPlain}
use Rattle.tg_model.proofs.PictureLaws.{pictured}
use Rattle.tg_model.proofs.graph.Graph.picture.Goals as goal

pub returns : goal.returns
returns c =
    let p = c.args.self.now in
    let edges = c.in_ok-edges.ensures in
    let is = c.new.ensures in
    let values : length c.self.inside.values.items ≡ length c.args.self.now.values = ap (λ (p : PlainGraph). length p.values) c.self.view_is in
    let counted : c.len.result ≡ length c.args.self.now.values = omega (arith, c.len.ensures, values) in
    pictured p c.new.result (subst IsPlain c.self.view_is c.self.invariant)
    (ap (λ (s : Shown). s.subjects) is ∙ (c.in_ok-subjects.ensures.items ∙ (c.deref.ensures.value ∙ ap (λ (p : PlainGraph). p.subjects) c.self.view_is)))
    (ap (λ (s : Shown). s.made) is ∙ counted)
    (ap (λ (s : Shown). s.limit) is ∙ ap (λ (p : PlainGraph). p.limit) c.self.view_is)
    (λ a b q below h. subst (λ (l : List Edge). Holds (label_in l) a q b) (sym (ap (λ (s : Shown). s.edges) is)) (edges.all a b q below h))
    (λ a b q h. edges.only a b q (subst (λ (l : List Edge). Holds (label_in l) a q b) (ap (λ (s : Shown). s.edges) is) h))
