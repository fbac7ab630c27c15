use Rattle.std.proofs.Common.{List, subst}
use Rattle.std.specs.List.{All}
use Rattle.std.proofs.lemmas.Bool.{false≢true}
use Rattle.tg_could.specs.View.{IsIn, JoinsEntry}
use Rattle.tg_could.specs.declared.view.entries.PackedEdge.{PackedEdge}
use Rattle.tg_could.proofs.ViewLaws.{entered-stand}
use Rattle.tg_could.proofs.view.Facts.have_all.Goals as goal

pub returns : goal.returns
returns c t =
    let f = c.args.self.now in
    entered-stand f.names f.islands f.incoming c.args.entries.now.list.items c.args.edges.now (c.have_all.ensures c.if-not-have_all.false)
    (subst (λ (es : List PackedEdge). All (JoinsEntry f.islands) es) c.as_slice-list.ensures.value (c.are_joined.ensures c.if-not-are_joined.false))
    (subst (λ (es : List PackedEdge). All (IsIn f.incoming) es) c.as_slice-list.ensures.value (c.has_all.ensures t))

pub returns-then-not-have_all : goal.returns-then-not-have_all
returns-then-not-have_all c t = absurd (false≢true t)

pub returns-then-not-are_joined : goal.returns-then-not-are_joined
returns-then-not-are_joined c t = absurd (false≢true t)
