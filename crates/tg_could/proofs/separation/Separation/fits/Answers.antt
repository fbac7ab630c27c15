use Rattle.std.proofs.Common.{subst}
use Rattle.tg_could.specs.declared.separation.Membership.{Membership}
use Rattle.tg_could.specs.Separation.{SidesAreApart, Suits, sides_of, place_in}
use Rattle.tg_could.proofs.MarkLaws.{idle-fits, apart-fits, suits-fits}
use Rattle.tg_could.proofs.separation.Separation.fits.Goals as goal

pub returns-then-is_idle : goal.returns-then-is_idle
returns-then-is_idle c t = idle-fits (sides_of c.args.self.now) c.args.question.x c.args.question.right c.args.question.y c.args.edge.now (c.is_idle.ensures c.if-is_idle.true)

pub returns-then-are_apart : goal.returns-then-are_apart
returns-then-are_apart c t =
    let e = c.args.edge.now in
    let apart = c.are_apart.ensures c.if-are_apart.true in
    apart-fits (sides_of c.args.self.now) c.args.question.x c.args.question.right c.args.question.y e
    (subst (λ (p : Membership). SidesAreApart p (place_in (sides_of c.args.self.now) e.to)) c.place-from.ensures
    (subst (λ (p : Membership). SidesAreApart c.place-from.result p) c.place-to.ensures apart.0))
    apart.1

pub returns : goal.returns
returns c t =
    let e = c.args.edge.now in
    let s = sides_of c.args.self.now in
    suits-fits s c.args.question.x c.args.question.right c.args.question.y e
    (subst (λ (p : Membership). Suits p (place_in s e.to) c.args.question.x c.args.question.right c.args.question.y e) c.place-from.ensures
    (subst (λ (p : Membership). Suits c.place-from.result p c.args.question.x c.args.question.right c.args.question.y e) c.place-to.ensures (c.are_fit.ensures t)))
