use Rattle.std.proofs.Common.{◌≤◌, ℕ, arith, sym, ap, ◌∙◌, subst}
use Rattle.tg_passes.specs.Passes.{RollState}
use Rattle.tg_passes.proofs.Rolling.{issues_as, splits_as}
use Rattle.tg_passes.proofs.pass.Roll.issue.Goals as goal

pub compare_exchange-requires : goal.compare_exchange-requires
compare_exchange-requires g c =
    let i = c.self.invariant in
    (i.2 ∙ sym i.0, omega (arith, i.1), issues_as _ _ _ _ (ap (λ m. m.0.keeps) i.3) (subst (λ (n : ℕ). n ≤ c.args.worker) (sym (ap (λ (r : RollState). r.below) c.self.view_is)) c.requires))

pub split_seat-own-requires : goal.split_seat-own-requires
split_seat-own-requires g c =
    let i = c.self.invariant in
    let l = c.compare_exchange.ensures in
    (l.0 ∙ i.2 ∙ sym i.0, omega (arith, i.1), splits_as _ _)
