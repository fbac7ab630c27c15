use Rattle.std.proofs.Common.{arith, sym, ap, ◌∙◌}
use Rattle.tg_passes.proofs.Rolling.{joins_as, looks_as, splits_as}
use Rattle.tg_passes.proofs.pass.Roll.look.Goals as goal

pub join_seat-requires : goal.join_seat-requires
join_seat-requires g c =
    let i = c.self.invariant in
    let s = c.into_seat-other.ensures in
    (i.2 ∙ sym i.0, s.0 ∙ ap (λ b. b.table_id) c.replace.ensures.value ∙ c.pass.invariant.0 ∙ sym i.0, s.3, omega (arith, i.1), joins_as _ _ _ _ _ _ (ap (λ m. m.0) i.3))

pub load-requires : goal.load-requires
load-requires g c =
    let i = c.self.invariant in
    let j = c.join_seat.ensures in
    (j.0 ∙ i.2 ∙ sym i.0, omega (arith, i.1), looks_as _ _ _ (ap (λ m. m.0.keeps) j.2 ∙ ap (λ m. m.0.keeps) i.3))

pub split_seat-back-requires : goal.split_seat-back-requires
split_seat-back-requires g c =
    let i = c.self.invariant in
    let j = c.join_seat.ensures in
    let l = c.load.ensures in
    (l.0 ∙ j.0 ∙ i.2 ∙ sym i.0, omega (arith, i.1), splits_as _ _)
