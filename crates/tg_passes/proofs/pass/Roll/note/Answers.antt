use Rattle.std.proofs.Common.{◌≡◌, true, arith, sym, ap, ◌∙◌, subst}
use Rattle.tg_passes.specs.declared.signed.Maker.{Maker}
use Rattle.tg_passes.specs.declared.pass.View.{View}
use Rattle.tg_passes.specs.Passes.{MayMake, PassState, pass_of, pass_view}
use Rattle.tg_passes.proofs.Rolling.{joins_as, notes_as, only_one, splits_as}
use Rattle.tg_passes.proofs.pass.Roll.note.Goals as goal

pub join_seat-requires : goal.join_seat-requires
join_seat-requires g c =
    let i = c.self.invariant in
    let s = c.into_seat-other.ensures in
    (i.2 ∙ sym i.0, s.0 ∙ ap (λ b. b.table_id) c.replace.ensures.value ∙ c.pass.invariant.0 ∙ sym i.0, s.3, omega (arith, i.1), joins_as _ _ _ _ _ _ (ap (λ m. m.0) i.3))

pub compare_exchange_with-requires : goal.compare_exchange_with-requires
compare_exchange_with-requires g c =
    let i = c.self.invariant in
    let s = c.into_seat-other.ensures in
    let j = c.join_seat.ensures in
    let p : PassState = pass_of c.pass.inside.badge.views in
    let mine : c.into_seat-other.result.me.0 ≡ pass_view p = only_one _ _ _ _ s.2 (ap (λ b. b.views) c.replace.ensures.value) c.pass.invariant.1 in
    let acts : c.join_seat.new.seat.me.0.acts ≡ true = ap (λ m. m.0.acts) j.2 ∙ ap (λ (v : View). v.acts) mine in
    let maker : (pass_of c.pass.inside.badge.views).maker ≡ c.join_seat.new.seat.me.0.maker = sym (ap (λ (v : View). v.maker) mine) ∙ sym (ap (λ m. m.0.maker) j.2) in
    let may : MayMake c.join_seat.new.seat.me.0.maker c.args.entry.now = subst (λ (m : Maker). MayMake m c.args.entry.now) maker (subst (λ (x : PassState). MayMake x.maker c.args.entry.now) (sym c.pass.view_is) c.requires) in
    (j.0 ∙ i.2 ∙ sym i.0, omega (arith, i.1), notes_as _ _ _ _ (ap (λ m. m.0.keeps) j.2 ∙ ap (λ m. m.0.keeps) i.3) acts may)

pub split_seat-back-requires : goal.split_seat-back-requires
split_seat-back-requires g c =
    let i = c.self.invariant in
    let j = c.join_seat.ensures in
    let l = c.compare_exchange_with.ensures in
    (l.0 ∙ j.0 ∙ i.2 ∙ sym i.0, omega (arith, i.1), splits_as _ _)
