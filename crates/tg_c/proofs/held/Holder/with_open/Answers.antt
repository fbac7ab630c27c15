use Rattle.std.proofs.Common.{refl, ◌∙◌, sym, subst}
use Rattle.std.specs.Fn.{FnOnceReturnsAtMut}
use Rattle.tg_c.proofs.held.Holder.with_open.Goals as goal

pub returns : goal.returns
returns g c =
    let gave : FnOnceReturnsAtMut g.F.FnOnce c.args.ask c.deref_mut.result.now c.ask-answer.result c.ask-answer.new.arg2 =
    record { shown = _; shows = refl; left = _; met = c.ask-answer.ensures; leaves = refl } in (
      c.in-Some.ensures.taken.0,
      c.put.ensures.open,
      subst (λ x. FnOnceReturnsAtMut g.F.FnOnce c.args.ask x c.ask-answer.result (g.Self.Holder.opened c.put.new.self)) (c.deref_mut.ensures.value ∙ c.in-Some.ensures.taken.1)
          (subst (λ y. FnOnceReturnsAtMut g.F.FnOnce c.args.ask c.deref_mut.result.now c.ask-answer.result y) (sym c.put.ensures.opened) gave),
    )
