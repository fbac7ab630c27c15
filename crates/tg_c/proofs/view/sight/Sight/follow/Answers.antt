use Rattle.std.proofs.Common.{◌∙◌, inl, refl, sym}
use Rattle.tg_c.specs.declared.view.sight.ReachedView.{ReachedView}
use Rattle.tg_c.proofs.SightLaws.{sight_follows, sight_still}
use Rattle.tg_c.proofs.view.sight.Sight.follow.Goals as goal

pub returns-in-Ok-clause-told : goal.returns-in-Ok-clause-told
returns-in-Ok-clause-told c =
    let then : ReachedView = record { view = c.follow-followed.new.self; reached = c.in-Some.seen.reached } in
    sight_follows c.args.self.now _ c.in-Some.seen then c.args.edge c.in-Ok.is_followed (sym c.take.ensures.value ∙ c.in-Some.is) refl refl refl (c.joins_seen.ensures.0 c.if-not-joins_seen.false) c.in-Ok.ensures

pub returns-in-Err-clause-refused : goal.returns-in-Err-clause-refused
returns-in-Err-clause-refused c silent g is =
    let then : ReachedView = record { view = c.follow-followed.new.self; reached = c.in-Some.seen.reached } in
    (inl c.into.ensures, sight_still silent g c.args.self.now is _ c.in-Some.seen then (sym c.take.ensures.value ∙ c.in-Some.is) refl refl refl c.in-Err.ensures)
