use Rattle.std.proofs.Common.{◌==◌, inr, length, refl, sym, subst, ap, ◌∙◌, Some, None}
use Rattle.std.proofs.lemmas.Bool.{false≢true}
use Rattle.tg_model.specs.Picture.{Shown}
use Rattle.tg_could.specs.View.{IsViewOf}
use Rattle.tg_could.specs.Reached.{JoinReached}
use Rattle.tg_c.specs.declared.view.sight.ReachedView.{ReachedView}
use Rattle.tg_c.proofs.SightLaws.{none_there, sight_of_nobody, sight_on}
use Rattle.tg_c.proofs.view.sight.Sight.of.Goals as goal

pub returns-then-not-join_reached-clause-refused : goal.returns-then-not-join_reached-clause-refused
returns-then-not-join_reached-clause-refused c g picture =
    inr (refl, λ all. false≢true (sym c.if-not-join_reached.true ∙ (c.join_reached.ensures g picture).1 all))

pub returns-then-is_empty-clause-seen : goal.returns-then-is_empty-clause-seen
returns-then-is_empty-clause-seen c g sound picture =
    let all : JoinReached g c.args.as_if.now = (c.join_reached.ensures g picture).0 c.if-not-join_reached.false in (
      all,
      sight_of_nobody g sound c.args.as_if.now all c.args.picture.now picture c.args.silent.now (record { seen = None; made = c.made-made.result }) c.made-made.ensures refl
          (none_there c.args.picture.now.subjects (ap (λ ns. length ns == 0) (sym c.subjects.ensures) ∙ sym c.is_empty.ensures ∙ c.if-is_empty.true)),
    )

pub returns-clause-seen : goal.returns-clause-seen
returns-clause-seen c g sound picture =
    let seen : ReachedView = record { view = c.in_ok-view.view; reached = c.in_ok-reached.reached } in
    let all : JoinReached g c.args.as_if.now = (c.join_reached.ensures g picture).0 c.if-not-join_reached.false in (
      all,
      sight_on g sound c.args.as_if.now all c.args.picture.now picture c.args.silent.now (record { seen = Some seen; made = c.made-made.result }) c.made-made.ensures seen refl c.in_ok-reached.ensures
          (subst (λ (s : Shown). IsViewOf c.args.silent.now s c.in_ok-view.view) c.in_ok-supposed.ensures c.in_ok-view.ensures),
    )
