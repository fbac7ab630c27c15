use Rattle.std.proofs.Common.{◌≡◌, ◌∙◌, inr, subst, sym, ap, is_some}
use Rattle.std.proofs.lemmas.Result.{IfErr-weaker, IfOk-weaker}
use Rattle.tg_model.specs.declared.edge.Edge.{Edge}
use Rattle.tg_c.specs.Forms.{edge_in, label_or_none}
use Rattle.tg_c.specs.View.{SightFollows, IsFollowedIn, IsNotFollowed, IsNotFollowedIn}
use Rattle.tg_c.proofs.view.calls.follow.Goals as goal

pub returns-clause-told : goal.returns-clause-told
returns-clause-told c =
    let old = c.deref_mut.result.now in
    let form = c.args.edge.now in
    let new = c.follow-followed.new.self in
    let edge : Edge = record { from = form.from; to = form.to; label = c.in_ok-label.label } in
    let same : old ≡ c.args.view.now.handle.opened = c.deref_mut.ensures.value ∙ c.in-Some.ensures.taken.1 in
    let read : edge ≡ edge_in form = ap (λ o. record { from = form.from; to = form.to; label = label_or_none o }) (sym c.in_ok-label.ensures.label) in
    IfOk-weaker c.follow-followed.result (SightFollows old edge new) (IsFollowedIn c.args.view.now form c.put.new.self)
    (λ followed is. record {
      met = (ap is_some c.in_ok-label.ensures.label, (c.in-Some.ensures.taken.0, tt));
      view = subst (λ s. SightFollows s (edge_in form) c.put.new.self.handle.opened followed) same
          (subst (λ e. SightFollows old e c.put.new.self.handle.opened followed) read (subst (λ t. SightFollows old edge t followed) (sym c.put.ensures.opened) is));
    })
    c.follow-followed.ensures.told

pub returns-clause-refused : goal.returns-clause-refused
returns-clause-refused c =
    let old = c.deref_mut.result.now in
    let form = c.args.edge.now in
    let new = c.follow-followed.new.self in
    let edge : Edge = record { from = form.from; to = form.to; label = c.in_ok-label.label } in
    let same : old ≡ c.args.view.now.handle.opened = c.deref_mut.ensures.value ∙ c.in-Some.ensures.taken.1 in
    let read : edge ≡ edge_in form = ap (λ o. record { from = form.from; to = form.to; label = label_or_none o }) (sym c.in_ok-label.ensures.label) in
    IfErr-weaker c.follow-followed.result (IsNotFollowed old edge new) (IsNotFollowedIn c.args.view.now form c.put.new.self)
    (λ why is. inr (
      (ap is_some c.in_ok-label.ensures.label, (c.in-Some.ensures.taken.0, tt)),
      subst (λ s. IsNotFollowed s (edge_in form) c.put.new.self.handle.opened why) same
          (subst (λ e. IsNotFollowed old e c.put.new.self.handle.opened why) read (subst (λ t. IsNotFollowed old edge t why) (sym c.put.ensures.opened) is)),
    ))
    c.follow-followed.ensures.refused
