use Rattle.std.proofs.Common.{ap, refl, subst}
use Rattle.std.specs.Prelude.{IfOk}
use Rattle.std.proofs.lemmas.Result.{IfErr-weaker}
use Rattle.tg_model.specs.declared.command.Deed.{Deed}
use Rattle.tg_shared.specs.Serving.{HasNoted, IsMadeAndNoted, NotesRefusal}
use Rattle.tg_shared.specs.Sessions.{LockedState, reply_made}
use Rattle.tg_shared.proofs.Balances.{locked_as}
use Rattle.tg_shared.proofs.Knowing.{stays_gone}
use Rattle.tg_shared.proofs.Makings.{locked_noted, made_noted, object_not_subject, refusal_noted, rolled_noted, signed_noted}
use Rattle.tg_shared.proofs.Replies.{refusals_same}
use Rattle.tg_shared.proofs.locked.Locked.create.Goals as goal

pub make-requires-clause-out : goal.make-requires-clause-out
make-requires-clause-out g c = stays_gone g.L.Round.start c.self.inside.store c.self.inside.register.roll.signed c.self.invariant.0.3 c.journal.ensures.faithful c.self.invariant.1.grown c.args.session.now

pub invariant_of-self : goal.invariant_of-self
invariant_of-self g c =
    let deed : Deed = Deed.Create c.args.label c.args.draft.law c.args.draft.state in
    let told = c.make.ensures in (
      locked_noted g.L.Round.start c.self.inside.store c.make.new.store c.args.session.now c.make.new.session _ _ _ _ _ _ _ (reply_made c.make.result) told.noted
          (λ none. let nothing = told.nothing none in (nothing.0, ap (λ b. b.book.total) nothing.1)) (λ reply is. refl)
          told.refusals.opening told.refusals.limits told.refusals.handed c.self.invariant.0,
      rolled_noted g.L.Round.start c.self.inside.store c.make.new.store c.args.session.now c.make.new.session c.self.inside.register.roll c.make.new.register.roll c.self.inside.entered deed (reply_made c.make.result) c.self.invariant.1 told.refusals.opening
          (λ reply is. (told.noted reply is).0.entry) told.signed (λ none. let nothing = told.nothing none in (nothing.0.0.entries, ap (λ b. b.roll) nothing.1)),
    )

pub returns-clause-signed : goal.returns-clause-signed
returns-clause-signed g c =
    let deed : Deed = Deed.Create c.args.label c.args.draft.law c.args.draft.state in
    let told = c.make.ensures in
    subst (λ (b : LockedState). HasNoted b (locked_as c.make.new.store c.self.inside.sessions c.self.inside.entered c.make.new.register.roll.signed) c.args.session.now c.make.new.session) c.self.view_is
    (signed_noted (locked_as c.self.inside.store c.self.inside.sessions c.self.inside.entered c.self.inside.register.roll.signed) c.make.new.store c.self.inside.sessions c.self.inside.entered c.args.session.now c.make.new.session c.self.inside.register.roll c.make.new.register.roll deed (reply_made c.make.result) refl
    (λ reply is. (told.noted reply is).0.entry) told.signed (λ none. let nothing = told.nothing none in (nothing.0.0.entries, ap (λ b. b.roll) nothing.1, nothing.0.1.5)))

pub returns-clause-served : goal.returns-clause-served
returns-clause-served g c =
    let deed : Deed = Deed.Create c.args.label c.args.draft.law c.args.draft.state in
    subst (λ (b : LockedState). IfOk c.make.result (IsMadeAndNoted deed c.args.label c.args.draft b.store c.make.new.store c.args.session.now c.make.new.session)) c.self.view_is
    (made_noted deed c.args.label c.args.draft c.self.inside.store c.make.new.store c.args.session.now c.make.new.session c.make.result c.make.ensures.noted c.make.ensures.made)

pub returns-clause-refusals : goal.returns-clause-refusals
returns-clause-refusals g c = refusals_same _ _ _ _ _ _ _ _ (ap (λ (b : LockedState). b.store) c.self.view_is) refl c.make.ensures.refusals

pub returns-clause-noted : goal.returns-clause-noted
returns-clause-noted g c =
    let deed : Deed = Deed.Create c.args.label c.args.draft.law c.args.draft.state in
    subst (λ (b : LockedState). NotesRefusal deed b.store c.make.new.store c.args.session.now c.make.new.session c.make.result) c.self.view_is
    (refusal_noted deed c.self.inside.store c.make.new.store c.args.session.now c.make.new.session c.make.result c.make.ensures.noted c.make.ensures.same_heap (λ none. (c.make.ensures.nothing none).0))

pub returns-clause-no_workers_full : goal.returns-clause-no_workers_full
returns-clause-no_workers_full g c =
    IfErr-weaker c.make.result _ _ (λ refused told why. object_not_subject (told why)) c.make.ensures.too_many
