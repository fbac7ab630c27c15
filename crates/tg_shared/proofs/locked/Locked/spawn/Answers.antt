use Rattle.std.proofs.Common.{◌≡◌, ◌≢◌, ◌<◌, ◌≤◌, ◌∙◌, ◌+◌, ◌++◌, ◌∷◌, [], ℕ, List, false, length, Err, add-zero, ap, arith, refl, subst, sym}
use Rattle.std.proofs.lemmas.Result.{err_from_is_err_and}
use Rattle.tg_model.specs.declared.command.Deed.{Deed}
use Rattle.tg_model.specs.declared.reply.Reply.{Reply}
use Rattle.tg_store.specs.Made.{MayRefuse}
use Rattle.tg_store.specs.Store.{Enters, StoreState, graph_of_store}
use Rattle.tg_shared.specs.declared.session.Session.{Session}
use Rattle.tg_shared.specs.Serving.{HasNoted, IsMadeAndNoted, NotesRefusal, RefusesCrowd}
use Rattle.tg_shared.specs.Sessions.{LockedState, made_subject}
use Rattle.tg_journal.specs.declared.entry.Entry.{Entry}
use Rattle.tg_store.proofs.StandLaws.{sound_of}
use Rattle.tg_passes.specs.declared.signed.Maker.{Maker}
use Rattle.tg_passes.specs.declared.signed.Maker.TheVariants as maker
use Rattle.tg_passes.specs.declared.signed.Signed.{Signed}
use Rattle.tg_passes.specs.Passes.{PassState, RollState, entries_by, sign}
use Rattle.tg_passes.proofs.Signing.{by_append, by_other}
use Rattle.tg_shared.proofs.Balances.{balanced_spawned, goes_on_more, grown, locked_as, made_more, made_named, named_next, part_left, parts_left, within_word}
use Rattle.tg_shared.proofs.Knowing.{none_named, noted_as, one_own, rolled_issued, rolled_more, stays_gone}
use Rattle.tg_shared.proofs.Makings.{entered_as, locked_noted, refused_noted, rolled_noted, signed_noted}
use Rattle.tg_shared.proofs.Replies.{crowd_none, refusals_made, refusals_none, refusals_same}
use Rattle.tg_shared.proofs.locked.Locked.spawn.Goals as goal

bound_next : (now before name made : ℕ) → now ≡ before → before ≤ made → name ≡ made → now ≤ name
bound_next now before name made same low is = omega arith

one_more : (sessions made next : ℕ) → sessions ≡ made → next ≡ made + 1 → sessions + 1 ≡ next
one_more sessions made next is more = omega arith

pub invariant_of-self : goal.invariant_of-self
invariant_of-self g c =
    let deed : Deed = Deed.Spawn c.args.label c.args.draft.law c.args.draft.state in
    let told = c.in_err-name.ensures in (
      locked_noted g.L.Round.start c.self.inside.store c.make.new.store c.args.session.now c.make.new.session _ _ _ _ _ _ deed _ told.noted
          (λ none. let same = told.nothing none in (same.0, ap (λ b. b.book.total) same.1)) (λ reply is. entered_as (λ r. made_subject deed r ≡ false) _ reply is (λ _. refl) (λ _. refl))
          told.refusals.opening told.refusals.limits told.refusals.handed c.self.invariant.0,
      rolled_noted g.L.Round.start c.self.inside.store c.make.new.store c.args.session.now c.make.new.session c.self.inside.register.roll c.make.new.register.roll c.self.inside.entered deed _ c.self.invariant.1 told.refusals.opening
          (λ reply is. (told.noted reply is).0.entry) told.signed (λ none. let same = told.nothing none in (same.0.0.entries, ap (λ b. b.roll) same.1)),
    )

pub make-requires-clause-out : goal.make-requires-clause-out
make-requires-clause-out g c = stays_gone g.L.Round.start c.self.inside.store c.self.inside.register.roll.signed c.self.invariant.0.3 c.journal.ensures.faithful c.self.invariant.1.grown c.args.session.now

pub returns-in_err-name-clause-signed : goal.returns-in_err-name-clause-signed
returns-in_err-name-clause-signed g c =
    let deed : Deed = Deed.Spawn c.args.label c.args.draft.law c.args.draft.state in
    let told = c.in_err-name.ensures in
    subst (λ (b : LockedState). HasNoted b (locked_as c.make.new.store c.self.inside.sessions c.self.inside.entered c.make.new.register.roll.signed) c.args.session.now c.make.new.session) c.self.view_is
    (signed_noted (locked_as c.self.inside.store c.self.inside.sessions c.self.inside.entered c.self.inside.register.roll.signed) c.make.new.store c.self.inside.sessions c.self.inside.entered c.args.session.now c.make.new.session c.self.inside.register.roll c.make.new.register.roll deed _ refl
    (λ reply is. (told.noted reply is).0.entry) told.signed (λ none. let nothing = told.nothing none in (nothing.0.0.entries, ap (λ b. b.roll) nothing.1, nothing.0.1.5)))

pub returns-clause-signed : goal.returns-clause-signed
returns-clause-signed g c =
    let told = c.in_ok-name.ensures in
    let entered : ℕ = c.self.inside.entered in
    subst (λ (b : LockedState). HasNoted b (locked_as c.make.new.store (c.self.inside.sessions + 1) entered c.issue-pass.new.self.signed) c.args.session.now c.make.new.session) c.self.view_is
    (subst (λ (l : List Signed). HasNoted (locked_as c.self.inside.store c.self.inside.sessions entered c.self.inside.register.roll.signed) (locked_as c.make.new.store (c.self.inside.sessions + 1) entered l) c.args.session.now c.make.new.session) (sym c.issue-pass.ensures.signed)
    (noted_as (locked_as c.self.inside.store c.self.inside.sessions entered c.self.inside.register.roll.signed) c.make.new.store (c.self.inside.sessions + 1) entered c.args.session.now c.make.new.session c.self.inside.register.roll c.make.new.register.roll _ refl
    (told.noted (Reply.Name c.in_ok-name.name) refl).0.entry (told.signed (Reply.Name c.in_ok-name.name) refl)))

pub issue-pass-requires : goal.issue-pass-requires
issue-pass-requires g c =
    let told = c.in_ok-name.ensures in
    let noted = told.noted (Reply.Name c.in_ok-name.name) refl in
    let rolled = told.signed (Reply.Name c.in_ok-name.name) refl in
    let next = named_next c.self.inside.store c.make.new.store (length g.L.Round.start.entries) c.self.inside.sessions c.self.inside.register.book.total c.self.inside.rest.parts g.L.Ledger.parts _ _ c.args.label c.args.draft.law c.args.draft.state c.self.invariant.0.0 noted.0.entry (told.made.name (graph_of_store c.self.inside.store) refl) told.refusals.opening in
    bound_next c.make.new.register.roll.below c.self.inside.register.roll.below c.in_ok-name.name (graph_of_store c.self.inside.store).made (ap (λ (r : RollState). r.below) rolled.roll) c.self.invariant.1.below next

pub returns-clause-fresh_seen : goal.returns-clause-fresh_seen
returns-clause-fresh_seen g c = c.new.ensures.seen ∙ ap (λ (p : PassState). p.seen) c.issue-pass.ensures.pass ∙ sym c.issue-pass.ensures.signed

pub split_off-share-requires-clause-has_parts : goal.split_off-share-requires-clause-has_parts
split_off-share-requires-clause-has_parts g c =
    part_left c.self.inside.store (length g.L.Round.start.entries) c.self.inside.sessions c.self.inside.register.book.total c.self.inside.rest.parts g.L.Ledger.parts c.self.invariant.0.0 c.journal.ensures.faithful

pub split_off-share-requires-clause-left_backed : goal.split_off-share-requires-clause-left_backed
split_off-share-requires-clause-left_backed g c = λ last.
    let told = c.in_ok-name.ensures in
    absurd
    (parts_left c.self.inside.store c.make.new.store _ _ _ _ _ _ _ c.args.label c.args.draft.law c.args.draft.state c.self.invariant.0.0 (told.noted (Reply.Name c.in_ok-name.name) refl).0.entry (told.made.name (graph_of_store c.self.inside.store) refl) told.refusals.opening c.journal.ensures.faithful last)

at_least : (name made : ℕ) → name ≡ made → made ≤ name
at_least name made is = omega arith

abbrev name_of : Maker → ℕ
name_of (maker.Session worker) = worker
name_of maker.Keeper = 0

name_in : {v w : ℕ} → maker.Session v ≡ maker.Session w → v ≡ w
name_in same = ap name_of same

-- the session of a vertex that is made next made none of the entries up to its making
unnamed_more : (worker name : ℕ) (all next : List Signed) (e : Entry) → worker ≢ name → entries_by (maker.Session name) all ≡ [] → next ≡ all ++ sign (maker.Session worker) e ∷ [] → entries_by (maker.Session name) next ≡ []
unnamed_more worker name all next e apart none is =
    ap (entries_by (maker.Session name)) is ∙ by_append (maker.Session name) all (sign (maker.Session worker) e ∷ [])
    ∙ (λ i. none i ++ by_other (maker.Session worker) (maker.Session name) e (λ same. apart (name_in same)) i)

not_next : (worker name made : ℕ) → worker < made → name ≡ made → worker ≢ name
not_next worker name made low is same = omega arith

pub new-requires : goal.new-requires
new-requires g c =
    let limit = c.journal.ensures.faithful.origin.plan.limits.1 in
    let old : StoreState = c.self.inside.store in
    let graph = graph_of_store old in
    let told = c.in_ok-name.ensures in
    let noted = told.noted (Reply.Name c.in_ok-name.name) refl in
    let next : c.in_ok-name.name ≡ graph.made = named_next old c.make.new.store (length g.L.Round.start.entries) c.self.inside.sessions c.self.inside.register.book.total c.self.inside.rest.parts g.L.Ledger.parts _ _ c.args.label c.args.draft.law c.args.draft.state c.self.invariant.0.0 noted.0.entry (told.made.name graph refl) told.refusals.opening in
    let apart : c.args.session.now.worker ≢ c.in_ok-name.name = λ same. (told.refusals.no_such_worker graph refl).1
    (λ here. not_next c.args.session.now.worker c.in_ok-name.name graph.made ((sound_of old c.journal.ensures.faithful).subjects_made c.args.session.now.worker here) next same) in
    let none : entries_by (maker.Session c.in_ok-name.name) c.self.inside.register.roll.signed ≡ [] =
    none_named g.L.Round.start old c.self.inside.register.roll.signed c.self.invariant.0.3 c.journal.ensures.faithful c.self.invariant.1.grown c.in_ok-name.name (at_least c.in_ok-name.name graph.made next) in
    let seen : c.issue-pass.result.seen ≡ c.make.new.register.roll.signed = ap (λ (p : PassState). p.seen) c.issue-pass.ensures.pass in
    record {
      share = (c.split_off-share.ensures.parts, c.split_off-share.ensures.amount, within_word c.self.inside.store.opening.plan.limit g.L.Ledger.parts limit c.self.invariant.0.0.enough);
      pass = (
        ap (λ (p : PassState). p.maker) c.issue-pass.ensures.pass,
        ap (λ (p : PassState). p.made) c.issue-pass.ensures.pass,
        ap (entries_by (maker.Session c.in_ok-name.name)) seen
            ∙ unnamed_more c.args.session.now.worker c.in_ok-name.name c.self.inside.register.roll.signed c.make.new.register.roll.signed _ apart none (ap (λ (r : RollState). r.signed) (told.signed (Reply.Name c.in_ok-name.name) refl).roll),
      );
    }

pub invariant_of-self-2 : goal.invariant_of-self-2
invariant_of-self-2 g c =
    let told = c.in_ok-name.ensures in
    let deed : Deed = Deed.Spawn c.args.label c.args.draft.law c.args.draft.state in
    let noted = told.noted (Reply.Name c.in_ok-name.name) refl in
    let entry : Enters c.self.inside.store c.make.new.store c.args.session.now.worker deed (Reply.Name c.in_ok-name.name) = noted.0.entry in (
      (
        balanced_spawned c.self.inside.store c.make.new.store _ _ _ _ _ _ _ c.args.label c.args.draft.law c.args.draft.state c.self.invariant.0.0 entry (told.made.name (graph_of_store c.self.inside.store) refl) told.refusals.opening _ _ noted.1 c.split_off-share.ensures.parts_left,
        c.self.invariant.0.1,
        (sym (add-zero c.split_off-share.new.self.amount) ∙ c.split_off-share.ensures.amount_left ∙ c.self.invariant.0.2.0, c.self.invariant.0.2.1 ∙ sym told.refusals.handed),
        goes_on_more c.self.inside.store c.make.new.store _ entry told.refusals.opening g.L.Round.start c.self.invariant.0.3 told.refusals.limits (λ _. told.refusals.handed),
        one_more c.self.inside.sessions _ _ c.self.invariant.0.4 (made_more g.L.Round.start c.self.inside.store c.make.new.store c.args.session.now.worker deed (Reply.Name c.in_ok-name.name) entry (grown g.L.Round.start c.self.inside.store c.self.invariant.0.3)),
      ),
      rolled_issued g.L.Round.start c.make.new.store c.make.new.register.roll c.issue-pass.new.self c.self.inside.entered c.in_ok-name.name
          (rolled_more g.L.Round.start c.self.inside.store c.make.new.store c.self.inside.register.roll c.make.new.register.roll c.args.session.now.worker c.self.inside.entered _ c.self.invariant.1 entry told.refusals.opening (one_own c.args.session.now.worker _ refl) (told.signed (Reply.Name c.in_ok-name.name) refl).roll)
          c.issue-pass.ensures.signed c.issue-pass.ensures.below
          (made_named c.self.inside.store c.make.new.store (length g.L.Round.start.entries) c.self.inside.sessions c.self.inside.register.book.total c.self.inside.rest.parts g.L.Ledger.parts _ _ c.args.label c.args.draft.law c.args.draft.state c.self.invariant.0.0 entry (told.made.name (graph_of_store c.self.inside.store) refl) told.refusals.opening),
    )

pub returns-clause-entered : goal.returns-clause-entered
returns-clause-entered g c = ap (λ (b : LockedState). b.entered) c.self.view_is

pub returns-clause-one_more : goal.returns-clause-one_more
returns-clause-one_more g c = ap (λ (b : LockedState). b.sessions + 1) c.self.view_is

pub returns-clause-crowded : goal.returns-clause-crowded
returns-clause-crowded g c = record {
  too_many = λ _ _. tt;
  crowded = λ graph stands. (c.in_ok-name.ensures.crowded refl).crowded graph (ap (λ (b : LockedState). graph_of_store b.store) c.self.view_is ∙ stands);
}

pub returns-in_err-name-clause-crowded : goal.returns-in_err-name-clause-crowded
returns-in_err-name-clause-crowded g c =
    let given = err_from_is_err_and c.from_residual.result c.from_residual.ensures.1 in
    subst (RefusesCrowd {P = g.row.P.Denot} {T = Session g.row.L.Denot} c.args.session.now.worker c.args.self.now.store) (sym (given.1 ∙ ap Err given.2))
    (subst (λ (b : LockedState). RefusesCrowd {P = g.row.P.Denot} {T = Session g.row.L.Denot} c.args.session.now.worker b.store (Err c.in_err-name.field-0.0)) c.self.view_is (crowd_none _ _ _ (c.in_err-name.ensures.crowded refl)))

pub returns-in_err-name-clause-refusals : goal.returns-in_err-name-clause-refusals
returns-in_err-name-clause-refusals g c =
    let deed : Deed = Deed.Spawn c.args.label c.args.draft.law c.args.draft.state in
    let given = err_from_is_err_and c.from_residual.result c.from_residual.ensures.1 in
    let here : MayRefuse {P = g.row.P.Denot} {T = Session g.row.L.Denot} deed c.args.session.now.worker c.args.draft c.args.self.now.store c.make.new.store (Err c.in_err-name.field-0.0) =
    refusals_none _ _ _ _ _ _ (refusals_same _ _ _ _ _ _ _ _ (ap (λ (b : LockedState). b.store) c.self.view_is) refl c.in_err-name.ensures.refusals) in
    subst (MayRefuse {P = g.row.P.Denot} {T = Session g.row.L.Denot} deed c.args.session.now.worker c.args.draft c.args.self.now.store c.make.new.store) (sym (given.1 ∙ ap Err given.2)) here

pub returns-in_err-name-clause-noted : goal.returns-in_err-name-clause-noted
returns-in_err-name-clause-noted g c =
    let deed : Deed = Deed.Spawn c.args.label c.args.draft.law c.args.draft.state in
    let given = err_from_is_err_and c.from_residual.result c.from_residual.ensures.1 in
    let told = c.in_err-name.ensures in
    subst (NotesRefusal {P = g.row.P.Denot} {T = Session g.row.L.Denot} deed c.args.self.now.store c.make.new.store c.args.session.now c.make.new.session) (sym (given.1 ∙ ap Err given.2))
    (subst (λ (b : LockedState). NotesRefusal {P = g.row.P.Denot} {T = Session g.row.L.Denot} deed b.store c.make.new.store c.args.session.now c.make.new.session (Err c.in_err-name.field-0.0)) c.self.view_is
    (refused_noted deed c.self.inside.store c.make.new.store c.args.session.now c.make.new.session c.in_err-name.field-0.0 told.noted told.same_heap (λ none. (told.nothing none).0)))

pub returns-clause-served : goal.returns-clause-served
returns-clause-served g c =
    let deed : Deed = Deed.Spawn c.args.label c.args.draft.law c.args.draft.state in
    let told = c.in_ok-name.ensures in
    let served : StoreState → ℕ → Type 0 = λ s name. IsMadeAndNoted deed c.args.label c.args.draft s c.make.new.store c.args.session.now c.make.new.session name in (
      c.new.ensures.fresh,
      subst (served c.args.self.now.store) (sym c.new.ensures.worker)
          (subst (λ (b : LockedState). served b.store c.in_ok-name.name) c.self.view_is (record { entry = (told.noted (Reply.Name c.in_ok-name.name) refl).0; made = told.made })),
    )

pub returns-clause-refusals : goal.returns-clause-refusals
returns-clause-refusals g c =
    refusals_made _ _ _ _ _ c.in_ok-name.name c.new.result
    (refusals_same _ _ _ _ _ _ _ _ (ap (λ (b : LockedState). b.store) c.self.view_is) refl c.in_ok-name.ensures.refusals)
