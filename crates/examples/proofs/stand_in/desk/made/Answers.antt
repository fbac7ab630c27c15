-- What the owner has made is its own alone, and what was is still.
use Rattle.std.proofs.Common.{◌≡◌, ℕ, refl, sym, subst}
use Rattle.tg_model.specs.Graph.{ProtectionGraph, IsSound}
use Rattle.tg_model.specs.declared.command.Deed.TheVariants.{Create}
use Rattle.tg_model.specs.declared.command.Deed.{Deed}
use Rattle.tg_model.proofs.NameLaws.{name_is_next}
use Rattle.tg_store.proofs.StandLaws.{sound_of}
use Rattle.tg_store.specs.Store.{StoreState, graph_of_store}
use Rattle.examples.specs.declared.stand_in.desk.TheConstants.{OWNER}
use Rattle.examples.specs.Alone.{IsAlone}
use Rattle.examples.proofs.AloneLaws.{alone-made, alone-step}
use Rattle.examples.proofs.stand_in.desk.made.Goals as goal

pub returns-clause-made : goal.returns-clause-made
returns-clause-made g c = λ which.
    let s : StoreState = c.args.store.now in
    let graph : ProtectionGraph = graph_of_store s in
    let faithful = c.journal.ensures.faithful in
    let sound : IsSound graph = sound_of s faithful in
    let made = c.in_ok-create.ensures.made in
    subst (λ (h : ProtectionGraph). IsAlone which OWNER c.in_ok-create.field-0 h) (sym (made.step graph refl))
    (alone-made which OWNER graph sound c.requires.untaken c.in_ok-create.field-0 c.args.rights c.args.draft.law c.args.draft.state (made.name graph refl))

pub returns-clause-next : goal.returns-clause-next
returns-clause-next g c =
    let graph : ProtectionGraph = graph_of_store c.args.store.now in
    let deed : Deed = Create c.args.rights c.args.draft.law c.args.draft.state in
    (name_is_next graph OWNER deed c.in_ok-create.field-0 (c.in_ok-create.ensures.made.name graph refl)).0

pub returns-clause-kept : goal.returns-clause-kept
returns-clause-kept g c = λ which y alone.
    let graph : ProtectionGraph = graph_of_store c.args.store.now in
    let deed : Deed = Create c.args.rights c.args.draft.law c.args.draft.state in
    subst (λ (h : ProtectionGraph). IsAlone which OWNER y h) (sym (c.in_ok-create.ensures.made.step graph refl))
    (alone-step which OWNER y graph alone OWNER deed (λ same hands. hands))
