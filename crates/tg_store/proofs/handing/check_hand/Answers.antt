-- The take meets the target, and so the grant is of the hand.
use Rattle.std.proofs.Common.{◌≡◌, ◌∙◌, ℕ, ap, refl, subst}
use Rattle.tg_model.specs.declared.command.Command.TheVariants.{Grant}
use Rattle.tg_graph.specs.Heap.{content_of}
use Rattle.tg_rules.specs.Parties.{AreParties, last_named}
use Rattle.tg_store.proofs.HandLaws.{denied_grant}
use Rattle.tg_store.proofs.handing.check_hand.Goals as goal

pub returns-in-Ok-find_receiver-clause-found : goal.returns-in-Ok-find_receiver-clause-found
returns-in-Ok-find_receiver-clause-found g c =
    let h = c.args.hand.now in
    let x = c.args.subject.name in
    let target : c.in-Ok.met.target.name ≡ h.target = c.in-Ok.ensures.found.target_name ∙ ap (last_named x) c.take-take.ensures in
    subst (λ (z : ℕ). AreParties c.args.heap.now x (Grant h.rights h.to z) c.in-Ok-find_receiver.parties) target (c.in-Ok-find_receiver.ensures.found h.rights)

pub returns-in-Err-find_receiver-clause-denied : goal.returns-in-Err-find_receiver-clause-denied
returns-in-Err-find_receiver-clause-denied g c =
    let h = c.args.hand.now in
    let x = c.args.subject.name in
    let target : c.in-Ok.met.target.name ≡ h.target = c.in-Ok.ensures.found.target_name ∙ ap (last_named x) c.take-take.ensures in
    denied_grant (content_of c.args.heap.now) h x c.requires.named c.take-take.result c.take-take.ensures c.in-Ok.met.target.name target c.in-Ok.ensures.denial
    c.grant.result c.grant.ensures c.in-Err-find_receiver.denial (c.in-Err-find_receiver.ensures.denial h.rights) (c.in-Err-find_receiver.ensures.before h.rights c.in-Err-find_receiver.denial refl)
