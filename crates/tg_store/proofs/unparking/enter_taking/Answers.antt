use Rattle.std.proofs.Common.{◌≡◌, ◌∙◌, ◌++◌, ◌∷◌, [], List, ap, append_assoc, arith}
use Rattle.tg_rights.specs.RightSet.{RightSet}
use Rattle.tg_model.specs.declared.command.Command.{Command}
use Rattle.tg_journal.specs.declared.entry.Entry.{Entry}
use Rattle.tg_store.specs.Counts.{refusal_told}
use Rattle.tg_store.specs.Handing.{done_by}
use Rattle.tg_store.specs.Leaving.{removal}
use Rattle.tg_store.specs.Unparking.{take_key_of}
use Rattle.tg_store.proofs.unparking.enter_taking.Goals as goal

-- one entry, more entries, and two entries
in_a_row : (old one more up all takes : List Entry) (first given last : Entry) → one ≡ old ++ first ∷ [] → more ≡ one ++ takes → up ≡ more ++ given ∷ [] → all ≡ up ++ last ∷ []
    → all ≡ old ++ (first ∷ (takes ++ given ∷ last ∷ []))
in_a_row old one more up all takes first given last at_first between at_given at_last =
    at_last ∙ ap (λ es. es ++ last ∷ []) (at_given ∙ ap (λ es. es ++ given ∷ []) (between ∙ ap (λ es. es ++ takes) at_first))
    ∙ append_assoc ((old ++ first ∷ []) ++ takes) (given ∷ []) (last ∷ [])
    ∙ append_assoc (old ++ first ∷ []) takes (given ∷ last ∷ []) ∙ append_assoc old (first ∷ []) (takes ++ given ∷ last ∷ [])

pub push-requires : goal.push-requires
push-requires c = record { room = omega (arith, c.requires.room); told = ap (λ (n : Entry). refusal_told n.reply) c.done_by.ensures }

pub enter_takes-requires : goal.enter_takes-requires
enter_takes-requires c = omega (arith, c.requires.room, c.push.ensures.spare)

pub push-requires-2 : goal.push-requires-2
push-requires-2 c = record { room = omega (arith, c.requires.room, c.push.ensures.spare, c.enter_takes.ensures.spare); told = ap (λ (n : Entry). refusal_told n.reply) c.removal.ensures }

pub push-requires-3 : goal.push-requires-3
push-requires-3 c = record { room = omega (arith, c.requires.room, c.push.ensures.spare, c.enter_takes.ensures.spare, c.push-2.ensures.spare); told = ap (λ (n : Entry). refusal_told n.reply) c.removal-2.ensures }

pub returns-clause-entries : goal.returns-clause-entries
returns-clause-entries c =
    let p = c.args.parking.now in
    let key : c.done_by.result ≡ done_by p.host (take_key_of p) = c.done_by.ensures ∙ ap (λ (k : Command). done_by p.host k) c.take_key.ensures in
    let given_up = c.removal.ensures ∙ ap (λ (s : RightSet). removal p.user (p.account, s)) c.take_alone.ensures in
    in_a_row c.args.journal.now.entries c.push.new.self.entries c.enter_takes.new.journal.entries c.push-2.new.self.entries c.push-3.new.self.entries _ _ _ _
    (c.push.ensures.entries ∙ ap (λ (n : Entry). c.args.journal.now.entries ++ n ∷ []) key)
    c.enter_takes.ensures.entries
    (c.push-2.ensures.entries ∙ ap (λ (n : Entry). c.enter_takes.new.journal.entries ++ n ∷ []) given_up)
    (c.push-3.ensures.entries ∙ ap (λ (n : Entry). c.push-2.new.self.entries ++ n ∷ []) c.removal-2.ensures)
