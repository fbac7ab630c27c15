use Rattle.std.proofs.Common.{◌≡◌, ◌∙◌, ◌++◌, ◌∷◌, [], List, ap, append_assoc, arith}
use Rattle.tg_rights.specs.RightSet.{RightSet}
use Rattle.tg_model.specs.declared.command.Command.{Command}
use Rattle.tg_journal.specs.declared.entry.Entry.{Entry}
use Rattle.tg_store.specs.Counts.{refusal_told}
use Rattle.tg_store.specs.Handing.{done_by}
use Rattle.tg_store.specs.Leaving.{removal}
use Rattle.tg_store.specs.Parking.{key_of}
use Rattle.tg_store.proofs.parking.enter_filling.Goals as goal

-- one entry, more entries, and one entry
in_a_row : (old one more all puts : List Entry) (first last : Entry) → one ≡ old ++ first ∷ [] → more ≡ one ++ puts → all ≡ more ++ last ∷ [] → all ≡ old ++ (first ∷ (puts ++ last ∷ []))
in_a_row old one more all puts first last at_first between at_last =
    at_last ∙ ap (λ es. es ++ last ∷ []) between ∙ ap (λ es. (es ++ puts) ++ last ∷ []) at_first
    ∙ append_assoc (old ++ first ∷ []) puts (last ∷ []) ∙ append_assoc old (first ∷ []) (puts ++ last ∷ [])

pub push-requires : goal.push-requires
push-requires c = record { room = omega (arith, c.requires.room); told = ap (λ (n : Entry). refusal_told n.reply) c.done_by.ensures }

pub enter_puts-requires : goal.enter_puts-requires
enter_puts-requires c = omega (arith, c.requires.room, c.push.ensures.spare)

pub push-requires-2 : goal.push-requires-2
push-requires-2 c = record { room = omega (arith, c.requires.room, c.push.ensures.spare, c.enter_puts.ensures.spare); told = ap (λ (n : Entry). refusal_told n.reply) c.removal.ensures }

pub returns-clause-entries : goal.returns-clause-entries
returns-clause-entries c =
    let p = c.args.parking.now in
    let key : c.done_by.result ≡ done_by p.host (key_of p) = c.done_by.ensures ∙ ap (λ (k : Command). done_by p.host k) c.key.ensures in
    let given_up = c.removal.ensures ∙ ap (λ (s : RightSet). removal p.user (p.account, s)) c.grant_alone.ensures in
    in_a_row c.args.journal.now.entries c.push.new.self.entries c.enter_puts.new.journal.entries c.push-2.new.self.entries _ _ _
    (c.push.ensures.entries ∙ ap (λ (n : Entry). c.args.journal.now.entries ++ n ∷ []) key)
    c.enter_puts.ensures.entries
    (c.push-2.ensures.entries ∙ ap (λ (n : Entry). c.enter_puts.new.journal.entries ++ n ∷ []) given_up)
