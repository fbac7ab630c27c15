use Rattle.std.proofs.Common.{List, refl, subst, ◌∙◌}
use Rattle.std.specs.List.{flat_map}
use Rattle.tg_journal.specs.declared.entry.Entry.{Entry}
use Rattle.tg_entries.specs.Texts.{entry_text}
use Rattle.tg_script.specs.Entering.{entered}
use Rattle.tg_script.specs.Inner.Run.{IsAsBefore}
use Rattle.tg_script.specs.Inner.Supply.{values_left}
use Rattle.tg_text.specs.Sinks.{Writes}
use Rattle.tg_script.proofs.EnteringLaws.{held_since}
use Rattle.tg_script.proofs.RunLaws.{handles_before, makes_before}
use Rattle.tg_script.proofs.telling.ByEntryTelling.run_line.Goals as goal

-- What the journal holds after the line is what the line made.
pub returns-clause-told : goal.returns-clause-told
returns-clause-told g c =
    let s = g.K.Sink in
    let old = c.args.run.now in
    let mid = c.give_up_entries.new.store in
    let new = c.answer-answer.new.self in
    let l = c.args.numbered.line in
    let a = c.answer-answer.result in
    let values = values_left old.supply in
    let out = c.give_up_entries.ensures in
    let before : IsAsBefore old.store mid = record { entries = out.entries; opening = out.opening } in
    let made = makes_before old.store mid values l a new.store before c.answer-answer.ensures.entered.entry in
    let held = c.entries.ensures ∙ held_since old.store.entries (entered l a values) c.journal.result.now.entries c.journal.result.now.start
    (c.journal.ensures.entries ∙ made.entries) (c.journal.ensures.start ∙ c.answer-answer.ensures.entered.held refl ∙ out.handed) in (
      a,
      handles_before old.store mid values old.helpers l a new before c.answer-answer.ensures.answered,
      made,
      subst (λ (es : List Entry). Writes (s.taken c.args.sink.now) (s.failures c.args.sink.now) (flat_map entry_text es) c.write_entries.result (s.taken c.write_entries.new.sink) (s.failures c.write_entries.new.sink))
          held c.write_entries.ensures,
      c.see.ensures,
    )
