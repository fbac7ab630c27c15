use Rattle.tg_script.specs.Inner.Supply.{values_left}
use Rattle.tg_script.proofs.RunLaws.{handles_before, makes_before}
use Rattle.tg_script.proofs.telling.ByReplyTelling.run_line.Goals as goal

pub returns-clause-told : goal.returns-clause-told
returns-clause-told g c =
    let old = c.args.run.now in
    let mid = c.give_up_many.new.store in
    let new = c.answer-answer.new.self in
    let l = c.args.numbered.line in
    let a = c.answer-answer.result in
    let values = values_left old.supply in (
      a,
      handles_before old.store mid values old.helpers l a new c.give_up_many.ensures c.answer-answer.ensures.answered,
      makes_before old.store mid values l a new.store c.give_up_many.ensures c.answer-answer.ensures.entered.entry,
      c.write_reply.ensures,
      c.see.ensures,
    )
