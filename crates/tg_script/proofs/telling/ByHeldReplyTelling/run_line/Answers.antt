use Rattle.std.proofs.Common.{refl}
use Rattle.tg_script.proofs.telling.ByHeldReplyTelling.run_line.Goals as goal

pub returns : goal.returns
returns g c = record {
  told = (c.answer-answer.result, c.answer-answer.ensures.answered, c.answer-answer.ensures.entered.entry, c.write_reply.ensures, c.see.ensures);
  held = λ all. c.answer-answer.ensures.entered.held refl;
}
