-- The reply is the graph's, and the heap stays, which represents the next one.
use Rattle.std.proofs.Common.{ap, refl, ◌∙◌}
use Rattle.tg_graph.specs.Heap.{content_of}
use Rattle.tg_journal.specs.declared.entry.Entry.{Entry}
use Rattle.tg_store.specs.Counts.{refusal_told}
use Rattle.tg_store.proofs.AnswerLaws.{looked-none, replied-looked}
use Rattle.tg_store.proofs.Apart.{ok_not_err}
use Rattle.tg_store.proofs.answer.look.Goals as goal

pub returns-clause-answered : goal.returns-clause-answered
returns-clause-answered g c = record {
  replied = replied-looked c.args.heap.now c.args.subject.name c.args.command.now c.in_ok-reply.reply c.requires.to_serve.served c.requires.looks c.in_ok-reply.ensures.reply;
  kept = record { limits = refl; refused = tt; worker = λ e. ok_not_err e };
}

pub push-requires : goal.push-requires
push-requires g c = record {
  room = c.requires.to_serve.room;
  told = ap (λ (entry : Entry). refusal_told entry.reply) c.entry_of.ensures ∙ ap refusal_told c.in_ok-copy.ensures
      ∙ looked-none (content_of c.args.heap.now) c.args.subject.name c.args.command.now c.in_ok-reply.reply c.in_ok-reply.ensures.reply;
}
