-- The graph answers that it is done, and the heap represents the next one.
use Rattle.std.proofs.Common.{ap}
use Rattle.tg_journal.specs.declared.entry.Entry.{Entry}
use Rattle.tg_store.specs.Counts.{refusal_told}
use Rattle.tg_store.proofs.AnswerLaws.{replied-changed}
use Rattle.tg_store.proofs.Apart.{ok_not_err}
use Rattle.tg_store.proofs.answer.change.Goals as goal

pub returns-clause-answered : goal.returns-clause-answered
returns-clause-answered g c = record {
  replied = replied-changed c.args.heap.now c.change_between.new.heap c.args.subject.name c.args.command.now c.requires.to_serve.served c.requires.changes c.in_ok-change_between.ensures.content c.in_ok-change_between.ensures.subjects;
  kept = record { limits = c.in_ok-change_between.ensures.left.kept.limits; refused = tt; worker = λ e. ok_not_err e };
}

pub push-requires : goal.push-requires
push-requires g c = record { room = c.requires.to_serve.room; told = ap (λ (entry : Entry). refusal_told entry.reply) c.entry_of.ensures }
