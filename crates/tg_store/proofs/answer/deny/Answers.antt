use Rattle.std.proofs.Common.{ap, subst}
use Rattle.tg_journal.specs.declared.entry.Entry.{Entry}
use Rattle.tg_store.specs.Counts.{refusal_told}
use Rattle.tg_store.specs.Inner.Entering.{Adds}
use Rattle.tg_store.proofs.answer.deny.Goals as goal

pub push_refusal-requires : goal.push_refusal-requires
push_refusal-requires c = record { room = c.requires.room; told = ap (λ (entry : Entry). refusal_told entry.reply) c.entry_of.ensures }

pub returns-clause-entered : goal.returns-clause-entered
returns-clause-entered c = subst (λ (entry : Entry). Adds entry c.args.journal.now c.push_refusal.new.self) c.entry_of.ensures c.push_refusal.ensures
