use Rattle.std.proofs.Common.{◌∙◌, List, ap, subst, sym}
use Rattle.tg_journal.specs.declared.entry.Entry.{Entry}
use Rattle.tg_passes.specs.Passes.{BeginsWith, entries_of, own_entries}
use Rattle.tg_passes.proofs.Signing.{begins_entries, own_by_session}
use Rattle.tg_shared.proofs.Knowing.{none_of, since_is}
use Rattle.tg_shared.proofs.laws.a_session_knows_its_own_entries.Goals as goal

pub returns : goal.returns
returns c = λ start all session s grew alone. record {
  own = ap (own_entries session.worker) (since_is start s all grew) ∙ own_by_session session.worker all grew.owned (none_of start s all grew session.worker alone.alone) ∙ alone.sees.own;
  begins = subst (λ (l : List Entry). BeginsWith l (entries_of session.seen)) (sym (since_is start s all grew)) (begins_entries all session.seen alone.sees.front);
}
