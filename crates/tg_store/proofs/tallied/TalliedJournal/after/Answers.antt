-- A listing is no refusal.
use Rattle.std.proofs.Common.{◌∙◌, ap, sym}
use Rattle.tg_store.specs.Counts.{refusals_in}
use Rattle.tg_store.proofs.AgainLaws.{no_refusals}
use Rattle.tg_store.proofs.tallied.TalliedJournal.after.Goals as goal

pub invariant_of-result : goal.invariant_of-result
invariant_of-result c = no_refusals c.args.snapshot.now ∙ sym (ap refusals_in c.after.ensures.entries)
