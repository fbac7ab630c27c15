use Rattle.tg_rules.proofs.LookingLaws.{looks_are, looks_change_nothing}
use Rattle.tg_rules.proofs.laws.looks_are_reads_inspects_and_lists.Goals as goal

pub returns : goal.returns
returns c = record { which = looks_are; nothing = looks_change_nothing }
