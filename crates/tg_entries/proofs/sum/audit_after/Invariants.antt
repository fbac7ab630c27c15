use Rattle.tg_entries.proofs.sum.audit_after.Given as goal

abbrev pub ghosts-audit_named : goal.ghosts-audit_named
ghosts-audit_named g a = record { name = a.blank.name; parts = a.blank.parts }
