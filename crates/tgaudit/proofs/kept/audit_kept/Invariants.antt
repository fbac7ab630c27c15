use Rattle.tgaudit.proofs.kept.audit_kept.Given as goal

abbrev pub ghosts-audit_named : goal.ghosts-audit_named
ghosts-audit_named a = record { name = a.blank.name; parts = a.blank.parts }
