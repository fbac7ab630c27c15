use Rattle.tg_entries.proofs.stream.read_history.Given as goal

abbrev pub ghosts-audit_named : goal.ghosts-audit_named
ghosts-audit_named g a = record { name = a.blank.name; parts = a.blank.parts }
