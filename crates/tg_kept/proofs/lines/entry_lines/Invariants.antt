use Rattle.tg_kept.proofs.lines.entry_lines.Given as goal

abbrev pub ghosts-entry_lines_named : goal.ghosts-entry_lines_named
ghosts-entry_lines_named a = record { name = a.blank.name; parts = a.blank.parts }
