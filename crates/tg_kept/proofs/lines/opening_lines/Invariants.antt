use Rattle.tg_kept.proofs.lines.opening_lines.Given as goal

abbrev pub ghosts-opening_lines_named : goal.ghosts-opening_lines_named
ghosts-opening_lines_named a = record { name = a.blank.name; parts = a.blank.parts }
