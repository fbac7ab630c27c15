use Rattle.tg_kept.proofs.lines.end_line.Given as goal

abbrev pub ghosts-end_line_named : goal.ghosts-end_line_named
ghosts-end_line_named a = record { name = a.blank.name; parts = a.blank.parts }
