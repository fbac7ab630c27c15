use Rattle.tg_kept.proofs.read.text_of.Given as goal

abbrev pub ghosts-text_named : goal.ghosts-text_named
ghosts-text_named a = record { name = a.blank.name; parts = a.blank.parts }
