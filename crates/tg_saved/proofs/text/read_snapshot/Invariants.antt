use Rattle.tg_saved.proofs.text.read_snapshot.Given as goal

abbrev pub ghosts-read_named : goal.ghosts-read_named
ghosts-read_named a = record { name = a.blank.name; parts = a.blank.parts }
