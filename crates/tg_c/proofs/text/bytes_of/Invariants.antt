use Rattle.tg_c.proofs.text.bytes_of.Given as goal

abbrev pub ghosts-bytes_named : goal.ghosts-bytes_named
ghosts-bytes_named a = record { name = a.blank.name; parts = a.blank.parts }
