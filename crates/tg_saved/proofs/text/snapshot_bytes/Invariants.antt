use Rattle.tg_saved.proofs.text.snapshot_bytes.Given as goal

abbrev pub ghosts-bytes_named : goal.ghosts-bytes_named
ghosts-bytes_named a = record { name = a.blank.name; parts = a.blank.parts }
