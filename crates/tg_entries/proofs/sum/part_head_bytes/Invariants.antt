use Rattle.tg_entries.proofs.sum.part_head_bytes.Given as goal

abbrev pub ghosts-bytes_named : goal.ghosts-bytes_named
ghosts-bytes_named a = record { name = a.blank.name; parts = a.blank.parts }
