use Rattle.tg_text.proofs.write.line_bytes.Given as goal

abbrev pub ghosts-bytes_counted : goal.ghosts-bytes_counted
ghosts-bytes_counted a = record { name = a.blank.name; parts = a.blank.parts }
