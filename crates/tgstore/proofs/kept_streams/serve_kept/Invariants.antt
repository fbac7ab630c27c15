use Rattle.tgstore.proofs.kept_streams.serve_kept.Given as goal

abbrev pub ghosts-serve_kept_counted : goal.ghosts-serve_kept_counted
ghosts-serve_kept_counted g a = record { name = a.blank.name; parts = a.blank.parts }
