use Rattle.tgstore.proofs.kept_streams.open_streams.Given as goal

abbrev pub ghosts-open_counted-A-Ledger : goal.ghosts-open_counted-A-Ledger
ghosts-open_counted-A-Ledger g a = record { name = a.blanks.asked.name; parts = a.blanks.asked.parts }

abbrev pub ghosts-open_counted-B-Ledger : goal.ghosts-open_counted-B-Ledger
ghosts-open_counted-B-Ledger g a = record { name = a.blanks.read_failures.name; parts = a.blanks.read_failures.parts }

abbrev pub ghosts-open_counted-F-Ledger : goal.ghosts-open_counted-F-Ledger
ghosts-open_counted-F-Ledger g a = record { name = a.blanks.write_failures.name; parts = a.blanks.write_failures.parts }
