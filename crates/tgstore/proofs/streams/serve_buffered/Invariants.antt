use Rattle.tgstore.proofs.streams.serve_buffered.Given as goal

abbrev pub ghosts-serve_counted-A-Ledger : goal.ghosts-serve_counted-A-Ledger
ghosts-serve_counted-A-Ledger g a = record { name = a.blanks.asked.name; parts = a.blanks.asked.parts }

abbrev pub ghosts-serve_counted-B-Ledger : goal.ghosts-serve_counted-B-Ledger
ghosts-serve_counted-B-Ledger g a = record { name = a.blanks.read_failures.name; parts = a.blanks.read_failures.parts }

abbrev pub ghosts-serve_counted-F-Ledger : goal.ghosts-serve_counted-F-Ledger
ghosts-serve_counted-F-Ledger g a = record { name = a.blanks.write_failures.name; parts = a.blanks.write_failures.parts }
