use Rattle.tgstore.proofs.streams_on.serve_on.Given as goal

abbrev pub ghosts-serve_counted_on-A-Ledger : goal.ghosts-serve_counted_on-A-Ledger
ghosts-serve_counted_on-A-Ledger g a = record { name = a.blanks.asked.name; parts = a.blanks.asked.parts }

abbrev pub ghosts-serve_counted_on-B-Ledger : goal.ghosts-serve_counted_on-B-Ledger
ghosts-serve_counted_on-B-Ledger g a = record { name = a.blanks.read_failures.name; parts = a.blanks.read_failures.parts }

abbrev pub ghosts-serve_counted_on-F-Ledger : goal.ghosts-serve_counted_on-F-Ledger
ghosts-serve_counted_on-F-Ledger g a = record { name = a.blanks.write_failures.name; parts = a.blanks.write_failures.parts }
