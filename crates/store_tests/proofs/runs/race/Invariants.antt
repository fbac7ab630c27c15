use Rattle.store_tests.proofs.runs.race.Given as goal

abbrev pub ghosts-race_counted-A-Ledger : goal.ghosts-race_counted-A-Ledger
ghosts-race_counted-A-Ledger g a = record { name = a.asked.name; parts = a.asked.parts }

abbrev pub ghosts-race_counted-F-Ledger : goal.ghosts-race_counted-F-Ledger
ghosts-race_counted-F-Ledger g a = record { name = a.failures.name; parts = a.failures.parts }
