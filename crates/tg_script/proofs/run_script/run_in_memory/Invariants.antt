use Rattle.tg_script.proofs.run_script.run_in_memory.Given as goal

abbrev pub ghosts-run_counted-A-Ledger : goal.ghosts-run_counted-A-Ledger
ghosts-run_counted-A-Ledger g a = record { name = a.blanks.asked.name; parts = a.blanks.asked.parts }

abbrev pub ghosts-run_counted-F-Ledger : goal.ghosts-run_counted-F-Ledger
ghosts-run_counted-F-Ledger g a = record { name = a.blanks.failures.name; parts = a.blanks.failures.parts }
