use Rattle.tg_plain.proofs.script.Script.read.Given as goal

abbrev pub ghosts-fill-A-Ledger : goal.ghosts-fill-A-Ledger
ghosts-fill-A-Ledger g a = record { name = a.asked.name; parts = a.asked.parts }

abbrev pub ghosts-fill-F-Ledger : goal.ghosts-fill-F-Ledger
ghosts-fill-F-Ledger g a = record { name = a.failures.name; parts = a.failures.parts }
