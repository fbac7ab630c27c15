use Rattle.tg_lasting.proofs.part.reply_to.Given as goal

abbrev pub ghosts-reply_counted-A-Ledger : goal.ghosts-reply_counted-A-Ledger
ghosts-reply_counted-A-Ledger g a = record { name = a.blanks.asked.name; parts = a.blanks.asked.parts }

abbrev pub ghosts-reply_counted-F-Ledger : goal.ghosts-reply_counted-F-Ledger
ghosts-reply_counted-F-Ledger g a = record { name = a.blanks.failures.name; parts = a.blanks.failures.parts }
