use Rattle.tg_shared.specs.Sessions.{ledger_names, start_of_store}
use Rattle.tg_threads.proofs.race.race_opened.Given as goal

abbrev pub ghosts-share-L-Ledger : goal.ghosts-share-L-Ledger
ghosts-share-L-Ledger g a = record { name = a.blanks.sessions.name; parts = a.blanks.sessions.parts }

abbrev pub ghosts-share-L-Round : goal.ghosts-share-L-Round
ghosts-share-L-Round g a = record { start = start_of_store a.opened.store; keeper = ledger_names a.blanks }
