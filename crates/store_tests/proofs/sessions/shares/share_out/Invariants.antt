use Rattle.tg_shared.specs.Sessions.{ledger_names, start_of_store}
use Rattle.store_tests.proofs.sessions.shares.share_out.Given as goal

abbrev pub ghosts-share-L-Ledger : goal.ghosts-share-L-Ledger
ghosts-share-L-Ledger g a = record { name = a.blanks.sessions.name; parts = a.blanks.sessions.parts }

abbrev pub ghosts-share-L-Round : goal.ghosts-share-L-Round
ghosts-share-L-Round g a = record { start = start_of_store a.store; keeper = ledger_names a.blanks }

abbrev pub ghosts-share-V-Ledger : goal.ghosts-share-V-Ledger
ghosts-share-V-Ledger g a = record { name = a.parts.vertices.name; parts = a.parts.vertices.parts }

abbrev pub ghosts-share-E-Ledger : goal.ghosts-share-E-Ledger
ghosts-share-E-Ledger g a = record { name = a.parts.entries.name; parts = a.parts.entries.parts }
