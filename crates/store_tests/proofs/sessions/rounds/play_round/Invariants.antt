use Rattle.tg_shared.specs.Sessions.{ledger_names, start_in_parts_with_ends}
use Rattle.store_tests.proofs.sessions.rounds.play_round.Given as goal

abbrev pub ghosts-share-L-Ledger : goal.ghosts-share-L-Ledger
ghosts-share-L-Ledger g a = record { name = a.blanks.sessions.name; parts = a.blanks.sessions.parts }

abbrev pub ghosts-share-L-Round : goal.ghosts-share-L-Round
ghosts-share-L-Round g a = record { start = start_in_parts_with_ends a.store; keeper = ledger_names a.blanks }
