use Rattle.tg_entries.proofs.sum.audit_to_head.Given as goal

abbrev pub ghosts-audit_summed : goal.ghosts-audit_summed
ghosts-audit_summed g a = record { whole = g.R.Read.remaining a.reader }
