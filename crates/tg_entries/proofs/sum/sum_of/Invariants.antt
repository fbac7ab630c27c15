use Rattle.tg_entries.proofs.sum.sum_of.Given as goal

abbrev pub ghosts-sum_named : goal.ghosts-sum_named
ghosts-sum_named g a = record { whole = g.R.Read.remaining a.reader }
