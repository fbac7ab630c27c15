-- What became of a store that was to go on from one entry.
use Rattle.std.proofs.Common.{[], ◌∷◌, ◌++◌, ℕ}
use Rattle.tg_journal.specs.declared.entry.Entry.{Entry}
use Rattle.tg_journal.specs.History.{IsLegalEntry}
use Rattle.tg_journal.proofs.HistoryLaws.{IsFirstBad-not_legal, IsLegal-push}
use Rattle.tg_store.specs.Origin.{start_at}
use Rattle.tg_store.specs.Store.{IsFaithful, StoreState, graph_of_store}
use Rattle.tg_resume.specs.Resuming.{IsBadAt}

-- the one entry that is bad isn't legal on the graph of a store that is faithful
pub bad_entry : (old : StoreState) (e : Entry) (at : ℕ) → IsFaithful old → IsBadAt (e ∷ []) old at → ¬ IsLegalEntry (graph_of_store old) e
bad_entry old e at faithful bad legal =
    IsFirstBad-not_legal (start_at old.opening) (old.entries ++ e ∷ []) at bad (IsLegal-push (start_at old.opening) old.entries e faithful.legal legal)
