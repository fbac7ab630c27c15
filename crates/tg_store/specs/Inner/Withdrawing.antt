-- What a withdrawal leaves of a content.
use Rattle.std.specs.Prelude.{ℕ, List}
use Rattle.tg_word.specs.declared.Place.{Place}
use Rattle.tg_rows.specs.Content.{Content}
use Rattle.tg_store.specs.Inner.Reaching.{edges_over, names_found, names_sharing}
use Rattle.tg_store.specs.Withdrawing.{labels_left}
use Rattle.tg_store.specs.declared.store.withdrawal.Withdrawal.{Withdrawal}

-- the content once the rights were given up
abbrev pub content_left : Withdrawal → Content → Content
content_left w c = record c { label = labels_left c.label w.target w.rights (names_found w.givers.items) }

-- which of these vertices then still hold some of the rights over the target
abbrev pub holders_left : Withdrawal → Content → List (ℕ × Place) → List ℕ
holders_left w c vertices = names_sharing w.rights (edges_over (content_left w c).label w.target vertices)
