use Rattle.std.proofs.Common.{◌∙◌, ap, nat_eq, position}
use Rattle.std.specs.Map.{keys_of}
use Rattle.tg_rows.proofs.Ages.{place_there}
use Rattle.tg_rows.specs.Index.{Indexes}
use Rattle.tg_rows.proofs.indexes.LongRows.place.Goals as goal

pub returns-in-None-clause-there : goal.returns-in-None-clause-there
returns-in-None-clause-there c =
    place_there c.args.self.now.entries c.args.name c.get_index_of.result
    (c.get_index_of.ensures.index ∙ ap (λ (s : Indexes). position (nat_eq c.args.name) (keys_of s.entries)) c.self.view_is)
