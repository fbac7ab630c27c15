use Rattle.std.proofs.Common.{subst, sym}
use Rattle.std.proofs.lemmas.Option.{slice_get_within}
use Rattle.tg_rows.specs.Index.{HasIndexAt, Indexes}
use Rattle.tg_rows.proofs.indexes.LongRows.young_place.Goals as goal

pub make_young-at-requires : goal.make_young-at-requires
make_young-at-requires c =
    let there = c.in_ok-place.ensures.there in
    slice_get_within c.args.self.now.entries c.in_ok-place.place (c.args.name, there.row) there.here

pub returns-clause-there : goal.returns-clause-there
returns-clause-there c =
    subst (λ (s : Indexes). HasIndexAt s.entries c.args.name c.make_young-at.result) (sym c.keep_hint.ensures) (c.make_young-at.ensures.there c.args.name c.in_ok-place.ensures.there)
