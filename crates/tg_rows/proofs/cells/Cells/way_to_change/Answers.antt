use Rattle.std.proofs.Common.{◌≡◌, ◌∙◌, None, nat_eq, refl, sym, subst}
use Rattle.std.proofs.lemmas.Result.{err_from_is_err_and}
use Rattle.std.specs.Map.{lookup}
use Rattle.tg_rows.specs.Inner.Following.{IsReadyAt}
use Rattle.tg_rows.specs.Index.{AreIndexed}
use Rattle.tg_rows.proofs.IndexedRows.{Entries, entries_indexed, looked_indexed, same_after}
use Rattle.tg_rows.proofs.cells.Cells.way_to_change.Goals as goal

pub way_unindexed-requires-clause-none : goal.way_unindexed-requires-clause-none
way_unindexed-requires-clause-none g c = subst (λ n. lookup (nat_eq n) c.young_place.new.self.entries ≡ None) c.name_of-name.ensures (c.in_default.ensures.none refl)

pub returns-in_default : goal.returns-in_default
returns-in_default g c = record {
  rows = record {
    indexed = subst (λ (es : Entries). AreIndexed c.args.self.now.spaces.spaces c.args.self.now.remembered.places es) (sym c.way_unindexed.ensures.entries)
        (λ name row found. c.requires.indexed name row (sym (c.young_place.ensures.same name) ∙ found));
    kept = same_after c.args.rows.now.entries c.young_place.new.self.entries c.way_unindexed.new.rows.entries (looked_indexed c.args.rows.now.entries c.young_place.new.self.entries c.young_place.ensures.same)
        (entries_indexed c.young_place.new.self.entries c.way_unindexed.new.rows.entries c.way_unindexed.ensures.entries);
  };
  ready = c.way_unindexed.ensures.ready;
}

pub returns-in_err-reserve_at : goal.returns-in_err-reserve_at
returns-in_err-reserve_at g c = record {
  rows = record {
    indexed = c.reserve_at.ensures.indexed c.args.self.now.spaces.spaces c.args.self.now.remembered.places (λ name row found. c.requires.indexed name row (sym (c.young_place.ensures.same name) ∙ found));
    kept = same_after c.args.rows.now.entries c.young_place.new.self.entries c.reserve_at.new.self.entries (looked_indexed c.args.rows.now.entries c.young_place.new.self.entries c.young_place.ensures.same) c.reserve_at.ensures.names;
  };
  ready = rw (err_from_is_err_and c.from_residual.result c.from_residual.ensures.1).1 tt;
}

pub returns : goal.returns
returns g c = record {
  rows = record {
    indexed = c.reserve_at.ensures.indexed c.args.self.now.spaces.spaces c.args.self.now.remembered.places (λ name row found. c.requires.indexed name row (sym (c.young_place.ensures.same name) ∙ found));
    kept = same_after c.args.rows.now.entries c.young_place.new.self.entries c.reserve_at.new.self.entries (looked_indexed c.args.rows.now.entries c.young_place.new.self.entries c.young_place.ensures.same) c.reserve_at.ensures.names;
  };
  ready = subst (λ n. IsReadyAt c.reserve_at.new.self n c.in-Some.at) c.name_of-name.ensures c.in_ok-reserve_at.ensures.ready;
}

pub way_unindexed-requires-clause-row : goal.way_unindexed-requires-clause-row
way_unindexed-requires-clause-row g c = record { graph = c.requires.graph; object = c.requires.from }
