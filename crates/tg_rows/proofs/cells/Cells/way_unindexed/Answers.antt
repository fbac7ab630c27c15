use Rattle.std.proofs.Common.{◌≡◌, ◌<◌, None, true, length, nat_eq, sym, subst, ⊎_elim}
use Rattle.std.proofs.lemmas.Bool.{cases_lt, both_ways}
use Rattle.std.specs.Map.{lookup}
use Rattle.tg_space.specs.Rows.{row_of}
use Rattle.tg_rows.specs.Inner.Following.{IsReadyNew}
use Rattle.tg_rows.specs.Rows.{name_at}
use Rattle.tg_rows.specs.declared.indexed_row.IndexedRow.{IndexedRow}
use Rattle.tg_rows.specs.declared.rows.TheConstants.{SHORT}
use Rattle.tg_rows.proofs.IndexedRows.{Entries}
use Rattle.tg_rows.proofs.cells.Cells.way_unindexed.Goals as goal

pub may_get_long-requires : goal.may_get_long-requires
may_get_long-requires g c = record { object = c.requires.row.object; ends = c.requires.row.graph.ends c.args.from c.requires.row.object }

pub returns-then-not-may_get_long-clause-ready : goal.returns-then-not-may_get_long-clause-ready
returns-then-not-may_get_long-clause-ready g c =
    let short : length (row_of c.args.self.now.spaces.spaces c.args.from) < SHORT =
    ⊎_elim (λ low. low)
    (λ high.
    let yes : c.may_get_long.result ≡ true = c.may_get_long.ensures.1 high in
    absurd (both_ways c.may_get_long.result c.if-not-may_get_long.true yes))
    (cases_lt (length (row_of c.args.self.now.spaces.spaces c.args.from)) SHORT) in
    record { none = c.requires.none; short = short }

pub returns-clause-ready : goal.returns-clause-ready
returns-clause-ready g c =
    let made = c.in_ok-row.ensures in
    let ready : IsReadyNew c.args.self.now.spaces.spaces c.reserve.new.self c.args.from c.reserve-2.new.self =
    record {
      none = subst (λ (es : Entries). lookup (nat_eq (name_at c.args.self.now.spaces.spaces c.args.from)) es ≡ None) (sym c.reserve.ensures.entries) c.requires.none;
      spare = c.in_ok-reserve.ensures.room;
      index = c.reserve-2.ensures.kept.kept c.args.self.now.spaces.spaces c.args.from made.index;
      aged = c.reserve-2.ensures.kept.aged made.aged;
      marked = λ places. c.reserve-2.ensures.kept.marked places (made.marked places);
      room = c.in_ok-reserve-2.ensures.room;
    } in
    subst (λ (r : IndexedRow). IsReadyNew c.args.self.now.spaces.spaces c.reserve.new.self c.args.from r) (sym c.in_ok-new.ensures.ok) ready
