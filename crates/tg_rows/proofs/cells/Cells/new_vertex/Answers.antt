use Rattle.std.proofs.Common.{◌≡◌, Option, true, refl, sym, subst}
use Rattle.tg_word.specs.declared.Place.{Place}
use Rattle.tg_rows.specs.Inner.Following.{IsRowPut}
use Rattle.tg_rows.specs.Index.{MayIndex, indexed_in}
use Rattle.tg_rows.specs.Rows.{name_at}
use Rattle.tg_rows.proofs.Following.{ready_way}
use Rattle.tg_rows.proofs.IndexedRows.{change_refused, may_index_after}
use Rattle.std.proofs.lemmas.Result.{err_from_is_err_and}
use Rattle.tg_rows.proofs.Results.{memory_or_full}
use Rattle.tg_rows.proofs.cells.Cells.new_vertex.Goals as goal

pub follow-requires : goal.follow-requires
follow-requires g c =
    let t = c.args.self.now.spaces in
    let new = c.put_vertex.new.self.spaces in
    let places = c.args.self.now.remembered.places in
    let later = c.put_vertex.new.self.remembered.places in
    let spot = c.spot_for_new-spot.result in
    record {
      old = t;
      payloads = c.args.self.now.payloads;
      places = places;
      table = c.spot_for_new-spot.ensures.table;
      graph = c.requires.row.graph;
      object = c.requires.row.from;
      indexed = c.way_to_change.ensures.rows.indexed;
      looked = c.in-Ok.ensures.ready;
      put = subst (λ (o : Option Place). IsRowPut t new places later c.args.from c.args.vertex.name spot o) (sym c.note-note.ensures) c.in_ok-to.ensures.put;
    }

pub spot_for_new-spot-requires : goal.spot_for_new-spot-requires
spot_for_new-spot-requires g c = record {
  row = record {
    graph = c.requires.row.graph;
    from = c.requires.row.from;
    indexed = c.way_to_change.ensures.rows.indexed;
    way = ready_way c.args.self.now.spaces.spaces c.way_to_change.new.rows c.args.from c.in-Ok.way c.in-Ok.ensures.ready;
  };
  fresh = c.requires.vertex.fresh;
}

pub returns-in_default-clause-vertex : goal.returns-in_default-clause-vertex
returns-in_default-clause-vertex g c = record { made = tt; vertex = tt; handed_back = refl; spaces = refl; payloads = refl; places = refl; remembered = λ before. before; placed = tt; full = λ is. absurd (memory_or_full is) }

pub returns-in_default-clause-rows : goal.returns-in_default-clause-rows
returns-in_default-clause-rows g c = change_refused c.args.self.now c.args.self.now c.args.rows.now c.way_to_change.new.rows c.args.from _ _ refl refl refl c.way_to_change.ensures.rows

pub returns-in_err-to-clause-vertex : goal.returns-in_err-to-clause-vertex
returns-in_err-to-clause-vertex g c =
    let given = err_from_is_err_and c.from_residual.result c.from_residual.ensures.1 in
    let was = c.in_err-to.ensures.vertex in
    record {
      made = rw given.1 tt;
      vertex = rw given.1 tt;
      handed_back = rw (given.1, given.2) was.handed_back;
      spaces = rw given.1 was.spaces;
      payloads = rw given.1 was.payloads;
      places = rw given.1 was.places;
      remembered = was.remembered;
      placed = rw given.1 tt;
      full = rw (given.1, given.2) was.full;
    }

pub returns-in_err-to-clause-rows : goal.returns-in_err-to-clause-rows
returns-in_err-to-clause-rows g c =
    let was = c.in_err-to.ensures.vertex in
    change_refused c.args.self.now c.put_vertex.new.self c.args.rows.now c.way_to_change.new.rows c.args.from c.from_residual.result _ (err_from_is_err_and c.from_residual.result c.from_residual.ensures.1).1 was.spaces was.places c.way_to_change.ensures.rows

pub returns-clause-rows : goal.returns-clause-rows
returns-clause-rows g c =
    let own = (c.in_ok-to.ensures.vertex.made.vertices (name_at c.args.self.now.spaces.spaces c.args.from) c.args.from (record { object = c.requires.row.from; named = refl })).named in
    record {
      indexed = c.follow.ensures.indexed;
      long = λ long. subst (λ n. indexed_in c.follow.new.rows.entries n ≡ true) own (c.follow.ensures.long long);
      names = may_index_after (name_at c.args.self.now.spaces.spaces c.args.from) c.args.rows.now.entries c.way_to_change.new.rows.entries c.follow.new.rows.entries c.way_to_change.ensures.rows.kept
          (subst (λ n. MayIndex n c.way_to_change.new.rows.entries c.follow.new.rows.entries) own c.follow.ensures.names);
      kept = tt;
    }

pub returns-clause-vertex : goal.returns-clause-vertex
returns-clause-vertex g c =
    let done = c.in_ok-to.ensures.vertex in
    record { made = done.made; vertex = done.vertex; handed_back = tt; spaces = tt; payloads = tt; places = tt; remembered = done.remembered; placed = done.placed; full = tt }
