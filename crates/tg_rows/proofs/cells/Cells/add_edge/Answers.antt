use Rattle.std.proofs.Common.{◌≡◌, ◌∙◌, Option, Err, true, refl, ap, sym, subst}
use Rattle.std.proofs.lemmas.Result.{err_from_is_err_and}
use Rattle.tg_word.specs.declared.Place.{Place}
use Rattle.tg_space.specs.Targets.{young_spaces}
use Rattle.tg_space.specs.declared.room_fault.RoomFault.{RoomFault}
use Rattle.tg_rows.specs.Inner.Following.{IsRowPut}
use Rattle.tg_rows.specs.Index.{MayIndex, indexed_in}
use Rattle.tg_rows.specs.Rows.{name_at}
use Rattle.tg_rows.specs.Spots.{IsSpotFor, note_for}
use Rattle.tg_rows.proofs.Following.{ready_way}
use Rattle.tg_rows.proofs.IndexedRows.{change_refused, may_index_after}
use Rattle.tg_rows.proofs.Results.{ok_or_err, no_full}
use Rattle.tg_rows.proofs.cells.Cells.add_edge.Goals as goal

pub follow-requires : goal.follow-requires
follow-requires g c =
    let t = c.args.self.now.spaces in
    let new = c.put_edge.new.self.spaces in
    let places = c.args.self.now.remembered.places in
    let later = c.put_edge.new.self.remembered.places in
    let spot = c.spot-spot.result in
    record {
      old = t;
      payloads = c.args.self.now.payloads;
      places = places;
      table = c.spot-spot.ensures.table;
      graph = c.requires.row.graph;
      object = c.requires.row.from;
      indexed = c.way_to_change.ensures.rows.indexed;
      looked = c.in-Ok.ensures.ready;
      put = subst (λ (o : Option Place). IsRowPut t new places later c.args.from c.name_of-name.result spot o) (sym (c.note-note.ensures ∙ ap (note_for spot) c.moves.ensures))
          (subst (λ n. IsRowPut t new places later c.args.from n spot (note_for spot (young_spaces c.args.gift.to.space))) (sym c.name_of-name.ensures) c.in_ok-put_edge.ensures.put);
    }

pub spot-spot-requires : goal.spot-spot-requires
spot-spot-requires g c = record {
  graph = c.requires.row.graph;
  from = c.requires.row.from;
  indexed = c.way_to_change.ensures.rows.indexed;
  way = ready_way c.args.self.now.spaces.spaces c.way_to_change.new.rows c.args.from c.in-Ok.way c.in-Ok.ensures.ready;
}

pub put_edge-requires-clause-row : goal.put_edge-requires-clause-row
put_edge-requires-clause-row g c =
    let at = c.spot-spot.ensures in
    record {
      table = at.table;
      graph = at.graph;
      from = at.from;
      spot = subst (λ n. IsSpotFor c.args.self.now.spaces.spaces n c.args.from c.spot-spot.result) c.name_of-name.ensures at.spot;
    }

pub returns-in_default-clause-edge : goal.returns-in_default-clause-edge
returns-in_default-clause-edge g c = record { added = tt; payloads = refl; refused = refl; full = λ is. absurd (no_full is); placed = tt; remembered = λ before. before; places = refl }

pub returns-in_default-clause-rows : goal.returns-in_default-clause-rows
returns-in_default-clause-rows g c = change_refused c.args.self.now c.args.self.now c.args.rows.now c.way_to_change.new.rows c.args.from _ _ refl refl refl c.way_to_change.ensures.rows

pub returns-in_err-put_edge-clause-edge : goal.returns-in_err-put_edge-clause-edge
returns-in_err-put_edge-clause-edge g c =
    let given = err_from_is_err_and c.from_residual.result c.from_residual.ensures.1 in
    let was = c.in_err-put_edge.ensures.edge in
    record {
      added = rw given.1 tt;
      payloads = was.payloads;
      refused = rw given.1 was.refused;
      full = λ is. let refused : c.put_edge.result ≡ Err RoomFault.HeapFull = c.in_err-put_edge.was ∙ ap (λ (why : RoomFault). Err why) (sym given.2) ∙ sym given.1 ∙ is in c.put_edge.ensures.edge.full refused;
      placed = rw given.1 tt;
      remembered = was.remembered;
      places = rw given.1 was.places;
    }

pub returns-in_err-put_edge-clause-rows : goal.returns-in_err-put_edge-clause-rows
returns-in_err-put_edge-clause-rows g c =
    let was = c.in_err-put_edge.ensures.edge in
    change_refused c.args.self.now c.put_edge.new.self c.args.rows.now c.way_to_change.new.rows c.args.from c.from_residual.result _ (err_from_is_err_and c.from_residual.result c.from_residual.ensures.1).1 was.refused was.places c.way_to_change.ensures.rows

pub returns-clause-edge : goal.returns-clause-edge
returns-clause-edge g c =
    let done = c.in_ok-put_edge.ensures.edge in
    record { added = done.added; payloads = done.payloads; refused = tt; full = λ is. absurd (ok_or_err _ _ is); placed = done.placed; remembered = done.remembered; places = tt }

pub returns-clause-rows : goal.returns-clause-rows
returns-clause-rows g c =
    let own = (c.in_ok-put_edge.ensures.edge.added.vertices (name_at c.args.self.now.spaces.spaces c.args.from) c.args.from (record { object = c.requires.row.from; named = refl })).named in
    record {
      indexed = c.follow.ensures.indexed;
      long = λ long. subst (λ n. indexed_in c.follow.new.rows.entries n ≡ true) own (c.follow.ensures.long long);
      names = may_index_after (name_at c.args.self.now.spaces.spaces c.args.from) c.args.rows.now.entries c.way_to_change.new.rows.entries c.follow.new.rows.entries c.way_to_change.ensures.rows.kept
          (subst (λ n. MayIndex n c.way_to_change.new.rows.entries c.follow.new.rows.entries) own c.follow.ensures.names);
      kept = tt;
    }
