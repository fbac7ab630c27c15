use Rattle.std.proofs.Common.{arith, sym, subst, refl, ap, ◌∙◌, length}
use Rattle.std.specs.Prelude.{slice_index, slice_set}
use Rattle.std.proofs.lemmas.List.{length-set}
use Rattle.tg_space.specs.SpaceList.{cell_at, space_of}
use Rattle.tg_space.specs.SpaceTable.{SpaceTable}
use Rattle.tg_space.specs.Generations.{AreRemembered}
use Rattle.tg_space.proofs.Tables.{shape_cell, table_list}
use Rattle.tg_model.specs.Graph.{without_rights}
use Rattle.tg_rows.specs.Content.{IsNamed}
use Rattle.tg_rows.specs.Graph.{content_in}
use Rattle.tg_rows.specs.Rows.{name_at}
use Rattle.tg_rows.specs.Spots.{narrowed, word_put}
use Rattle.tg_rows.specs.declared.rows.Spot.TheVariants.{Reference}
use Rattle.tg_rows.specs.Steps.{ChangesTo}
use Rattle.tg_rows.specs.Inner.Following.{IsNarrowed}
use Rattle.tg_rows.proofs.Following.{narrowed_held, narrowed_inside}
use Rattle.tg_rows.proofs.Layouts.{present_place}
use Rattle.tg_rows.proofs.Finding.{found_refers, reference_found}
use Rattle.tg_rows.proofs.Growing.{changes, nothing_dropped, untouched}
use Rattle.tg_rows.proofs.Remembering.{narrowed_remembered}
use Rattle.tg_rows.proofs.Putting.{can_write, narrowed_becomes}
use Rattle.tg_rows.proofs.cells.Cells.drop_rights.Goals as goal

pub read-word-requires : goal.read-word-requires
read-word-requires g c =
    let taken : IsNarrowed c.args.self.now.spaces c.narrow.new.spaces c.args.from c.args.name c.in-Reference.cell c.in-Reference.index = record {
      payloads = c.args.self.now.payloads;
      rights = c.args.rights;
      table = c.spot.ensures.table;
      graph = c.requires.graph;
      object = c.requires.from;
      found = c.in-Reference.ensures.spot;
      written = c.narrow.ensures;
    } in
    record { held = narrowed_held taken; inside = narrowed_inside taken }

pub forget-requires : goal.forget-requires
forget-requires g c = record {
  old = c.args.self.now.spaces;
  from = c.args.from;
  cell = c.in-Reference.cell;
  index = c.in-Reference.index;
  narrowed = record {
    payloads = c.args.self.now.payloads;
    rights = c.args.rights;
    table = c.spot.ensures.table;
    graph = c.requires.graph;
    object = c.requires.from;
    found = c.in-Reference.ensures.spot;
    written = c.narrow.ensures;
  };
  left = c.read-word.ensures;
  indexed = c.requires.indexed;
  looked = c.way-way.ensures;
}

pub returns-in_default-clause-taken : goal.returns-in_default-clause-taken
returns-in_default-clause-taken g c = record {
  dropped = nothing_dropped c.args.self.now.spaces c.args.self.now.payloads c.spot.ensures.table c.requires.graph c.args.from c.requires.from c.args.name c.spot.result c.spot.ensures.spot c.in_default.not-Reference c.args.rights;
  payloads = refl;
  remembered = λ before. before;
  used = refl;
  blocks = λ space. refl;
  placed = record {
    spot = c.spot.result;
    found = c.spot.ensures.spot;
    taken = untouched c.args.self.now.spaces c.spot.result c.args.rights c.in_default.not-Reference;
  };
}

pub returns-in-Reference-clause-taken : goal.returns-in-Reference-clause-taken
returns-in-Reference-clause-taken g c =
    let t = c.args.self.now.spaces in
    let payloads = c.args.self.now.payloads in
    let list = table_list t c.spot.ensures.table in
    let content = content_in t.spaces payloads in
    let cell = c.in-Reference.cell in
    let words = cell_at t.spaces cell in
    let word = slice_index words c.in-Reference.index in
    let label = without_rights content.label (name_at t.spaces c.args.from) c.args.name c.args.rights in
    record {
      dropped =
          subst (λ (x : SpaceTable). ChangesTo t x payloads (IsNamed content) label content.value) (sym c.narrow.ensures)
          (changes t (word_put t cell c.in-Reference.index (narrowed word c.args.rights)) payloads (IsNamed content) label content.value
          (narrowed_becomes t c.spot.ensures.table payloads c.requires.graph c.args.from c.requires.from c.args.name c.args.rights cell c.in-Reference.index c.in-Reference.ensures.spot) (length-set t.spaces cell.space _) refl);
      payloads = refl;
      remembered = λ before.
          let places = c.args.self.now.remembered.places in
          subst (λ (x : SpaceTable). AreRemembered x.spaces places) (sym c.narrow.ensures)
          (narrowed_remembered t c.spot.ensures.table payloads c.requires.graph c.args.from c.requires.from c.args.name c.args.rights cell c.in-Reference.index c.in-Reference.ensures.spot places before);
      used = ap (λ (x : SpaceTable). x.used) c.narrow.ensures;
      blocks = λ space.
          let reference = reference_found t.spaces c.args.from c.args.name cell c.in-Reference.index c.in-Reference.ensures.spot in
          let to = reference.to in
          let can = can_write t c.spot.ensures.table payloads c.requires.graph c.args.from c.requires.from cell c.in-Reference.index reference.cell (omega arith) in
          let shape = shape_cell t.spaces cell (slice_set words c.in-Reference.index (narrowed word c.args.rights)) can.held in
          ap (λ (x : SpaceTable). length (space_of x.spaces space)) c.narrow.ensures ∙ shape.blocks space;
      placed = record {
        spot = Reference cell c.in-Reference.index;
        found = c.in-Reference.ensures.spot;
        taken = c.narrow.ensures;
      };
    }

pub narrow-requires : goal.narrow-requires
narrow-requires g c =
    let t = c.args.self.now.spaces in
    let reference = reference_found t.spaces c.args.from c.args.name c.in-Reference.cell c.in-Reference.index c.in-Reference.ensures.spot in
    let to = reference.to in
    let refers = found_refers t.spaces c.args.self.now.payloads (table_list t c.spot.ensures.table) c.requires.graph c.args.from c.requires.from c.args.name c.in-Reference.cell c.in-Reference.index reference in
    record {
      can = can_write t c.spot.ensures.table c.args.self.now.payloads c.requires.graph c.args.from c.requires.from c.in-Reference.cell c.in-Reference.index reference.cell (omega arith);
      place = present_place (slice_index (cell_at t.spaces c.in-Reference.cell) c.in-Reference.index) refers.present;
    }
