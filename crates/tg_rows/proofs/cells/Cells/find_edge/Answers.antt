use Rattle.std.proofs.Common.{◌∙◌, sym, ap, arith, length}
use Rattle.tg_space.specs.SpaceList.{cells_of}
use Rattle.tg_space.proofs.Tables.{table_list}
use Rattle.tg_space.specs.Rows.{chunks_from, link_at}
use Rattle.tg_rows.proofs.Finding.{cell_held, found_refers, label_is_read, none_found, none_refers, reference_found}
use Rattle.tg_rows.proofs.cells.Cells.find_edge.Goals as goal

pub found_at-requires : goal.found_at-requires
found_at-requires g c =
    let h = c.args.self.now.spaces.spaces in
    let reference = reference_found h c.args.from c.args.name c.in-Reference.cell c.in-Reference.index c.in-Reference.ensures.spot in
    record { held = cell_held h c.args.self.now.payloads (table_list c.args.self.now.spaces c.spot.ensures.table) c.requires.graph c.args.from c.requires.from c.in-Reference.cell reference.cell; inside = omega (arith, reference.to) }

pub returns : goal.returns
returns g c =
    let h = c.args.self.now.spaces.spaces in
    let none = none_found h c.args.name c.args.from (chunks_from h (length (cells_of h)) (link_at h c.args.from)) c.spot.result c.spot.ensures.spot c.in_default.not-Reference in
    record {
      rights = sym (none_refers h c.args.self.now.payloads (table_list c.args.self.now.spaces c.spot.ensures.table) c.requires.graph c.args.from c.requires.from c.args.name none);
      some = tt;
      place = tt;
    }

pub returns-in-Reference : goal.returns-in-Reference
returns-in-Reference g c =
    let h = c.args.self.now.spaces.spaces in
    let payloads = c.args.self.now.payloads in
    let list = table_list c.args.self.now.spaces c.spot.ensures.table in
    let reference = reference_found h c.args.from c.args.name c.in-Reference.cell c.in-Reference.index c.in-Reference.ensures.spot in
    let refers = found_refers h payloads list c.requires.graph c.args.from c.requires.from c.args.name c.in-Reference.cell c.in-Reference.index reference in
    record {
      rights = ap (λ found. found.rights) c.found_at.ensures ∙ sym reference.rights ∙ sym (label_is_read h payloads list c.requires.graph c.args.from c.requires.from c.args.name);
      some = rw c.found_at.ensures refers.rights;
      place = rw c.found_at.ensures (record { object = refers.object; named = reference.named });
    }
