use Rattle.std.proofs.Common.{◌≡◌, ◌∙◌, ◌<◌, List, Option, None, inl, true, is_some, length, nat_eq, arith, refl, sym, ap, subst}
use Rattle.std.specs.Map.{lookup}
use Rattle.std.proofs.lemmas.Cmp.{nat_eq_equiv}
use Rattle.std.proofs.lemmas.Option.{slice_get_within}
use Rattle.indexmap.proofs.CallerLemmas.{updates-with_value_at}
use Rattle.indexmap.specs.Layout.{set_value_at}
use Rattle.tg_word.specs.declared.Place.{Place}
use Rattle.tg_rows.specs.Inner.Following.{HasRoomIn, IsReadyToFollow, IsReadyNew, IsReadyShort}
use Rattle.tg_rows.specs.Index.{AreIndexed, Indexes, IsAged, IsMarked, MayIndex, SameIndexed, indexed_in}
use Rattle.tg_rows.specs.Rows.{name_at}
use Rattle.tg_rows.specs.declared.indexed_row.IndexedRow.{IndexedRow}
use Rattle.tg_rows.specs.declared.indexes.Way.{Way}
use Rattle.tg_rows.proofs.Ages.{aged_at, row_there, same_row, written_aged}
use Rattle.tg_rows.proofs.Following.{behind_grown, behind_object, behind_others, behind_own, behind_marked, behind_vertices, ready_there, row_behind}
use Rattle.tg_rows.proofs.IndexedRows.{added_here, added_index, index_at, indexes_kept, indexes_written, may_index, written_indexed}
use Rattle.std.proofs.lemmas.Bool.{false≢true}
use Rattle.tg_rows.proofs.cells.Cells.follow.Goals as goal

pub returns-in-Walk : goal.returns-in-Walk
returns-in-Walk g c =
    let rows = c.args.rows.now in
    let b = c.requires in
    let ready : IsReadyShort b.old.spaces rows c.args.put.from = subst (λ (w : Way). IsReadyToFollow b.old.spaces rows c.args.put.from w) c.in-Walk.is b.looked in
    record {
      indexed = indexes_kept b.old.spaces c.args.self.now.spaces.spaces (behind_vertices b) c.args.put.from b.object (behind_others b) b.places c.args.self.now.remembered.places (behind_marked b) rows.entries b.indexed (name_at b.old.spaces c.args.put.from) refl
          rows.entries refl ready.none;
      long = λ long. let grown = behind_grown b in let short = ready.short in absurd (omega (arith, grown, short, long));
      names = may_index (name_at c.args.self.now.spaces.spaces c.args.put.from) rows.entries rows.entries (λ x. refl);
    }

pub follow-requires : goal.follow-requires
follow-requires g c =
    let b = c.requires in
    let own = name_at b.old.spaces c.args.put.from in
    let es = c.rows.inside.indexes.entries in
    let inside = ready_there c.args.rows.now _ c.rows.view_is b.old.spaces c.args.put.from c.args.way c.in-Index.at c.in-Index.is b.looked in
    let indexed : AreIndexed b.old.spaces b.places es = subst (λ (s : Indexes). AreIndexed b.old.spaces b.places s.entries) (sym c.rows.view_is) b.indexed in
    record {
      put = row_behind b c.in-Some.row.now
          (index_at b.old.spaces b.payloads b.graph b.places es indexed c.args.put.from b.object own refl c.in-Some.row.now (row_there es own c.in-Index.at inside.here c.in-Some.row.now c.in-Some.ensures.value)).0;
      room = subst HasRoomIn (sym (same_row es own c.in-Index.at inside.here c.in-Some.row.now c.in-Some.ensures.value)) inside.room;
    }

pub unreachable-requires : goal.unreachable-requires
unreachable-requires g c =
    let b = c.requires in
    let own = name_at b.old.spaces c.args.put.from in
    let es = c.rows.inside.indexes.entries in
    let inside = ready_there c.args.rows.now _ c.rows.view_is b.old.spaces c.args.put.from c.args.way c.in-Index.at c.in-Index.is b.looked in
    let low : c.in-Index.at < length es = slice_get_within es c.in-Index.at (own, inside.here.row) inside.here.here in
    false≢true (rw c.in-None.is at (c.get_index_mut.ensures.found.1 low))

pub invariant_of-rows : goal.invariant_of-rows
invariant_of-rows g c =
    let b = c.requires in
    let own = name_at b.old.spaces c.args.put.from in
    let es = c.rows.inside.indexes.entries in
    let inside = ready_there c.args.rows.now _ c.rows.view_is b.old.spaces c.args.put.from c.args.way c.in-Index.at c.in-Index.is b.looked in
    let low : c.in-Index.at < length es = slice_get_within es c.in-Index.at (own, inside.here.row) inside.here.here in
    let aged = subst IsAged (sym (same_row es own c.in-Index.at inside.here c.in-Some.row.now c.in-Some.ensures.value)) (aged_at es c.rows.inside.old_rows c.rows.invariant own c.in-Index.at inside.here) in
    written_aged es (set_value_at es c.in-Index.at c.follow.new.self) c.rows.inside.old_rows c.in-Index.at low c.rows.invariant c.follow.new.self refl (c.follow.ensures.marks.aged aged) (inl inside.behind)

pub returns-in-Some : goal.returns-in-Some
returns-in-Some g c =
    let b = c.requires in
    let own = name_at b.old.spaces c.args.put.from in
    let es = c.rows.inside.indexes.entries in
    let rows = c.args.rows.now.entries in
    let new = c.follow.new.self in
    let inside = ready_there c.args.rows.now _ c.rows.view_is b.old.spaces c.args.put.from c.args.way c.in-Index.at c.in-Index.is b.looked in
    let indexed : AreIndexed b.old.spaces b.places es = subst (λ (s : Indexes). AreIndexed b.old.spaces b.places s.entries) (sym c.rows.view_is) b.indexed in
    let was_marked = (index_at b.old.spaces b.payloads b.graph b.places es indexed c.args.put.from b.object own refl c.in-Some.row.now (row_there es own c.in-Index.at inside.here c.in-Some.row.now c.in-Some.ensures.value)).1 in
    let marked = subst (λ (ps : List Place). IsMarked ps new) (sym b.put.remembered) (c.follow.ensures.marks.marked b.places was_marked) in
    let written = updates-with_value_at c.rows.inside.indexes c.in-Index.at new nat_eq_equiv c.get_index_mut.ensures.unique own inside.here.row inside.here.here in
    let first : SameIndexed rows es = subst (λ (s : Indexes). SameIndexed rows s.entries) (sym c.rows.view_is) (λ x. refl) in
    let here = written_indexed es es c.in-Index.at new (λ x. refl) own ∙ ap (λ (o : Option IndexedRow). is_some o) inside.here.found in
    record {
      indexed = indexes_written b.old.spaces c.args.self.now.spaces.spaces (behind_vertices b) c.args.put.from b.object (behind_others b) b.places c.args.self.now.remembered.places (behind_marked b) es indexed own refl
          (set_value_at es c.in-Index.at new) new written.0 c.follow.ensures.index marked;
      long = λ long. subst (λ n. indexed_in (set_value_at es c.in-Index.at new) n ≡ true) (sym (behind_own b)) here;
      names = may_index (name_at c.args.self.now.spaces.spaces c.args.put.from) rows (set_value_at es c.in-Index.at new) (written_indexed rows es c.in-Index.at new first);
    }

pub follow-requires-in-New : goal.follow-requires-in-New
follow-requires-in-New g c =
    let b = c.requires in
    let ready = subst (λ (r : IndexedRow). IsReadyNew b.old.spaces c.args.rows.now c.args.put.from r) (sym c.into_inner-row.ensures) (subst (λ (w : Way). IsReadyToFollow b.old.spaces c.args.rows.now c.args.put.from w) c.in-New.is b.looked) in
    record { put = row_behind b c.into_inner-row.result ready.index; room = ready.room }

pub name_of-requires : goal.name_of-requires
name_of-requires g c = behind_object c.requires

pub add-requires : goal.add-requires
add-requires g c =
    let b = c.requires in
    let ready = subst (λ (r : IndexedRow). IsReadyNew b.old.spaces c.args.rows.now c.args.put.from r) (sym c.into_inner-row.ensures) (subst (λ (w : Way). IsReadyToFollow b.old.spaces c.args.rows.now c.args.put.from w) c.in-New.is b.looked) in
    record {
      absent = subst (λ n. lookup (nat_eq n) c.args.rows.now.entries ≡ None) (sym (c.name_of.ensures ∙ behind_own b)) ready.none;
      aged = c.follow-in-New.ensures.marks.aged ready.aged;
      room = ready.spare;
    }

pub returns-in-New : goal.returns-in-New
returns-in-New g c =
    let b = c.requires in
    let new = c.follow-in-New.new.self in
    let rows = c.args.rows.now.entries in
    let later = c.add.new.self.entries in
    let ready = subst (λ (r : IndexedRow). IsReadyNew b.old.spaces c.args.rows.now c.args.put.from r) (sym c.into_inner-row.ensures) (subst (λ (w : Way). IsReadyToFollow b.old.spaces c.args.rows.now c.args.put.from w) c.in-New.is b.looked) in
    let marked = subst (λ (ps : List Place). IsMarked ps new) (sym b.put.remembered) (c.follow-in-New.ensures.marks.marked b.places (ready.marked b.places)) in
    record {
      indexed = indexes_written b.old.spaces c.args.self.now.spaces.spaces (behind_vertices b) c.args.put.from b.object (behind_others b) b.places c.args.self.now.remembered.places (behind_marked b) rows b.indexed
          c.name_of.result (c.name_of.ensures ∙ behind_own b) later new c.add.ensures c.follow-in-New.ensures.index marked;
      long = λ long. subst (λ n. indexed_in later n ≡ true) c.name_of.ensures (added_here c.name_of.result rows later new c.add.ensures);
      names = subst (λ n. MayIndex n rows later) c.name_of.ensures (added_index c.name_of.result rows later new c.add.ensures);
    }
