use Rattle.std.proofs.Common.{◌∙◌, ◌≤◌, length, take, refl, subst, sym, ap, arith}
use Rattle.std.specs.List.{All}
use Rattle.tg_word.specs.Word.{place_in}
use Rattle.tg_word.specs.declared.Place.{Place}
use Rattle.tg_space.specs.Collection.{new_place}
use Rattle.tg_space.specs.Targets.{from_space}
use Rattle.tg_rows.specs.Inner.Cells.{CellList}
use Rattle.tg_space.specs.Numbering.{IsNumbered}
use Rattle.tg_rows.specs.Index.{IsOldPlace}
use Rattle.tg_rows.proofs.Marked.{marked_moved}
use Rattle.std.proofs.lemmas.Option.{get_or_from_slice_get}
use Rattle.tg_rows.proofs.FollowedRows.{old_or_gone}
use Rattle.tg_rows.proofs.followed.follow_row.Goals as goal

pub forwarding_word-requires : goal.forwarding_word-requires
forwarding_word-requires c =
    let object = place_in c.first_word-object.result in
    subst (IsNumbered c.args.moves.numbering.now.starts (length c.args.moves.forward.now.words)) (get_or_from_slice_get c.args.row.now.cells.items 0 object object c.first_word-object.ensures) (c.requires.able.numbered 0 object c.requires.able.some)

pub follow_cells-old-requires : goal.follow_cells-old-requires
follow_cells-old-requires c =
    let aged = (c.forget_moved.ensures.marked c.args.noted.now.places c.requires.able.marked).aged in
    record { within = aged.within; old = aged.cells; full = c.forget_moved.ensures.full; numbered = rw c.forget_moved.ensures.cells c.requires.able.numbered; to_old = c.requires.to_old }

pub forget_unnoted-requires : goal.forget_unnoted-requires
forget_unnoted-requires c =
    marked_moved c.args.moves.kind c.args.moves.numbering.now.starts (new_place c.args.moves.forward.now.words) c.args.noted.now.places c.forget_moved.new.row _ (c.forget_moved.ensures.marked c.args.noted.now.places c.requires.able.marked) c.forget_moved.ensures.full
    c.follow_cells-old.ensures.moved refl refl

pub mark_noted-requires : goal.mark_noted-requires
mark_noted-requires c =
    let kept = c.forget_unnoted.ensures.kept in
    let same = sym kept.cells in
    let first = c.follow_cells-old.ensures in
    record {
      marked = kept.marked;
      from = omega (arith, c.forget_unnoted.ensures.old, first.from);
      within = subst (λ (v : CellList). c.follow_cells-old.result ≤ length v.items) same first.within;
      old = subst (λ (v : CellList). All IsOldPlace (take c.follow_cells-old.result v.items)) same first.old;
    }

pub returns-then-forwarding_word-eq0-clause-old : goal.returns-then-forwarding_word-eq0-clause-old
returns-then-forwarding_word-eq0-clause-old c = λ is. absurd (old_or_gone (sym is))

pub returns-then-forwarding_word-eq0-clause-gone : goal.returns-then-forwarding_word-eq0-clause-gone
returns-then-forwarding_word-eq0-clause-gone c =
    λ same. record {
      object = place_in c.first_word-object.result;
      first = c.first_word-object.ensures;
      moves = ap (λ (p : Place). from_space c.args.moves.kind p.space) (sym c.place_of.ensures) ∙ sym c.moves.ensures ∙ c.if-moves.true;
      uncopied = sym c.forwarding_word.ensures ∙ c.if-forwarding_word-eq0.true;
    }
