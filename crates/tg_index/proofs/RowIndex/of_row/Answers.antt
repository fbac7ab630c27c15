use Rattle.std.proofs.Common.{◌≡◌, ◌∙◌, ◌+◌, None, get_or, take, refl, ap, sym, subst, arith}
use Rattle.tg_index.specs.Slots.{PutsAt, listed_row}
use Rattle.tg_index.proofs.SlotLemmas.{listed_absent, listed_next}
use Rattle.tg_index.proofs.RowIndex.of_row.Goals as goal

pub loop-slot-init : goal.loop-slot-init
loop-slot-init c = record { index = c.new-index.ensures.index; next = c.new-index.ensures.next; len = c.new-index.ensures.len }

pub set_next-requires : goal.set_next-requires
set_next-requires c =
    let at = c.loop-slot.invariant in
    let next = at.next in
    let len = at.len in
    record { room = c.in_ok-reserve.ensures.room; inside = omega (arith, next, len, c.in_ok-reserve.ensures.next, c.in_ok-reserve.ensures.len, c.loop-slot-test.true) }

pub loop-slot-preserved : goal.loop-slot-preserved
loop-slot-preserved c =
    let at = c.loop-slot.invariant in
    let row = c.args.row.now in
    let k = c.loop-slot.slot-index in
    let kept = c.in_ok-reserve.ensures.kept (listed_row (take k row)) at.index in
    let slot = get_or row k None in
    let next : c.reserve.new.self.next ≡ k = c.in_ok-reserve.ensures.next ∙ at.next in
    record {
      index = c.set_next.ensures.rows (listed_row (take k row)) (listed_row (take (k + 1) row)) kept (listed_absent c.reserve.new.self row k c.requires kept _ refl)
          (subst (λ n. PutsAt (listed_row (take k row)) (listed_row (take (k + 1) row)) n slot) (sym next) (listed_next row k slot c.loop-slot-test.true refl));
      next = c.set_next.ensures.next ∙ ap (λ n. n + 1) next;
      len = c.set_next.ensures.len ∙ c.in_ok-reserve.ensures.len ∙ at.len;
    }
