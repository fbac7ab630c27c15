use Rattle.std.proofs.Common.{◌≡◌, true, false, ap, ◌∙◌, arith}
use Rattle.tg_race.specs.Seats.{Seated}
use Rattle.tg_parallel.proofs.Seating.{filled_none, knows_none}
use Rattle.tg_parallel.proofs.seat.Seat.new.Goals as goal

pub invariant_of-result : goal.invariant_of-result
invariant_of-result c =
    let done : c.new.result.done ≡ _ = ap (λ (x : Seated). x.done) c.new.ensures ∙ c.requires.new.done in
    record {
      own = ap (λ (x : Seated). x.table) c.new.ensures ∙ c.requires.new.seat;
      few = c.requires.few;
      small = c.requires.small;
      whole = c.requires.whole;
      differ = rw done (λ i j d lt low. absurd (omega arith));
      inside = rw done (λ k d low. absurd (omega arith));
      behind = rw done (λ k d low. absurd (omega arith));
      places = rw done (λ k d low. absurd (omega arith));
      is_aged = c.new-2.ensures.space;
      is_old = c.new-3.ensures.space;
      in_aged = rw done (filled_none true c.new-2.result.numbers.items c.new-2.ensures.numbers);
      in_old = rw done (filled_none false c.new-3.result.numbers.items c.new-3.ensures.numbers);
      aged_next = rw done (knows_none c.args.limit c.new-2.result c.new-2.ensures.numbers c.new-2.ensures.next c.new-2.ensures.within);
      aged_room = (let room = c.new-2.ensures.room in let words = c.requires.lists.aged_room in omega arith);
      old_room = (let room = c.new-3.ensures.room in let words = c.requires.lists.old_room in omega arith);
      old_next = rw done (knows_none c.args.limit c.new-3.result c.new-3.ensures.numbers c.new-3.ensures.next c.new-3.ensures.within);
    }
