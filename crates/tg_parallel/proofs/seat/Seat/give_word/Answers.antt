use Rattle.tg_parallel.proofs.Seating.{asked, claims_cell, right_age, room_for, seat_given}
use Rattle.tg_parallel.proofs.seat.Seat.give_word.Goals as goal

pub word_of-requires-clause-room : goal.word_of-requires-clause-room
word_of-requires-clause-room c =
    let s = c.self.inside in let free = asked c.args.at _ _ c.self.view_is c.requires.word c.requires.unmet in
    room_for s.limit s.table.now s.winner s.aged s.old c.self.invariant c.args.at free.0 free.1

pub invariant_of-self : goal.invariant_of-self
invariant_of-self c =
    let s = c.self.inside in let free = asked c.args.at _ _ c.self.view_is c.requires.word c.requires.unmet in
    let now = c.word_of.new in let e = c.word_of.ensures in let lent = c.one.ensures in
    seat_given s.limit s.table.now s.winner now.winner _ c.self.invariant c.args.at free.0 free.1 _ c.one.result.now now.self lent.old lent.aged e.stay e.finds e.next

pub returns : goal.returns
returns c =
    let s = c.self.inside in let e = c.word_of.ensures in let lent = c.one.ensures in
    let right = right_age c.args.space c.requires.two c.one.result.now s.aged s.old c.self.invariant.is_aged c.self.invariant.is_old lent.old lent.aged in
    claims_cell c.args.at.cell c.args.space s.kind s.limit s.table.now _ c.word_of.new.winner.done c.args.self.now _ _ c.self.view_is right e.finds e.met e.known e.link e.full
