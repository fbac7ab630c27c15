use Rattle.std.proofs.Common.{refl, arith}
use Rattle.std.proofs.lemmas.Bool.{false≢true}
use Rattle.tg_entries.proofs.PieceLaws.{loses_front}
use Rattle.tg_entries.proofs.piece.takes.Goals as goal

pub returns-then-not-begins_with : goal.returns-then-not-begins_with
returns-then-not-begins_with g c is = absurd (false≢true is)

pub drop_front-requires : goal.drop_front-requires
drop_front-requires g c = omega (arith, c.if-not-begins_with.ensures.fits refl, c.as_slice.ensures.len)

pub returns : goal.returns
returns g c _ = loses_front _ _ _ _ _ _ _ c.in_ok-read_some.ensures.fetched c.as_slice.ensures.value (c.if-not-begins_with.ensures.same refl) c.drop_front.ensures
