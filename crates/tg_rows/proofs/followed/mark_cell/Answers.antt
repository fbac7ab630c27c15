use Rattle.std.proofs.Common.{◌∙◌, arith}
use Rattle.std.proofs.lemmas.Result.{err_from_is_err_and}
use Rattle.tg_rows.proofs.followed.mark_cell.Goals as goal

pub insert-requires : goal.insert-requires
insert-requires c = let room = c.in_ok-reserve.ensures.room in omega (arith, room, c.requires)

pub returns-clause-others : goal.returns-clause-others
returns-clause-others c = λ n other. c.insert.ensures.others n other ∙ c.reserve.ensures.kept n

pub returns-in_err-reserve-clause-others : goal.returns-in_err-reserve-clause-others
returns-in_err-reserve-clause-others c = λ n other. c.reserve.ensures.kept n

pub returns-in_err-reserve-clause-refused : goal.returns-in_err-reserve-clause-refused
returns-in_err-reserve-clause-refused c = rw (err_from_is_err_and c.from_residual.result c.from_residual.ensures.1).1 c.reserve.ensures.kept
