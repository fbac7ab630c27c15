use Rattle.std.proofs.Common.{◌∙◌, ap, length}
use Rattle.std.proofs.lemmas.Result.{err_from_is_err_and}
use Rattle.tg_kept.proofs.ServingLaws.{keeps_front, loses, serves_by, takes_commands}
use Rattle.tg_kept.proofs.kept.Kept.serve.Goals as goal

pub keep_from-requires : goal.keep_from-requires
keep_from-requires g c =
    let old = c.args.self.store in
    let new = c.apply_all-ended.new.self in
    let ended = c.apply_all-ended.ensures in
    let served = serves_by c.args.worker c.args.commands.now old new c.apply_all-ended.result ended.done ended.applied ended.stopped in
    let from = c.len-place.ensures ∙ ap length c.journal.ensures.entries in
    keeps_front c.args.worker c.args.commands.now old new c.len-place.result (takes_commands c.args.worker c.args.commands.now old new c.apply_all-ended.result served) from
    g.D.Disk c.args.self.file c.args.self.opened c.args.self.writable c.args.self.keeps c.journal.ensures.within

pub returns-in_err-kept-clause-lost : goal.returns-in_err-kept-clause-lost
returns-in_err-kept-clause-lost g c =
    let old = c.args.self.store in
    let new = c.apply_all-ended.new.self in
    let ended = c.apply_all-ended.ensures in
    let served = serves_by c.args.worker c.args.commands.now old new c.apply_all-ended.result ended.done ended.applied ended.stopped in
    let from = c.len-place.ensures ∙ ap length c.journal.ensures.entries in
    let p = err_from_is_err_and c.from_residual.result c.from_residual.ensures.1 in
    rw (p.1, p.2) (loses c.args.worker c.args.commands.now old new c.len-place.result (takes_commands c.args.worker c.args.commands.now old new c.apply_all-ended.result served) from
    g.D.Disk c.args.self.file.disk c.in_err-kept.field-0.0.disk c.in_err-kept.ensures.lost)
