use Rattle.std.proofs.Common.{◌∙◌, ap, length}
use Rattle.std.proofs.lemmas.Result.{err_from_is_err_and}
use Rattle.tg_model.specs.Making.{deed_making}
use Rattle.tg_kept.specs.Deeds.{AreOfMaking}
use Rattle.tg_kept.proofs.DeedLaws.{make_adds, keeps_old, loses_deed}
use Rattle.tg_kept.proofs.kept.Kept.make.Goals as goal

pub keep_from-requires : goal.keep_from-requires
keep_from-requires g c =
    let old = c.args.self.store in
    let new = c.make-answer.new.self in
    let did = c.make-answer.ensures in
    let from = c.len-place.ensures ∙ ap length c.journal.ensures.entries in
    keeps_old (AreOfMaking c.args.asked.worker (deed_making c.args.asked.kind c.args.asked.label c.args.asked.draft)) old new c.len-place.result
    (make_adds c.args.asked.kind c.args.asked.worker c.args.asked.label c.args.asked.draft old new c.make-answer.result (record { entry = did.entry; made = did.made; refusals = did.refusals; no_more_entry = did.no_more_entry; too_many = did.too_many; crowded = did.crowded; too_many_entry = did.too_many_entry; refused = did.refused })) from
    g.D.Disk c.args.self.file c.args.self.opened c.args.self.writable c.args.self.keeps c.journal.ensures.within

pub returns-in_err-kept-clause-lost : goal.returns-in_err-kept-clause-lost
returns-in_err-kept-clause-lost g c =
    let old = c.args.self.store in
    let new = c.make-answer.new.self in
    let did = c.make-answer.ensures in
    let from = c.len-place.ensures ∙ ap length c.journal.ensures.entries in
    let p = err_from_is_err_and c.from_residual.result c.from_residual.ensures.1 in
    rw (p.1, p.2) (loses_deed (AreOfMaking c.args.asked.worker (deed_making c.args.asked.kind c.args.asked.label c.args.asked.draft)) old new c.len-place.result
    (make_adds c.args.asked.kind c.args.asked.worker c.args.asked.label c.args.asked.draft old new c.make-answer.result (record { entry = did.entry; made = did.made; refusals = did.refusals; no_more_entry = did.no_more_entry; too_many = did.too_many; crowded = did.crowded; too_many_entry = did.too_many_entry; refused = did.refused })) from
    g.D.Disk c.args.self.file.disk c.in_err-kept.field-0.0.disk c.in_err-kept.ensures.lost)

pub returns-clause-made : goal.returns-clause-made
returns-clause-made g c =
    let did = c.make-answer.ensures in
    rw c.in_ok-kept.ensures.store (record { entry = did.entry; made = did.made; refusals = did.refusals; no_more_entry = did.no_more_entry; too_many = did.too_many; crowded = did.crowded; too_many_entry = did.too_many_entry; refused = did.refused })
