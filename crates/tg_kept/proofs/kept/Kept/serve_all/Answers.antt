use Rattle.std.proofs.Common.{◌∙◌, refl, arith}
use Rattle.std.proofs.lemmas.Result.{err_from_is_err_and}
use Rattle.tg_kept.specs.Runs.{no_batch}
use Rattle.tg_kept.proofs.KeepingLaws.{leaves_store}
use Rattle.tg_kept.proofs.RunLaws.{counted_loss, loses_run, serves_more}
use Rattle.tg_kept.proofs.kept.Kept.serve_all.Goals as goal

pub loop-asked-init : goal.loop-asked-init
loop-asked-init g c = record { served = no_batch; count = refl; calm = refl }

pub returns-in_err-kept-clause-lost : goal.returns-in_err-kept-clause-lost
returns-in_err-kept-clause-lost g c =
    let loop = c.loop-asked in
    let batches = c.args.batches.now in
    let start = c.args.self.file.disk in
    let left = c.in_err-kept.field-0.0.disk in
    let p = err_from_is_err_and c.from_residual.result c.from_residual.ensures.1 in
    rw (p.1, p.2) (counted_loss g.D.Disk batches loop.asked-index loop.answered c.args.self.store start left loop.invariant.count
    (loses_run batches loop.asked-index c.asked-item.result c.loop-asked-test.true c.asked-item.is c.args.self.store loop.kept.store loop.invariant.served
    g.D.Disk start loop.kept.file.disk left loop.invariant.calm c.in_err-kept.ensures.lost))

pub loop-asked-preserved : goal.loop-asked-preserved
loop-asked-preserved g c =
    let loop = c.loop-asked in
    let served = c.in_ok-kept.field-0 in
    record {
      served = serves_more c.args.batches.now loop.asked-index c.asked-item.result c.loop-asked-test.true c.asked-item.is c.args.self.store loop.kept.store loop.invariant.served
          served.kept.store served.ended c.in_ok-kept.ensures.served;
      count = omega (arith, loop.invariant.count);
      calm = c.in_ok-kept.ensures.calm ∙ loop.invariant.calm;
    }

pub returns-clause-left : goal.returns-clause-left
returns-clause-left g c = let kept = c.loop-asked.kept in leaves_store g.D.Disk kept.store kept.file kept.writable.settled kept.keeps
