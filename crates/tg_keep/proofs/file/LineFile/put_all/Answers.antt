use Rattle.std.proofs.Common.{◌≡◌, ◌+◌, ℕ, ◌++◌, ◌∙◌, sym, ap, subst, arith, drop}
use Rattle.std.specs.Prelude.{IsTrue}
use Rattle.tg_keep.specs.Lines.{history_of}
use Rattle.tg_keep.specs.Runs.{FollowOn, SaysAnswered, all_texts}
use Rattle.tg_keep.specs.declared.sum.LineSum.{LineSum}
use Rattle.tg_keep.proofs.Closing.{synced_open}
use Rattle.tg_keep.proofs.Running.{all_batches, follows_next, leaves_all, leaves_next, says_next}
use Rattle.tg_keep.proofs.file.LineFile.put_all.Goals as goal

pub put-requires : goal.put-requires
put-requires g c = record {
  settled = c.loop-batch.invariant.settled;
  mixing = c.requires.mixing;
  follows = (follows_next c.args.batches.now c.loop-batch.batch-index c.batch-item.result c.loop-batch-test.true c.batch-item.is c.loop-batch.self.sum c.loop-batch.invariant.follow).0;
}

pub loop-batch-preserved : goal.loop-batch-preserved
loop-batch-preserved g c =
    let inv = c.loop-batch.invariant in
    let batches = c.args.batches.now in
    let i = c.loop-batch.batch-index in
    let put = c.in_ok-put.ensures.put in
    let calm = c.put.ensures.left.calm in
    let next = follows_next batches i c.batch-item.result c.loop-batch-test.true c.batch-item.is c.loop-batch.self.sum inv.follow in
    let P : LineSum → Type 0 = λ s. FollowOn s (drop (i + 1) batches) in
    record {
      settled = put.settled;
      count = omega (arith, inv.count);
      texts = λ clean.
          says_next batches i c.batch-item.result c.loop-batch-test.true c.batch-item.is (history_of (g.D.Disk.seen c.args.self.now.disk)) (history_of (g.D.Disk.seen c.loop-batch.self.disk)) (history_of (g.D.Disk.seen c.put.new.self.disk))
          (inv.texts (subst IsTrue calm clean)) (put.texts clean);
      follow = subst P (sym c.in_ok-put.ensures.sum) next.1;
      calm = calm ∙ inv.calm;
    }

pub returns-in_err-put-clause-left : goal.returns-in_err-put-clause-left
returns-in_err-put-clause-left g c =
    let inv = c.loop-batch.invariant in
    let batches = c.args.batches.now in
    let before = history_of (g.D.Disk.seen c.args.self.now.disk) in
    let left = c.put.ensures.left in
    record {
      crash = λ clean f may.
          let P : ℕ → Type 0 = λ n. SaysAnswered before batches n f in
          subst P (sym inv.count)
          (leaves_next batches c.loop-batch.batch-index c.batch-item.result c.loop-batch-test.true c.batch-item.is before (history_of (g.D.Disk.seen c.loop-batch.self.disk)) f
          (inv.texts (subst IsTrue left.calm clean)) (left.crash clean f may));
      unclosed = left.unclosed;
      calm = left.calm ∙ inv.calm;
    }

pub returns-clause-left : goal.returns-clause-left
returns-clause-left g c =
    let inv = c.loop-batch.invariant in
    let batches = c.args.batches.now in
    let before = history_of (g.D.Disk.seen c.args.self.now.disk) in
    record {
      crash = λ clean f may.
          let P : ℕ → Type 0 = λ n. SaysAnswered before batches n f in
          let same : f ≡ g.D.Disk.seen c.loop-batch.self.disk = (inv.settled.synced clean).durable f may in
          subst P (sym inv.count) (leaves_all before batches c.loop-batch.batch-index f c.loop-batch-test.false (ap history_of same ∙ inv.texts clean));
      unclosed = λ clean. synced_open g.D.Disk.seen g.D.Disk.may_leave c.loop-batch.self (inv.settled.synced clean) inv.settled.room;
      calm = inv.calm;
    }

pub returns-clause-put : goal.returns-clause-put
returns-clause-put g c =
    let inv = c.loop-batch.invariant in
    record {
      settled = inv.settled;
      texts = λ clean. inv.texts clean ∙ ap (λ l. history_of (g.D.Disk.seen c.args.self.now.disk) ++ all_texts l) (all_batches c.args.batches.now c.loop-batch.batch-index c.loop-batch-test.false);
    }
