use Rattle.std.proofs.Common.{◌≡◌, ℕ, ◌+◌, ◌*◌, List, length, replicate, ◌∙◌, subst, arith}
use Rattle.std.proofs.lemmas.List.{get_or-replicate, length-replicate}
use Rattle.tg_keep.specs.Zeros.{AddsZeros}
use Rattle.tg_keep.proofs.Laying.{follows_on, more_zeros}
use Rattle.tg_keep.proofs.zeros.write_zeros.Goals as goal

pub loop-page-preserved : goal.loop-page-preserved
loop-page-preserved g c =
    let inv = c.loop-page.invariant in
    let old = c.args.disk.now in
    let mid = c.loop-page.disk in
    let new = c.write_at.new.self in
    let page : List ℕ = replicate 4096 0 in
    let done = 4096 * c.loop-page.page in
    let at = c.args.end + done in
    let next : done + 4096 ≡ 4096 * (c.loop-page.page + 1) = omega arith in
    let P : ℕ → Type 0 = λ n. AddsZeros n (g.D.Disk.seen old) (g.D.Disk.seen new) in
    record {
      usable = c.write_at.ensures.usable;
      zeros = λ is.
          subst P next
          (more_zeros done 4096 at (g.D.Disk.seen old) (g.D.Disk.seen mid) (g.D.Disk.seen new) page (omega (arith, is)) (length-replicate {A = ℕ} 4096 0) (omega arith)
          (λ i lt. get_or-replicate {A = ℕ} 4096 i 0 0 lt) (inv.zeros is) c.write_at.ensures.others c.in_ok-write_at.ensures.written);
      crash = follows_on c.args.end at (length page) (g.D.Disk.may_leave old) (g.D.Disk.may_leave mid) (g.D.Disk.may_leave new) (omega arith) inv.crash c.write_at.ensures.crash;
      faults = c.in_ok-write_at.ensures.faults ∙ inv.faults;
      calm = c.write_at.ensures.calm ∙ inv.calm;
    }

pub returns-in_err-write_at-clause-left : goal.returns-in_err-write_at-clause-left
returns-in_err-write_at-clause-left g c =
    let inv = c.loop-page.invariant in
    let done = 4096 * c.loop-page.page in
    record {
      crash = follows_on c.args.end (c.args.end + done) (length (replicate {A = ℕ} 4096 0)) (g.D.Disk.may_leave c.args.disk.now) (g.D.Disk.may_leave c.loop-page.disk) (g.D.Disk.may_leave c.write_at.new.self) (omega arith) inv.crash c.write_at.ensures.crash;
      calm = c.write_at.ensures.calm ∙ inv.calm;
    }

pub returns-clause-left : goal.returns-clause-left
returns-clause-left g c = record { crash = c.loop-page.invariant.crash; calm = c.loop-page.invariant.calm }
