use Rattle.std.proofs.Common.{◌*◌, refl, subst, arith, ap}
use Rattle.std.specs.Prelude.{IsTrue}
use Rattle.tg_keep.specs.Lines.{said_by}
use Rattle.tg_keep.proofs.Closing.{laying_open}
use Rattle.tg_keep.proofs.Laying.{laid_says, laid_synced, laying_crash}
use Rattle.tg_keep.proofs.file.LineFile.add_zeros.Goals as goal

pub returns-in_err-lay_zeros-clause-left : goal.returns-in_err-lay_zeros-clause-left
returns-in_err-lay_zeros-clause-left g c =
    let left = c.lay_zeros.ensures.left in
    let settled = c.requires.settled in
    let new = g.D.Disk.may_leave c.lay_zeros.new.disk in
    record {
      crash = λ clean f may.
          ap said_by (laying_crash g.D.Disk.seen g.D.Disk.may_leave c.args.self.now (settled.synced (subst IsTrue left.calm clean)) settled.room new left.crash f may);
      unclosed = λ clean.
          laying_open g.D.Disk.seen g.D.Disk.may_leave c.args.self.now (settled.synced (subst IsTrue left.calm clean)) settled.room new left.crash;
      calm = left.calm;
    }

pub returns-clause-left : goal.returns-clause-left
returns-clause-left g c =
    let left = c.lay_zeros.ensures.left in
    let settled = c.requires.settled in
    let new = g.D.Disk.may_leave c.lay_zeros.new.disk in
    record {
      crash = λ clean f may.
          ap said_by (laying_crash g.D.Disk.seen g.D.Disk.may_leave c.args.self.now (settled.synced (subst IsTrue left.calm clean)) settled.room new left.crash f may);
      unclosed = λ clean.
          laying_open g.D.Disk.seen g.D.Disk.may_leave c.args.self.now (settled.synced (subst IsTrue left.calm clean)) settled.room new left.crash;
      calm = left.calm;
    }

pub returns-clause-grown : goal.returns-clause-grown
returns-clause-grown g c =
    let laid = c.in_ok-lay_zeros.ensures.laid in
    let calm = c.lay_zeros.ensures.left.calm in
    let settled = c.requires.settled in
    record {
      settled = record {
        usable = laid.usable;
        room = omega (arith, settled.room);
        synced = λ clean.
            let synced = settled.synced (subst IsTrue calm clean) in
            laid_synced g.D.Disk.seen g.D.Disk.may_leave c.args.self.now synced settled.room _ (4096 * c.args.pages) refl refl refl (laid.zeros synced.size) laid.durable;
      };
      texts = λ clean.
          let synced = settled.synced (subst IsTrue calm clean) in
          ap said_by (laid_says g.D.Disk.seen g.D.Disk.may_leave c.args.self.now synced settled.room (4096 * c.args.pages) (g.D.Disk.seen c.lay_zeros.new.disk) (laid.zeros synced.size));
      longer = refl;
    }
