use Rattle.std.proofs.Common.{◌∙◌, ap, arith, subst, refl}
use Rattle.std.specs.Prelude.{IsTrue}
use Rattle.tg_keep.specs.Lines.{file_texts}
use Rattle.tg_keep.proofs.Closing.{write_open}
use Rattle.tg_keep.proofs.Ready.{begun, done, ready, settled_again}
use Rattle.tg_keep.proofs.file.LineFile.write.Goals as goal

pub returns-in_err-write_at-clause-left : goal.returns-in_err-write_at-clause-left
returns-in_err-write_at-clause-left g c =
    let file = c.args.self.now in
    let may = c.requires in
    let bytes = c.args.bytes.now in
    let old = g.D.Disk.may_leave file.disk in
    let new = g.D.Disk.may_leave c.write_at.new.self in
    let mixed = c.write_at.ensures.mixed may.mixing (omega (arith, may.room)) in
    record {
      crash = λ clean.
          let s = may.settled.synced (subst IsTrue c.write_at.ensures.calm clean) in
          let r = ready g.D.Disk.seen g.D.Disk.may_leave file bytes file.sum.digits s refl may.room may.whole in
          begun (g.D.Disk.seen file.disk) file.end bytes file.sum.digits bytes r refl old new s.durable mixed;
      unclosed = λ clean.
          let s = may.settled.synced (subst IsTrue c.write_at.ensures.calm clean) in
          write_open (g.D.Disk.seen file.disk) file.end bytes s.zeros (omega (arith, may.room, s.size)) old new s.durable mixed;
      calm = c.write_at.ensures.calm;
    }

pub returns-in_err-sync-clause-left : goal.returns-in_err-sync-clause-left
returns-in_err-sync-clause-left g c =
    let file = c.args.self.now in
    let may = c.requires in
    let bytes = c.args.bytes.now in
    let old = g.D.Disk.may_leave file.disk in
    let new = g.D.Disk.may_leave c.write_at.new.self in
    let mixed = c.write_at.ensures.mixed may.mixing (omega (arith, may.room)) in
    let calm = c.sync.ensures.calm ∙ c.write_at.ensures.calm in
    record {
      crash = λ clean f left.
          let s = may.settled.synced (subst IsTrue calm clean) in
          let r = ready g.D.Disk.seen g.D.Disk.may_leave file bytes file.sum.digits s refl may.room may.whole in
          begun (g.D.Disk.seen file.disk) file.end bytes file.sum.digits bytes r refl old new s.durable mixed f (c.sync.ensures.crash f left);
      unclosed = λ clean f left.
          let s = may.settled.synced (subst IsTrue calm clean) in
          write_open (g.D.Disk.seen file.disk) file.end bytes s.zeros (omega (arith, may.room, s.size)) old new s.durable mixed f (c.sync.ensures.crash f left);
      calm = calm;
    }

pub returns-clause-left : goal.returns-clause-left
returns-clause-left g c =
    let file = c.args.self.now in
    let may = c.requires in
    let bytes = c.args.bytes.now in
    let old = g.D.Disk.may_leave file.disk in
    let new = g.D.Disk.may_leave c.write_at.new.self in
    let mixed = c.write_at.ensures.mixed may.mixing (omega (arith, may.room)) in
    let calm = c.sync.ensures.calm ∙ c.write_at.ensures.calm in
    record {
      crash = λ clean f left.
          let s = may.settled.synced (subst IsTrue calm clean) in
          let r = ready g.D.Disk.seen g.D.Disk.may_leave file bytes file.sum.digits s refl may.room may.whole in
          begun (g.D.Disk.seen file.disk) file.end bytes file.sum.digits bytes r refl old new s.durable mixed f (c.sync.ensures.crash f left);
      unclosed = λ clean f left.
          let s = may.settled.synced (subst IsTrue calm clean) in
          write_open (g.D.Disk.seen file.disk) file.end bytes s.zeros (omega (arith, may.room, s.size)) old new s.durable mixed f (c.sync.ensures.crash f left);
      calm = calm;
    }

pub returns-clause-written : goal.returns-clause-written
returns-clause-written g c =
    let file = c.args.self.now in
    let may = c.requires in
    let bytes = c.args.bytes.now in
    let calm = c.sync.ensures.calm ∙ c.write_at.ensures.calm in
    record {
      settled = record {
        usable = c.in_ok-sync.ensures.usable;
        room = omega (arith, may.room);
        synced = λ clean.
            let s = may.settled.synced (subst IsTrue calm clean) in
            let r = ready g.D.Disk.seen g.D.Disk.may_leave file bytes file.sum.digits s refl may.room may.whole in
            let d = done (g.D.Disk.seen file.disk) file.end bytes file.sum.digits bytes (g.D.Disk.seen c.write_at.new.self) r refl c.write_at.ensures.others c.in_ok-write_at.ensures.written in
            settled_again g.D.Disk.seen g.D.Disk.may_leave _ (g.D.Disk.seen file.disk) file.end bytes file.sum.digits (g.D.Disk.seen c.write_at.new.self) r d
            refl s.size may.last c.sync.ensures.seen c.in_ok-sync.ensures.durable;
      };
      texts = λ clean.
          let s = may.settled.synced (subst IsTrue calm clean) in
          let r = ready g.D.Disk.seen g.D.Disk.may_leave file bytes file.sum.digits s refl may.room may.whole in
          let d = done (g.D.Disk.seen file.disk) file.end bytes file.sum.digits bytes (g.D.Disk.seen c.write_at.new.self) r refl c.write_at.ensures.others c.in_ok-write_at.ensures.written in
          ap file_texts c.sync.ensures.seen ∙ d.texts;
      fits = omega arith;
    }
