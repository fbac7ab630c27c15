use Rattle.std.proofs.Common.{ap, refl}
use Rattle.tg_keep.specs.Lines.{history_of}
use Rattle.tg_keep.proofs.Closing.{synced_open}
use Rattle.tg_keep.proofs.file.LineFile.make_room.Goals as goal

pub returns-then-bytes-self-clause-left : goal.returns-then-bytes-self-clause-left
returns-then-bytes-self-clause-left g c =
    let settled = c.requires.settled in
    record {
      crash = λ clean f left. ap history_of ((settled.synced clean).durable f left);
      unclosed = λ clean. synced_open g.D.Disk.seen g.D.Disk.may_leave c.args.self.now (settled.synced clean) settled.room;
      calm = refl;
    }

pub returns-then-self-gt-MOST-clause-left : goal.returns-then-self-gt-MOST-clause-left
returns-then-self-gt-MOST-clause-left g c =
    let settled = c.requires.settled in
    record {
      crash = λ clean f left. ap history_of ((settled.synced clean).durable f left);
      unclosed = λ clean. synced_open g.D.Disk.seen g.D.Disk.may_leave c.args.self.now (settled.synced clean) settled.room;
      calm = refl;
    }
