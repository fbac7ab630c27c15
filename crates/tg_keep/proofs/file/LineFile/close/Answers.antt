use Rattle.std.proofs.Common.{◌∙◌, ap, sym, subst, refl, arith}
use Rattle.std.specs.Prelude.{IsTrue}
use Rattle.tg_keep.specs.Lines.{history_of}
use Rattle.tg_keep.proofs.Marking.{both, cut_closed, cut_says, synced_lines}
use Rattle.tg_keep.proofs.file.LineFile.close.Goals as goal

pub put_mark-requires : goal.put_mark-requires
put_mark-requires g c = record { settled = c.requires.settled; mixing = c.requires.mixing; marking = sym c.if-not-is_marking.ensures }

pub put_mark-requires-2 : goal.put_mark-requires-2
put_mark-requires-2 g c = record { settled = c.in_ok-put_mark.ensures.marked.settled; mixing = c.requires.mixing; marking = sym c.if-not-is_marking.ensures }

pub cut_zeros-requires : goal.cut_zeros-requires
cut_zeros-requires g c =
    let settled = c.in_ok-put_mark-2.ensures.marked.settled in
    record { usable = settled.usable; fits = omega (arith, settled.room, c.in_ok-put_mark-2.ensures.marked.fits); mixing = c.requires.mixing }

pub returns-then-not-is_marking-clause-left : goal.returns-then-not-is_marking-clause-left
returns-then-not-is_marking-clause-left g c = record {
  crash = λ clean f left. ap history_of ((c.requires.settled.synced clean).durable f left);
  calm = refl;
}

pub returns-in_err-put_mark-clause-left : goal.returns-in_err-put_mark-clause-left
returns-in_err-put_mark-clause-left g c = let left = c.put_mark.ensures.left in record { crash = left.crash; calm = left.calm }

pub returns-in_err-put_mark-2-clause-left : goal.returns-in_err-put_mark-2-clause-left
returns-in_err-put_mark-2-clause-left g c =
    let left = c.put_mark-2.ensures.left in
    record {
      crash = λ clean f may. left.crash clean f may ∙ c.in_ok-put_mark.ensures.marked.texts (subst IsTrue left.calm clean);
      calm = left.calm ∙ c.put_mark.ensures.left.calm;
    }

pub returns-in_err-cut_zeros-clause-left : goal.returns-in_err-cut_zeros-clause-left
returns-in_err-cut_zeros-clause-left g c =
    let file = c.put_mark-2.new.self in
    let marked = c.in_ok-put_mark-2.ensures.marked in
    let calm = c.cut_zeros.ensures.calm in
    let again = c.put_mark-2.ensures.left.calm in
    record {
      crash = λ clean f may.
          let synced = marked.settled.synced (subst IsTrue calm clean) in
          let lines = synced_lines g.D.Disk.seen g.D.Disk.may_leave file synced (omega (arith, marked.settled.room)) (omega (arith, marked.settled.room)) in
          c.cut_zeros.ensures.crash lines f may ∙ marked.texts (subst IsTrue calm clean) ∙ c.in_ok-put_mark.ensures.marked.texts (subst IsTrue (calm ∙ again) clean);
      calm = calm ∙ again ∙ c.put_mark.ensures.left.calm;
    }

pub returns-clause-left : goal.returns-clause-left
returns-clause-left g c =
    let file = c.put_mark-2.new.self in
    let marked = c.in_ok-put_mark-2.ensures.marked in
    let calm = c.cut_zeros.ensures.calm in
    let again = c.put_mark-2.ensures.left.calm in
    record {
      crash = λ clean f may.
          let synced = marked.settled.synced (subst IsTrue calm clean) in
          let lines = synced_lines g.D.Disk.seen g.D.Disk.may_leave file synced (omega (arith, marked.settled.room)) (omega (arith, marked.settled.room)) in
          c.cut_zeros.ensures.crash lines f may ∙ marked.texts (subst IsTrue calm clean) ∙ c.in_ok-put_mark.ensures.marked.texts (subst IsTrue (calm ∙ again) clean);
      calm = calm ∙ again ∙ c.put_mark.ensures.left.calm;
    }

pub returns-clause-closed : goal.returns-clause-closed
returns-clause-closed g c =
    let file = c.put_mark-2.new.self in
    let marked = c.in_ok-put_mark-2.ensures.marked in
    let calm = c.cut_zeros.ensures.calm in
    let again = c.put_mark-2.ensures.left.calm in
    let cut = c.in_ok-cut_zeros.ensures.cut in
    let room = marked.settled.room in
    let is = both c.args.mark.now (sym c.if-not-is_marking.ensures) in
    record {
      texts = λ clean.
          let synced = marked.settled.synced (subst IsTrue calm clean) in
          let lines = synced_lines g.D.Disk.seen g.D.Disk.may_leave file synced (omega (arith, room)) (omega (arith, room)) in
          cut_says g.D.Disk.seen g.D.Disk.may_leave file synced (omega (arith, room)) (g.D.Disk.seen c.cut_zeros.new.disk) (cut.cut lines)
          ∙ marked.texts (subst IsTrue calm clean)
          ∙ c.in_ok-put_mark.ensures.marked.texts (subst IsTrue (calm ∙ again) clean);
      closed = λ clean f may.
          let synced = marked.settled.synced (subst IsTrue calm clean) in
          let lines = synced_lines g.D.Disk.seen g.D.Disk.may_leave file synced (omega (arith, room)) (omega (arith, room)) in
          cut_closed g.D.Disk.seen g.D.Disk.may_leave file synced (omega (arith, room)) c.args.mark.now (marked.last (subst IsTrue calm clean)) is.1 (g.D.Disk.seen c.cut_zeros.new.disk) f (cut.cut lines) (cut.durable f may);
    }
