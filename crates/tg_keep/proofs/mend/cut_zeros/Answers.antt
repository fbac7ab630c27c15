use Rattle.std.proofs.Common.{ℕ, List, sym, ◌∙◌, subst, ap}
use Rattle.std.proofs.lemmas.Result.{on_ok_weaker}
use Rattle.sqlite_disk.specs.Disk.{Only}
use Rattle.tg_keep.specs.Lines.{said_by}
use Rattle.tg_keep.specs.Opened.{HasCut}
use Rattle.tg_keep.proofs.Mending.{cut_end_crash, cut_is_front}
use Rattle.tg_keep.proofs.mend.cut_zeros.Goals as goal

pub end_lines-requires : goal.end_lines-requires
end_lines-requires g c = record { usable = c.requires.usable; fits = c.requires.fits }

pub returns-in_err-end_lines-clause-crash : goal.returns-in_err-end_lines-clause-crash
returns-in_err-end_lines-clause-crash g c lines = c.end_lines.ensures.crash c.requires.mixing lines

pub returns-in_err-set_len-clause-crash : goal.returns-in_err-set_len-clause-crash
returns-in_err-set_len-clause-crash g c lines f left =
    let disk = c.args.disk.now in
    let mid = c.end_lines.new.disk in
    let e = c.in_ok-end_lines.ensures.ended in
    ap said_by (cut_end_crash (g.D.Disk.seen disk) c.args.end lines.lines (g.D.Disk.seen mid) (e.ended lines) (g.D.Disk.may_leave mid) (g.D.Disk.may_leave c.set_len.new.self) e.durable c.set_len.ensures.crash f left)

pub returns-clause-crash : goal.returns-clause-crash
returns-clause-crash g c lines f left =
    let disk = c.args.disk.now in
    let mid = c.end_lines.new.disk in
    let e = c.in_ok-end_lines.ensures.ended in
    ap said_by (cut_end_crash (g.D.Disk.seen disk) c.args.end lines.lines (g.D.Disk.seen mid) (e.ended lines) (g.D.Disk.may_leave mid) (g.D.Disk.may_leave c.set_len.new.self) e.durable c.set_len.ensures.crash f (c.sync.ensures.crash f left))

pub returns-clause-cut : goal.returns-clause-cut
returns-clause-cut g c =
    let disk = c.args.disk.now in
    let end = c.args.end in
    let mid = g.D.Disk.seen c.end_lines.new.disk in
    let cut = g.D.Disk.seen c.set_len.new.self in
    let new = c.sync.new.self in
    let e = c.in_ok-end_lines.ensures.ended in
    let R : List ℕ → Type 0 = λ l. Only l (g.D.Disk.may_leave new) in
    let done : Only cut (g.D.Disk.may_leave new) → HasCut g.D.Disk end disk new = λ only. record {
      cut = λ lines. c.sync.ensures.seen ∙ cut_is_front (g.D.Disk.seen disk) end lines.lines mid cut (e.ended lines) c.set_len.ensures.others c.in_ok-set_len.ensures.len;
      durable = subst R (sym c.sync.ensures.seen) only;
    } in
    on_ok_weaker c.sync.result done c.sync.ensures.durable
