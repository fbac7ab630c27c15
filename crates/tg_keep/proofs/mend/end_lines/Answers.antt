use Rattle.std.proofs.Common.{ℕ, ◌+◌, List, sym, subst, arith, ap}
use Rattle.std.specs.Prelude.{IsTrue}
use Rattle.sqlite_disk.specs.Disk.{Cut, Only}
use Rattle.tg_keep.specs.Lines.{said_by}
use Rattle.tg_keep.specs.Opened.{HasEndedLines, HasLinesTo, IsEndedAt}
use Rattle.tg_keep.proofs.Mending.{cut_crash, ended_at, marked, write_crash}
use Rattle.tg_keep.proofs.Scanning.{ok_usable}
use Rattle.tg_keep.proofs.mend.end_lines.Goals as goal

pub returns-in_err-write_at-clause-crash : goal.returns-in_err-write_at-clause-crash
returns-in_err-write_at-clause-crash g c mixes lines f left =
    let disk = c.args.disk.now in
    ap said_by (write_crash (g.D.Disk.seen disk) c.args.end lines.lines (g.D.Disk.may_leave disk) (g.D.Disk.may_leave c.write_at.new.self) lines.durable (c.write_at.ensures.mixed (mixes disk) (omega (arith, c.requires.fits))) f left)

pub returns-in_err-sync-clause-crash : goal.returns-in_err-sync-clause-crash
returns-in_err-sync-clause-crash g c mixes lines f left =
    let disk = c.args.disk.now in
    ap said_by (write_crash (g.D.Disk.seen disk) c.args.end lines.lines (g.D.Disk.may_leave disk) (g.D.Disk.may_leave c.write_at.new.self) lines.durable (c.write_at.ensures.mixed (mixes disk) (omega (arith, c.requires.fits)))
    f (c.sync.ensures.crash f left))

pub returns-in_err-set_len-clause-crash : goal.returns-in_err-set_len-clause-crash
returns-in_err-set_len-clause-crash g c mixes lines f left =
    let disk = c.args.disk.now in
    let mid = g.D.Disk.seen c.write_at.new.self in
    let m = marked (g.D.Disk.seen disk) c.args.end lines.lines mid c.write_at.ensures.others c.in_ok-write_at.ensures.written in
    ap said_by (cut_crash (g.D.Disk.seen disk) c.args.end lines.lines mid m (g.D.Disk.may_leave c.sync.new.self) (g.D.Disk.may_leave c.set_len.new.self) c.in_ok-sync.ensures.durable c.set_len.ensures.crash f left)

pub returns-clause-crash : goal.returns-clause-crash
returns-clause-crash g c mixes lines f left =
    let disk = c.args.disk.now in
    let mid = g.D.Disk.seen c.write_at.new.self in
    let m = marked (g.D.Disk.seen disk) c.args.end lines.lines mid c.write_at.ensures.others c.in_ok-write_at.ensures.written in
    ap said_by (cut_crash (g.D.Disk.seen disk) c.args.end lines.lines mid m (g.D.Disk.may_leave c.sync.new.self) (g.D.Disk.may_leave c.set_len.new.self) c.in_ok-sync.ensures.durable c.set_len.ensures.crash
    f (c.sync-2.ensures.crash f left))

pub returns-clause-ended : goal.returns-clause-ended
returns-clause-ended g c =
    let disk = c.args.disk.now in
    let end = c.args.end in
    let mid = g.D.Disk.seen c.write_at.new.self in
    let cut = g.D.Disk.seen c.set_len.new.self in
    let new = c.sync-2.new.self in
    let P : List ℕ → Type 0 = λ l. Cut (end + 1) l cut in
    let Q : List ℕ → Type 0 = λ l. IsEndedAt end (g.D.Disk.seen disk) l in
    let R : List ℕ → Type 0 = λ l. Only l (g.D.Disk.may_leave new) in
    let is : HasLinesTo g.D.Disk.seen g.D.Disk.may_leave end disk → IsEndedAt end (g.D.Disk.seen disk) (g.D.Disk.seen new) = λ lines.
    let m = marked (g.D.Disk.seen disk) end lines.lines mid c.write_at.ensures.others c.in_ok-write_at.ensures.written in
    subst Q (sym c.sync-2.ensures.seen) (ended_at (g.D.Disk.seen disk) end lines.lines mid cut m (subst P c.sync.ensures.seen c.set_len.ensures.others) c.in_ok-set_len.ensures.len) in
    let done : IsTrue (g.D.Disk.is_usable new) → Only cut (g.D.Disk.may_leave new) → HasEndedLines g.D.Disk end disk new = λ usable only. record {
      usable = usable;
      ended = is;
      durable = subst R (sym c.sync-2.ensures.seen) only;
    } in
    ok_usable c.sync-2.result (g.D.Disk.is_usable new) (Only cut (g.D.Disk.may_leave new)) (HasEndedLines g.D.Disk end disk new) c.sync-2.ensures.usable c.sync-2.ensures.durable done
