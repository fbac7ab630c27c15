use Rattle.std.proofs.Common.{refl}
use Rattle.tg_script.proofs.LinesLaws.{too_long, fetches_known}
use Rattle.tg_text.specs.declared.source.Fetched.TheVariants.{LineTooLong}
use Rattle.tg_script.proofs.script.Script.next.Goals as goal

pub returns-in-LineTooLong-clause-bytes : goal.returns-in-LineTooLong-clause-bytes
returns-in-LineTooLong-clause-bytes g c =
    λ bytes known.
    let room = c.args.self.now.lines.room in
    let left = g.S.Source.left in
    let k = fetches_known room (left c.args.source.now) bytes LineTooLong c.next_line.new.line (left c.next_line.new.source) known c.in-LineTooLong.ensures.fetched.bytes in
    let h = too_long room bytes c.next_line.new.line k.0 k.2 in
    (k.0, k.1, (tt, (refl, h.0, h.1, h.2, h.3, h.4)))
