use Rattle.std.proofs.Common.{refl, subst}
use Rattle.tg_plain.proofs.ReadingLaws.{too_long, fetches_known}
use Rattle.tg_text.specs.Fetching.{FetchesKnown}
use Rattle.tg_text.specs.declared.source.Fetched.{Fetched}
use Rattle.tg_text.specs.declared.source.Fetched.TheVariants.{LineTooLong}
use Rattle.tg_plain.proofs.reading.Reading.next.Goals as goal

pub returns-in-LineTooLong-clause-bytes : goal.returns-in-LineTooLong-clause-bytes
returns-in-LineTooLong-clause-bytes g c =
    λ bytes known.
    let room = c.args.self.now.lines.room in
    let left = g.S.Source.left in
    let came = c.next_line-fetched.new in
    let fetched = subst (λ (o : Fetched). FetchesKnown room (left c.args.source.now) o came.line (left came.source)) c.in-LineTooLong.is c.next_line-fetched.ensures.fetched.bytes in
    let k = fetches_known room (left c.args.source.now) bytes LineTooLong came.line (left came.source) known fetched in
    let h = too_long room bytes came.line k.0 k.2 in
    (k.0, k.1, (refl, h.0, h.1, h.2, h.3, h.4))
