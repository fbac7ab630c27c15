use Rattle.std.proofs.Common.{◌+◌, ◌≤◌, true, length, sym, subst, arith}
use Rattle.std.specs.Io.BufRead.{FillKeeps}
use Rattle.std.proofs.BufReadLemmas.{Consumes_shown}
use Rattle.tg_text.specs.Fetching.{TakesLineAtOnce}
use Rattle.tg_text.proofs.StreamLaws.{tells_line}
use Rattle.tg_text.proofs.stream.OfReadSource.take_line.Goals as goal

pub returns-clause-bytes : goal.returns-clause-bytes
returns-clause-bytes g c =
    let shown = c.in-Ok.bytes.now in
    let at = c.in-Some.at in
    let took = c.in-Some.ensures.taken in
    let inside = took.1 in
    let rested = c.fill_buf.follows.lender-at-none in
    let filled = subst (FillKeeps _ (g.R.Read.remaining rested) (g.R.BufRead.consumable_len rested)) c.in-Ok.is c.fill_buf.follows.holds-at-none in
    let more : at + 1 ≤ length shown = omega (arith, inside) in
    let moved = Consumes_shown _ _ _ _ shown (at + 1) more c.in-Ok.ensures.front c.in-Ok.ensures.end filled.0 filled.1 c.consume.ensures.bytes in
    subst (λ line. TakesLineAtOnce (g.R.Read.remaining c.args.self.now.reader) true line (g.R.Read.remaining c.consume.new.self)) (sym took.3) (tells_line _ _ shown at inside took.2 moved.0)
