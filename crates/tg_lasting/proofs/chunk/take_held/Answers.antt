use Rattle.std.proofs.Common.{◌≡◌, ◌++◌, List, rules, subst, take, ℕ}
use Rattle.std.specs.Io.BufRead.{FillKeeps}
use Rattle.std.proofs.BufReadLemmas.{Consumes_shown}
use Rattle.tg_lasting.proofs.ChunkLaws.{held_lines_came, held_piece_came}
use Rattle.tg_lasting.proofs.chunk.take_held.Goals as goal

pub returns-then-is_ended-clause-taken : goal.returns-then-is_ended-clause-taken
returns-then-is_ended-clause-taken g c =
    let shown = c.in-Ok.bytes.now in
    let held = c.held_lines-count in
    let rested = c.fill_buf.follows.lender-at-none in
    let filled = subst (FillKeeps _ (g.R.Read.remaining rested) (g.R.BufRead.consumable_len rested)) c.in-Ok.is c.fill_buf.follows.holds-at-none in
    let moved = Consumes_shown _ _ _ _ shown held.result.count held.ensures.within.1 c.in-Ok.ensures.front c.in-Ok.ensures.end filled.0 filled.1 c.consume.ensures.bytes in
    let is : c.extend_from_slice.new.self.items ≡ c.args.chunk.now.items ++ take held.result.count shown = search rules in
    held_lines_came (g.R.Read.remaining c.args.reader.now) (g.R.Read.remaining c.consume.new.self) (take held.result.count shown) c.args.chunk.now.items c.extend_from_slice.new.self.items moved.0 is (held.ensures.lines c.if-is_ended.true)

pub returns-clause-taken : goal.returns-clause-taken
returns-clause-taken g c =
    let shown = c.in-Ok.bytes.now in
    let held = c.held_lines-count in
    let rested = c.fill_buf.follows.lender-at-none in
    let filled = subst (FillKeeps _ (g.R.Read.remaining rested) (g.R.BufRead.consumable_len rested)) c.in-Ok.is c.fill_buf.follows.holds-at-none in
    let moved = Consumes_shown _ _ _ _ shown held.result.count held.ensures.within.1 c.in-Ok.ensures.front c.in-Ok.ensures.end filled.0 filled.1 c.consume.ensures.bytes in
    let is : c.extend_from_slice.new.self.items ≡ c.args.chunk.now.items ++ take held.result.count shown = search rules in
    held_piece_came (g.R.Read.remaining c.args.reader.now) (g.R.Read.remaining c.consume.new.self) (take held.result.count shown) c.args.chunk.now.items c.extend_from_slice.new.self.items moved.0 is (held.ensures.piece c.if-is_ended.false)
