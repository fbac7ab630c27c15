use Rattle.std.proofs.Common.{◌∙◌}
use Rattle.tg_plain.proofs.PastLaws.{chained, from_start}
use Rattle.tg_plain.proofs.input.InputText.read.Goals as goal

pub returns-then-is_history : goal.returns-then-is_history
returns-then-is_history g c = λ bytes known.
    let left = g.R.Read.remaining in
    let shown = from_start c.new.result.inner c.in_ok-front.front c.new.result.pos c.new.ensures.inner c.new.ensures.position in
    c.read_entries.ensures bytes
    (c.chain-whole.ensures.bytes ∙ chained (left c.args.reader) (left c.read_front.new.reader) bytes c.in_ok-front.front.items _ c.in_ok-front.ensures known shown)

pub returns-else-is_history : goal.returns-else-is_history
returns-else-is_history g c = λ bytes known.
    let left = g.R.Read.remaining in
    let shown = from_start c.new.result.inner c.in_ok-front.front c.new.result.pos c.new.ensures.inner c.new.ensures.position in
    c.read_lines.ensures bytes
    (c.chain-whole.ensures.bytes ∙ chained (left c.args.reader) (left c.read_front.new.reader) bytes c.in_ok-front.front.items _ c.in_ok-front.ensures known shown)
