use Rattle.std.proofs.Common.{take}
use Rattle.std.proofs.lemmas.Result.{on_ok_weaker}
use Rattle.tg_entries.proofs.PieceLaws.{fetches_none}
use Rattle.tg_plain.proofs.input.read_byte.Goals as goal

pub returns-in-Ok : goal.returns-in-Ok
returns-in-Ok g c =
    on_ok_weaker c.add_some.result (λ is. record { piece = take c.in-Ok.count c.read.new.buf; taken = c.in-Ok.ensures.bytes.0; held_is = is }) c.add_some.ensures

pub returns-in-Err : goal.returns-in-Err
returns-in-Err g c = fetches_none c.args.front.now.items _ _ c.in-Err.ensures.bytes
