use Rattle.std.proofs.Common.{List, ℕ, append_assoc, subst}
use Rattle.std.specs.Fmt.{decimal}
use Rattle.std.specs.List.{flat_map}
use Rattle.tg_text.specs.Sinks.{Writes}
use Rattle.tg_text.proofs.SinkLaws.{writes_then, writes_cut_first}
use Rattle.tg_saved.specs.Values.{more_text}
use Rattle.tg_saved.proofs.value.write_joined.Goals as goal

pub returns : goal.returns
returns g c =
    let s = g.K.Sink in
    let front = c.args.front.now in
    let more = flat_map more_text c.args.rest.now in
    subst (λ (text : List ℕ). Writes (s.taken c.args.sink.now) (s.failures c.args.sink.now) text c.write_more.result (s.taken c.write_more.new.sink) (s.failures c.write_more.new.sink))
    (append_assoc front (decimal c.args.first) more)
    (writes_then _ _ _ _ _ _ _ _ _ c.in_ok-write_number.ensures c.write_more.ensures)

pub returns-in_err-write_number : goal.returns-in_err-write_number
returns-in_err-write_number g c =
    let s = g.K.Sink in
    let front = c.args.front.now in
    let more = flat_map more_text c.args.rest.now in
    subst (λ (text : List ℕ). Writes (s.taken c.args.sink.now) (s.failures c.args.sink.now) text c.from_residual.result (s.taken c.write_number.new.sink) (s.failures c.write_number.new.sink))
    (append_assoc front (decimal c.args.first) more)
    (writes_cut_first _ _ _ _ _ _ _ c.from_residual.ensures.0 c.in_err-write_number.ensures)
