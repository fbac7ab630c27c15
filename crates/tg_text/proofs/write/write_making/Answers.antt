use Rattle.std.proofs.Common.{ℕ, List, ◌∷◌, [], subst}
use Rattle.std.specs.Prelude.{decimal}
use Rattle.tg_rights.specs.RightSet.{text_of}
use Rattle.tg_text.specs.Sinks.{Writes}
use Rattle.tg_text.proofs.WriteLaws.{words_join}
use Rattle.tg_text.proofs.SinkLaws.{writes_then, writes_cut_first}
use Rattle.tg_text.proofs.write.write_making.Goals as goal

pub returns : goal.returns
returns g c =
    let s = g.K.Sink in
    subst (λ (text : List ℕ). Writes (s.taken c.args.sink.now) (s.failures c.args.sink.now) text c.write_rights.result (s.taken c.write_rights.new.sink) (s.failures c.write_rights.new.sink)) (words_join (decimal c.args.worker) c.args.word.now (text_of c.args.label ∷ []))
    (writes_then _ _ _ _ _ _ _ _ _ c.in_ok-write_front.ensures (c.write_rights.ensures))

pub returns-in_err-write_front : goal.returns-in_err-write_front
returns-in_err-write_front g c =
    let s = g.K.Sink in
    subst (λ (text : List ℕ). Writes (s.taken c.args.sink.now) (s.failures c.args.sink.now) text c.from_residual.result (s.taken c.write_front.new.sink) (s.failures c.write_front.new.sink)) (words_join (decimal c.args.worker) c.args.word.now (text_of c.args.label ∷ []))
    (writes_cut_first _ _ _ _ _ _ _ c.from_residual.ensures.0 c.in_err-write_front.ensures)
