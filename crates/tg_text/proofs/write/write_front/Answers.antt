use Rattle.std.proofs.Common.{◌≡◌, ◌∙◌, ℕ, List, ◌∷◌, ◌++◌, ap₂, append-nil, subst}
use Rattle.std.specs.Fmt.{decimal}
use Rattle.tg_text.specs.Sinks.{Writes}
use Rattle.tg_text.proofs.write.write_front.Goals as goal

pub returns : goal.returns
returns g c =
    let s = g.K.Sink in
    let digits : c.as_bytes.result.now ≡ decimal c.args.worker = c.as_bytes.ensures.value ∙ c.format.ensures.text in
    subst (λ (text : List ℕ). Writes (s.taken c.args.sink.now) (s.failures c.args.sink.now) text c.put_texts.result (s.taken c.put_texts.new.sink) (s.failures c.put_texts.new.sink)) (ap₂ (λ (a b : List ℕ). a ++ 32 ∷ b) digits (append-nil c.args.word.now)) c.put_texts.ensures
