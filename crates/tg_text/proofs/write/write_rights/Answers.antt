use Rattle.std.proofs.Common.{◌≡◌, ◌∙◌, ℕ, List, [], ◌∷◌, ◌++◌, ap, append-nil, subst}
use Rattle.tg_rights.specs.RightSet.{text_of}
use Rattle.tg_text.specs.Sinks.{Writes}
use Rattle.tg_text.proofs.write.write_rights.Goals as goal

pub returns : goal.returns
returns g c =
    let s = g.K.Sink in
    let letters : c.as_bytes.result.now ++ [] ≡ text_of c.args.label = append-nil c.as_bytes.result.now ∙ c.as_bytes.ensures.letters ∙ c.text-rights.ensures ∙ ap text_of c.rights.ensures.same in
    subst (λ (text : List ℕ). Writes (s.taken c.args.sink.now) (s.failures c.args.sink.now) text c.put_texts.result (s.taken c.put_texts.new.sink) (s.failures c.put_texts.new.sink)) (ap (λ (word : List ℕ). 32 ∷ word) letters) c.put_texts.ensures
