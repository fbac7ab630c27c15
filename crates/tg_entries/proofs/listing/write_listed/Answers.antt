use Rattle.std.proofs.Common.{◌≡◌, ◌∙◌, ℕ, List, [], ◌∷◌, ◌++◌, ap, sym, subst, append-nil, append_assoc}
use Rattle.std.specs.Prelude.{decimal}
use Rattle.tg_rights.specs.RightSet.{text_of}
use Rattle.tg_text.specs.Sinks.{Writes}
use Rattle.tg_entries.proofs.listing.write_listed.Goals as goal

pub returns : goal.returns
returns g c =
    let s = g.K.Sink in
    let name = decimal c.args.edge.0 in
    let letters = text_of c.args.edge.1 in
    let digits : c.as_bytes.result.now ≡ name = cc in
    let rights : c.as_bytes-2.result.now ≡ letters = cc in
    subst (λ (text : List ℕ). Writes (s.taken c.args.sink.now) (s.failures c.args.sink.now) text c.put_texts.result (s.taken c.put_texts.new.sink) (s.failures c.put_texts.new.sink))
    (ap (λ (x : List ℕ). 32 ∷ (x ++ 58 ∷ (c.as_bytes-2.result.now ++ []))) digits
    ∙ ap (λ (x : List ℕ). 32 ∷ (name ++ 58 ∷ x)) (append-nil c.as_bytes-2.result.now ∙ rights)
    ∙ ap (λ (x : List ℕ). 32 ∷ x) (sym (append_assoc name (58 ∷ []) letters)))
    c.put_texts.ensures
