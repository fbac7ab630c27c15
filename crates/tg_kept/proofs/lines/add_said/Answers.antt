use Rattle.std.proofs.Common.{◌≡◌, ◌∙◌, ◌∷◌, ◌++◌, [], List, ℕ, ap}
use Rattle.std.proofs.lemmas.Result.{on_ok_weaker}
use Rattle.tg_keep.specs.Batches.{batch_texts}
use Rattle.tg_keep.specs.Lines.{is_entry}
use Rattle.tg_kept.specs.Said.{said_line, said_text}
use Rattle.tg_kept.specs.Texts.{unended}
use Rattle.tg_kept.proofs.TextLaws.{said_may_be, unended_said}
use Rattle.tg_kept.proofs.lines.add_said.Goals as goal

pub add_written-requires : goal.add_written-requires
add_written-requires g c =
    let said = c.args.said.now in
    let wrote : c.write_said.new.sink.bytes.items ≡ c.clear.new.self.items ++ said_text said = cc c.in-Ok.ensures.0 in
    let is : c.deref.result.now ≡ said_text said = c.deref.ensures.value ∙ wrote ∙ ap (λ l. l ++ said_text said) c.clear.ensures.items in
    ap is_entry (unended_said said c.deref.result.now is) ∙ said_may_be said

pub returns-in-Ok-clause-texts : goal.returns-in-Ok-clause-texts
returns-in-Ok-clause-texts g c =
    let said = c.args.said.now in
    let old = batch_texts c.args.batch.now in
    let new = batch_texts c.add_written.new.batch in
    let wrote : c.write_said.new.sink.bytes.items ≡ c.clear.new.self.items ++ said_text said = cc c.in-Ok.ensures.0 in
    let is : c.deref.result.now ≡ said_text said = c.deref.ensures.value ∙ wrote ∙ ap (λ l. l ++ said_text said) c.clear.ensures.items in
    let adds : new ≡ old ++ unended c.deref.result.now ∷ [] → new ≡ old ++ said_line said ∷ [] =
    λ e. e ∙ ap (λ (l : List ℕ). old ++ l ∷ []) (unended_said said c.deref.result.now is) in
    on_ok_weaker c.add_written.result adds c.add_written.ensures.texts
