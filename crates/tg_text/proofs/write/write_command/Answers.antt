use Rattle.std.proofs.Common.{◌≡◌, ◌∙◌, ℕ, List, ◌∷◌, ◌++◌, ap, ap₂, subst}
use Rattle.std.specs.Fmt.{decimal}
use Rattle.std.specs.List.{join_with_byte}
use Rattle.tg_model.specs.declared.verb.Verb.{Verb}
use Rattle.tg_model.specs.declared.verb.Arguments.{Arguments}
use Rattle.tg_model.specs.Commands.{verb_and_arguments, word_of}
use Rattle.tg_text.specs.Grammar.{words_of_arguments}
use Rattle.tg_text.specs.Sinks.{Writes}
use Rattle.tg_text.specs.Inner.Words.{words_behind}
use Rattle.tg_text.proofs.WriteLaws.{words_join}
use Rattle.tg_text.proofs.SinkLaws.{writes_then, writes_cut_first}
use Rattle.tg_text.proofs.write.write_command.Goals as goal

-- the word, and what is after it, of the parts that were told
same_text : (x : ℕ) (word : List ℕ) (told parts : Verb × Arguments) → told ≡ parts → word ≡ word_of told.0
    → (decimal x ++ 32 ∷ word) ++ words_behind (words_of_arguments told.1) ≡ join_with_byte 32 (decimal x ∷ word_of parts.0 ∷ words_of_arguments parts.1)
same_text x word told parts same is =
    words_join (decimal x) word (words_of_arguments told.1)
    ∙ ap₂ (λ (word : List ℕ) (words : List (List ℕ)). join_with_byte 32 (decimal x ∷ word ∷ words)) (is ∙ ap (λ (p : Verb × Arguments). word_of p.0) same) (ap (λ (p : Verb × Arguments). words_of_arguments p.1) same)

pub returns : goal.returns
returns g c =
    let s = g.K.Sink in
    subst (λ (text : List ℕ). Writes (s.taken c.args.sink.now) (s.failures c.args.sink.now) text c.write_arguments.result (s.taken c.write_arguments.new.sink) (s.failures c.write_arguments.new.sink))
    (same_text c.args.worker c.word.result.now c.parts-verb.result (verb_and_arguments c.args.command) c.parts-verb.ensures c.word.ensures)
    (writes_then _ _ _ _ _ _ _ _ _ c.in_ok-write_front.ensures c.write_arguments.ensures)

pub returns-in_err-write_front : goal.returns-in_err-write_front
returns-in_err-write_front g c =
    let s = g.K.Sink in
    subst (λ (text : List ℕ). Writes (s.taken c.args.sink.now) (s.failures c.args.sink.now) text c.from_residual.result (s.taken c.write_front.new.sink) (s.failures c.write_front.new.sink))
    (same_text c.args.worker c.word.result.now c.parts-verb.result (verb_and_arguments c.args.command) c.parts-verb.ensures c.word.ensures)
    (writes_cut_first _ _ _ _ _ _ _ c.from_residual.ensures.0 c.in_err-write_front.ensures)
