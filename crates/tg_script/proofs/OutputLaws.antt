-- The text for the lines of a script is one text.
use Rattle.std.proofs.Common.{◌≡◌, inl, inr, ℕ, List, [], ◌∷◌, ◌++◌, Some, sym, ap, ◌∙◌, subst, arith}
use Rattle.tg_model.specs.declared.command.Deed.{Deed}
use Rattle.tg_model.specs.Graph.{IsReachable}
use Rattle.tg_model.specs.declared.value.Value.{Value}
use Rattle.tg_text.specs.declared.line.Line.{Line}
use Rattle.tg_text.specs.declared.line.Line.TheVariants as line
use Rattle.tg_text.specs.declared.answer.Answer.{Answer}
use Rattle.tg_text.specs.declared.answer.Answer.TheVariants as told
use Rattle.tg_text.specs.Texts.{answer_text}
use Rattle.tg_script.specs.Script.{Scene, AnswersMaking, Answers, IsOutput, IsAdmissible, create_of, spawn_of}
use Rattle.tg_script.proofs.CountLaws.{count_same}

pub is_output : (lines : List Line) (s : Scene) (text : List ℕ) → IsAdmissible s lines 0 text → IsOutput s lines text
is_output [] s text h = h.1
is_output (l ∷ lines) s text (inl h) = (h.0, h.1, h.2, h.3, h.4, is_output lines h.1 h.2 h.5)
is_output (l ∷ lines) s text (inr h) = absurd (omega (arith, h.4))

-- two answers to one line are one, and so are the scenes after it
abbrev Agree : Answer → Scene → Answer → Scene → Type 0
Agree a t b u = (a ≡ b) × (t ≡ u)

makings_same : (s : Scene) (x : ℕ) (making : Value → Deed) (stock : List Value) (a b : Answer) (t u : Scene) → AnswersMaking s x making stock a t → AnswersMaking s x making stock b u → Agree a t b u
makings_same s x making [] a b t u h k = (h.0 ∙ sym k.0, h.1 ∙ sym k.1)
makings_same s x making (value ∷ rest) a b t u (inl h) (inl k) = (h.1 ∙ sym k.1, h.2 ∙ sym k.2)
makings_same s x making (value ∷ rest) a b t u (inl h) (inr k) = absurd (k.0 h.0)
makings_same s x making (value ∷ rest) a b t u (inr h) (inl k) = absurd (h.0 k.0)
makings_same s x making (value ∷ rest) a b t u (inr h) (inr k) = (h.1 ∙ sym k.1, h.2 ∙ sym k.2)

answers_same : (s : Scene) (l : Line) (a b : Answer) (t u : Scene) → Answers s l a t → Answers s l b u → Agree a t b u
answers_same s (line.Edge e) a b t u h k = absurd h
answers_same s (line.Create x label) a b t u h k = makings_same s x (create_of label) s.stock a b t u h k
answers_same s (line.Spawn x label) a b t u h k = makings_same s x (spawn_of label) s.stock a b t u h k
answers_same s (line.Plain x c) a b t u (inl h) (inl k) = (h.1 ∙ sym k.1, h.2 ∙ sym k.2)
answers_same s (line.Plain x c) a b t u (inl h) (inr k) = absurd (k.0 h.0)
answers_same s (line.Plain x c) a b t u (inr h) (inl k) = absurd (h.0 k.0)
answers_same s (line.Plain x c) a b t u (inr h) (inr k) = (h.1 ∙ sym k.1, h.2 ∙ sym k.2)
answers_same s line.Full a b t u h k =
    (h.2 ∙ ap (λ n. told.Collected (Some n)) (count_same (IsReachable s.graph) h.0 k.0 h.1 k.1) ∙ sym k.2, h.3 ∙ sym k.3)
answers_same s line.Minor a b t u h k = (h.0 ∙ sym k.0, h.1 ∙ sym k.1)

pub outputs_same : (lines : List Line) (s : Scene) (text other : List ℕ) → IsOutput s lines text → IsOutput s lines other → text ≡ other
outputs_same [] s text other h k = h ∙ sym k
outputs_same (l ∷ lines) s text other h k =
    let same = answers_same s l h.0 k.0 h.1 k.1 h.3 k.3 in
    let P : Scene → Type 0 = λ x. IsOutput x lines h.2 in
    h.4 ∙ ap (λ x. answer_text x ++ h.2) same.0
    ∙ ap (λ x. answer_text k.0 ++ x) (outputs_same lines k.1 h.2 k.2 (subst P same.1 h.5) k.5)
    ∙ sym k.4
