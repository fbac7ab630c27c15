use Rattle.std.proofs.Common.{◌≡◌, ◌++◌, List, ℕ, OnOk, subst, sym}
use Rattle.tg_saved.specs.Texts.{lines_text}
use Rattle.tg_saved.proofs.lines.ReadLines.add.Goals as goal

pub returns-then-starts_with : goal.returns-then-starts_with
returns-then-starts_with g c = λ text was.
    subst (λ (line : List ℕ). OnOk c.add_edge.result (text ++ line ≡ lines_text c.add_edge.new.self)) (sym c.in_ok-edge.ensures) (c.add_edge.ensures text was)

pub returns-then-starts_with-2 : goal.returns-then-starts_with-2
returns-then-starts_with-2 g c = λ text was.
    subst (λ (line : List ℕ). OnOk c.add_vertex.result (text ++ line ≡ lines_text c.add_vertex.new.self)) (sym c.in_ok-vertex.ensures) (c.add_vertex.ensures text was)

pub returns : goal.returns
returns g c = λ text was.
    subst (λ (line : List ℕ). OnOk c.add_subject.result (text ++ line ≡ lines_text c.add_subject.new.self)) (sym c.in_ok-name.ensures) (c.add_subject.ensures text was)
