use Rattle.std.proofs.Common.{ℕ, List, ◌++◌, subst, sym}
use Rattle.tg_entries.specs.Read.{HasHead}
use Rattle.tg_entries.proofs.audit.opening_line.Goals as goal

pub returns-then-starts_with : goal.returns-then-starts_with
returns-then-starts_with g c = λ text was.
    subst (λ (line : List ℕ). HasHead (text ++ line) c.add_value.new.head) (sym c.in_ok-value.ensures) (c.in_ok-add_value.ensures text was)

pub returns-then-starts_with-2 : goal.returns-then-starts_with-2
returns-then-starts_with-2 g c = λ text was.
    subst (λ (line : List ℕ). HasHead (text ++ line) c.add_edge.new.head) (sym c.in_ok-edge.ensures) (c.in_ok-add_edge.ensures text was)
