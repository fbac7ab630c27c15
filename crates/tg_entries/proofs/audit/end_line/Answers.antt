use Rattle.std.proofs.Common.{List, ℕ, ◌++◌, ap}
use Rattle.tg_entries.proofs.audit.end_line.Goals as goal

pub returns : goal.returns
returns g c = λ keeps text was. record { front = text; read = was; whole = ap (λ (x : List ℕ). text ++ x) c.in_ok-check_part.ensures.same }
