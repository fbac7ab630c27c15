use Rattle.std.proofs.Common.{◌≡◌, true, ℕ}
use Rattle.tg_rights.specs.RightSet.{RightSet, has}
use Rattle.tg_rights.specs.declared.Right.{Right}
use Rattle.tg_model.specs.Picture.{Holds, AreAmong}
use Rattle.tg_could.proofs.witness.trial.Trial.has_all.Given as goal

-- what was found is held
abbrev pub invariant-loop : goal.invariant-loop
invariant-loop l =
    (label : ℕ → ℕ → RightSet) → AreAmong l.edges label → AreAmong l.self.added.items label → (q : Right) → has l.found q ≡ true → Holds label l.from q l.to
