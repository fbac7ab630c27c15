-- The names of the subjects when one has gone.
use Rattle.std.proofs.Common.{◌≡◌, ℕ, Bool, true, false, List, [], ◌∷◌, ◌==◌, cond, refl, ap}
use Rattle.std.specs.Prelude.{not}
use Rattle.tg_model.specs.Graph.{without_subject}
use Rattle.tg_subjects.specs.Subjects.{names_of, without}
use Rattle.tg_subjects.specs.declared.subject.Subject.{Subject}

-- one kept or dropped, in either list
names_cons : (b : Bool) (s : Subject) (rest : List Subject) (names : List ℕ) → names_of rest ≡ names → names_of (cond b (s ∷ rest) rest) ≡ cond b (s.name ∷ names) names
names_cons true s rest names same = ap (λ (xs : List ℕ). s.name ∷ xs) same
names_cons false s rest names same = same

pub names_without : (subjects : List Subject) (name : ℕ) → names_of (without subjects name) ≡ without_subject (names_of subjects) name
names_without [] name = refl
names_without (s ∷ subjects) name = names_cons (not (s.name == name)) s (without subjects name) (without_subject (names_of subjects) name) (names_without subjects name)
