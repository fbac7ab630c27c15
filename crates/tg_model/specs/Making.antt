-- A vertex that is made: the deed by which it is, and who the subjects are then.
use Rattle.std.specs.Prelude.{◌++◌, ◌∷◌, [], ℕ, List}
use Rattle.tg_rights.specs.RightSet.{RightSet}
use Rattle.tg_model.specs.declared.command.Deed.{Deed}
use Rattle.tg_model.specs.declared.command.Deed.TheVariants.{Create, Spawn}
use Rattle.tg_model.specs.declared.making.Making.{Making}
use Rattle.tg_model.specs.declared.making.Making.TheVariants.{Object, Subject}
use Rattle.tg_model.specs.declared.value.Value.{Value}

-- the deed by which a vertex with this value is made
abbrev pub deed_making : Making → RightSet → Value → Deed
deed_making Object label value = Create label value.law value.state
deed_making Subject label value = Spawn label value.law value.state

-- the names of the subjects once a vertex with this name was made
abbrev pub subjects_making : Making → List ℕ → ℕ → List ℕ
subjects_making Object subjects name = subjects
subjects_making Subject subjects name = subjects ++ name ∷ []
