-- What is reported of the rights that one vertex holds over another.
use Rattle.std.specs.Prelude.{◌≡◌, ℕ, Option, None}
use Rattle.tg_rights.specs.RightSet.{RightSet, label_of}
use Rattle.tg_model.specs.Graph.{ProtectionGraph, IsSubject}

-- Of a subject x exactly the label of the edge to y is reported, and nothing where there is no edge; of any other vertex nothing
-- is.
pub record IsHeldOver (g : ProtectionGraph) (x y : ℕ) (told : Option RightSet) : Type 0 where
  pub subject : IsSubject g x → told ≡ label_of (g.label x y)
  pub other : ¬ IsSubject g x → told ≡ None
  -- so nothing is reported of oneself
  pub itself : x ≡ y → told ≡ None
