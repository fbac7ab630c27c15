-- What is reported of the law that a vertex's payload keeps to.
use Rattle.std.specs.Prelude.{◌≡◌, ◌↔◌, ◌||◌, ℕ, Bool, IfSome, IsSome, Option, Some, option_map}
use Rattle.tg_rights.specs.RightSet.{RightSet}
use Rattle.tg_model.specs.Graph.{ProtectionGraph}
use Rattle.tg_model.specs.declared.law.Law.{Law}

-- one of these rights is to read what a vertex stores, to write to it, or to append to it
abbrev pub has_value_right : RightSet → Bool
has_value_right s = s.r || s.w || s.a

-- The law of what y stores is reported exactly where this holds.
pub record ReportsLaw (g : ProtectionGraph) (may : Type 0) (y : ℕ) (law : Option Law) : Type 0 where
  pub exactly : IsSome law ↔ may
  pub is : IfSome law (λ of. option_map (λ value. value.law) (g.value y) ≡ Some of)
