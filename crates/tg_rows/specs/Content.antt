-- What a heap says of the graph, whatever its cells look like.
use Rattle.std.specs.Prelude.{◌≡◌, ◌↔◌, ℕ, List, Option}
use Rattle.std.specs.List.{Contains}
use Rattle.tg_rights.specs.RightSet.{RightSet, no_rights}
use Rattle.tg_model.specs.declared.value.Value.{Value}

-- The names of the vertices that a heap has. label x y is the set of rights of x over y, which is empty where the heap has no x, and value x is what x stores.
pub record Content : Type 0 where
  pub names : List ℕ
  pub label : ℕ → ℕ → RightSet
  pub value : ℕ → Option Value

abbrev pub IsNamed : Content → ℕ → Type 0
IsNamed c x = Contains c.names x

-- the content has exactly these names, labels and values
pub record IsContent (c : Content) (named : ℕ → Type 0) (label : ℕ → ℕ → RightSet) (value : ℕ → Option Value) : Type 0 where
  pub names : (x : ℕ) → IsNamed c x ↔ named x
  pub labels : (x y : ℕ) → c.label x y ≡ label x y
  pub values : (x : ℕ) → c.value x ≡ value x

-- two contents are the same
abbrev pub IsSameContent : Content → Content → Type 0
IsSameContent old new = IsContent new (IsNamed old) old.label old.value

-- what the content doesn't have holds no rights
abbrev pub OnlyNamedHold : Content → Type 0
OnlyNamedHold c = (x : ℕ) → ¬ IsNamed c x → (y : ℕ) → c.label x y ≡ no_rights
