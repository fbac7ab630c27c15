-- Names that aren't made yet.
use Rattle.std.specs.Prelude.{◌≢◌, ℕ, ◌<◌, ◌≤◌}

-- The name isn't made yet. If any other name than v may yet be made, this one may be, and it isn't v.
pub record IsFirstLater (made v limit name : ℕ) : Type 0 where
  pub later : made ≤ name
  pub may_be_made : (x : ℕ) → made ≤ x → x < limit → x ≢ v → name < limit
  pub other : (x : ℕ) → made ≤ x → x < limit → x ≢ v → name ≢ v
