-- What reading one line does.
use Rattle.std.specs.Prelude.{◌≡◌, ℕ, ◌+◌, List, ◌∷◌, length, drop}
use Rattle.tg_keep.specs.Lines.{texts_after, length_after, last_sum_after}

-- The text is that of the first line, which is whole. The bytes after the line are left, and it ends with this sum.
pub record ReadsLine (before bytes text sum left : List ℕ) : Type 0 where
  pub texts : texts_after before bytes ≡ text ∷ texts_after sum left
  pub size : length_after before bytes ≡ length text + 11 + length_after sum left
  pub last : last_sum_after before bytes ≡ last_sum_after sum left
  pub rest : left ≡ drop (length text + 11) bytes
