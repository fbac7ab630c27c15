-- How far an audit of a kept file has come.
use Rattle.std.specs.Prelude.{◌≡◌, ℕ, ◌+◌, List, ◌∷◌, length}
use Rattle.tg_keep.specs.Lines.{file_texts, texts_after}
use Rattle.tg_found.specs.Kept.{length_in_file}
use Rattle.tg_found.specs.declared.fault.KeptFault.{KeptFault}
use Rattle.tg_found.specs.declared.fault.KeptFault.TheVariants as fault

-- The fault is of this line, which begins at this byte.
abbrev pub NamesLine : ℕ → ℕ → KeptFault → Type 0
NamesLine number place (fault.File why) = ⊥
NamesLine number place (fault.Line line byte why) = (line ≡ number) × (byte ≡ place)
NamesLine number place (fault.NoOpening lines) = ⊥

-- These bytes are left after the first line of the file, which ends with this sum.
pub record IsAfterFirst (file sum left : List ℕ) : Type 0 where
  pub first : List ℕ
  pub texts : file_texts file ≡ first ∷ texts_after sum left
  pub size : length_in_file first + length left ≡ length file
