-- Texts that grow until they are printed.
use Rattle.std.specs.Prelude.{◌≡◌, ℕ, false, List, ◌++◌}
use Rattle.tg_plain.specs.declared.text.PlainText.{PlainText}

-- where memory doesn't run out after it, it wasn't before, and this text is after what was there
abbrev pub Appends : PlainText → List ℕ → PlainText → Type 0
Appends old more new = new.is_short ≡ false → (old.is_short ≡ false) × (new.bytes.items ≡ old.bytes.items ++ more)
