-- How a deed is asked for.
use Rattle.std.specs.Prelude.{ℕ}
use Rattle.tg_model.specs.declared.command.Deed.{Deed}
use Rattle.tg_model.specs.declared.command.Deed.TheVariants as deed
use Rattle.tg_text.specs.declared.line.Line.{Line}
use Rattle.tg_text.specs.declared.line.Line.TheVariants as line

-- the line by which x asks for a deed
abbrev pub deed_line : ℕ → Deed → Line
deed_line x (deed.Create label law state) = line.Create x label
deed_line x (deed.Spawn label law state) = line.Spawn x label
deed_line x (deed.Plain command) = line.Plain x command
