-- What is read of a whole script.
use Rattle.std.specs.Prelude.{IfSome}
use Rattle.std.specs.Option.{option_map_or}
use Rattle.std.proofs.Common.{◌≡◌, ◌<◌, ◌+◌, ◌∙◌, ℕ, false, Option, Some, None, arith}
use Rattle.tg_text.specs.declared.line.Line.{Line}
use Rattle.tg_script.specs.declared.script.Script.{Script}
use Rattle.tg_script.specs.Lines.{Follows}
use Rattle.tg_script.specs.Inner.Beginning.{IsBehindEdges}
use Rattle.tg_script.proofs.CommandLaws.{next_command}

-- what comes after a line that is no edge line is none
pub next_behind : (s t : Script) (next : Option Line) → s.opening ≡ false → IfSome next (λ l. Follows s l t) → IsBehindEdges t next
next_behind s t None closed follows = tt
next_behind s t (Some l) closed follows = next_command s l t closed follows

pub next_asked : (next : Option Line) (a b c : ℕ) → b ≡ c → IfSome next (λ _. a ≡ b) → IfSome next (λ _. a ≡ c)
next_asked None a b c same is = tt
next_asked (Some l) a b c same is = is ∙ same

-- with each line that comes there is less room, and when none does the reading is over
pub next_smaller : (next : Option Line) (less room : ℕ) → IfSome next (λ _. less < room) → option_map_or (λ (l : Line). less + 1) next 0 < room + 1
next_smaller None less room is = omega arith
next_smaller (Some l) less room is = omega (arith, is)
