-- The table of commands.
use Rattle.std.proofs.Common.{◌≡◌, nat_lt, ◌&&◌, true, length, refl}
use Rattle.std.specs.List.{list_all}
use Rattle.tg_model.specs.declared.command.Command.{Command}
use Rattle.tg_model.specs.declared.command.Command.TheVariants.{Take}
use Rattle.tg_model.specs.declared.verb.Verb.{Verb}
use Rattle.tg_model.specs.declared.verb.Verb.TheVariants as verb
use Rattle.tg_model.specs.Commands.{word_of, verb_and_arguments}

-- commands with the same parts are one
pub parts-same : (c d : Command) → (verb_and_arguments c).0 ≡ (verb_and_arguments d).0 → (verb_and_arguments c).1 ≡ (verb_and_arguments d).1 → c ≡ d
parts-same (Take rights y z) (Take others v w) first second = cc
parts-same c (Take rights y z) first second = cc
parts-same c d first second = cc

-- the bytes of a word are after the space, and there are few
pub plain_word : (v : Verb) → (list_all (λ b. nat_lt 32 b) (word_of v) && nat_lt (length (word_of v)) 20) ≡ true
plain_word verb.Take = refl
plain_word v = refl
