-- The meaning of the words of the command line. Clap takes them apart after the program's name. There `--NAME` takes the next word,
-- and `--NAME=TEXT` takes the text. The options `--race`, `--entries`, `--why` and `--strict` have no value. No option comes twice.
use Rattle.std.specs.Prelude.{◌≡◌, ℕ, Bool, true, false, List, [], ◌∷◌, Option, Some, None, codes, option_map, unwrap_or}
use Rattle.std.specs.Option.{option_map_or}
use Rattle.std.specs.Str.Parse.{digits_value, without_leading_plus}
use Rattle.tg_word.specs.declared.TheConstants.{MOST_SPACE_BLOCKS}
use Rattle.clap.specs.Words.{App, Rule, first_of, matches_of, new_app, new_rule, one_of, one_text, rule_of, with_rule}
use Rattle.clap.specs.Simple.{on_top}
use Rattle.clap.specs.declared.builder.arg.Arg.{Arg}
use Rattle.clap.specs.declared.builder.action.ArgAction.{ArgAction}
use Rattle.clap.specs.declared.builder.action.ArgAction.TheVariants.{Set, SetTrue}
use Rattle.clap.specs.declared.builder.value_parser.ValueParser.TheVariants.{Unsigned}
use Rattle.clap.specs.declared.parser.matches.Found.{Found}
use Rattle.tg_script.specs.declared.run_script.Settings.{Settings}
use Rattle.tgstore.specs.declared.settings.Asked.{Asked}
use Rattle.tgstore.specs.declared.settings.Options.{Options}

-- an option with this action
abbrev pub rule_with : List ℕ → ArgAction → Rule
rule_with name action = record (new_rule name) { long = Some name; action = Some action }

-- an option with one value
abbrev pub option_rule : List ℕ → Rule
option_rule name = record (new_rule name) { long = Some name; action = Some Set; value_names = 1 }

-- an option whose value is a number
abbrev pub number_rule : List ℕ → Rule
number_rule name = record (option_rule name) { parser = Some (Unsigned 0 18446744073709551615) }

-- an option with no value
abbrev pub flag_rule : List ℕ → Rule
flag_rule name = record (new_rule name) { long = Some name; action = Some SetTrue }

-- an option of this rule, for this command alone
pub record IsArgOf (asked : Rule) (arg : Arg) : Type 0 where
  pub rule : rule_of arg ≡ asked
  pub local : arg.global ≡ false

-- options of these rules, in turn
abbrev pub AreArgsOf : List Rule → List Arg → Type 0
AreArgsOf [] [] = Unit {0}
AreArgsOf (rule ∷ rules) (arg ∷ args) = IsArgOf rule arg × AreArgsOf rules args
AreArgsOf rules args = ⊥

-- the rules of the options that there are
abbrev pub option_rules : List Rule
option_rules =
    number_rule (codes "workers")
    ∷ number_rule (codes "helpers")
    ∷ number_rule (codes "vertices")
    ∷ number_rule (codes "blocks")
    ∷ option_rule (codes "stock")
    ∷ flag_rule (codes "race")
    ∷ flag_rule (codes "entries")
    ∷ flag_rule (codes "why")
    ∷ flag_rule (codes "strict")
    ∷ option_rule (codes "resume")
    ∷ option_rule (codes "keep")
    ∷ []

-- the program, which has a version
abbrev pub bare_line : App
bare_line = on_top (λ s. record s { has_version = true }) (new_app (codes "tgstore"))

-- the options that there are
abbrev pub command_line : App
command_line =
    with_rule
    (with_rule
    (with_rule
    (with_rule
    (with_rule
    (with_rule
    (with_rule
    (with_rule (with_rule (with_rule (with_rule bare_line (number_rule (codes "workers"))) (number_rule (codes "helpers"))) (number_rule (codes "vertices"))) (number_rule (codes "blocks")))
    (option_rule (codes "stock")))
    (flag_rule (codes "race")))
    (flag_rule (codes "entries")))
    (flag_rule (codes "why")))
    (flag_rule (codes "strict")))
    (option_rule (codes "resume")))
    (option_rule (codes "keep"))

-- the number that a text writes, or this number if there is no text
abbrev pub number_or : ℕ → Option (List ℕ) → ℕ
number_or default text = option_map_or (λ digits. digits_value 10 (without_leading_plus digits)) text default

-- the number that a text writes, if there is a text
abbrev pub number_if : Option (List ℕ) → Option ℕ
number_if text = option_map (λ digits. digits_value 10 (without_leading_plus digits)) text

-- the number that an option has in the words, or this number if the words don't have the option
abbrev pub number_said : List ℕ → ℕ → List (List ℕ) → ℕ
number_said name default words = number_or default (one_of name (matches_of command_line words))

-- the text that an option has in the words, or the empty text
abbrev pub text_said : List ℕ → List (List ℕ) → List ℕ
text_said name words = unwrap_or (first_of name (matches_of command_line words)) []

-- an option with no value is in the words, and then its text is `true`, or it isn't
pub record IsFlag (text : Option (List ℕ)) (stands : Bool) : Type 0 where
  pub set : text ≡ Some (codes "true") → stands ≡ true
  pub unset : text ≡ Some (codes "false") → stands ≡ false
  pub absent : text ≡ None → stands ≡ false

-- The options are the options of the words. No space has more than 1,048,576 blocks.
pub record AreSaid (words : List (List ℕ)) (o : Options) : Type 0 where
  pub workers : o.settings.workers ≡ number_said (codes "workers") 2 words
  pub helpers : o.settings.helpers ≡ number_said (codes "helpers") 1 words
  pub vertices : o.settings.max_vertices ≡ number_said (codes "vertices") 1000000 words
  pub blocks : o.settings.limits.max_blocks ≡ number_said (codes "blocks") 4096 words
  pub space_blocks : o.settings.limits.space_blocks ≡ MOST_SPACE_BLOCKS
  pub race : IsFlag (one_of (codes "race") (matches_of command_line words)) o.race
  pub entries : IsFlag (one_of (codes "entries") (matches_of command_line words)) o.entries
  pub why : IsFlag (one_of (codes "why") (matches_of command_line words)) o.why
  pub strict : IsFlag (one_of (codes "strict") (matches_of command_line words)) o.strict
  pub stock : o.stock.now ≡ text_said (codes "stock") words
  pub resume : option_map (λ s. s.now) o.resume ≡ first_of (codes "resume") (matches_of command_line words)
  pub keep : option_map (λ s. s.now) o.keep ≡ first_of (codes "keep") (matches_of command_line words)
  pub asked : (o.asked.workers ≡ number_if (one_of (codes "workers") (matches_of command_line words)))
      × (o.asked.max_vertices ≡ number_if (one_of (codes "vertices") (matches_of command_line words)))

-- The numbers were found in words that were taken apart. No space has more than 1,048,576 blocks.
pub record AreFound (found : Found) (s : Settings) : Type 0 where
  pub workers : s.workers ≡ number_or 2 (one_text found (codes "workers"))
  pub helpers : s.helpers ≡ number_or 1 (one_text found (codes "helpers"))
  pub vertices : s.max_vertices ≡ number_or 1000000 (one_text found (codes "vertices"))
  pub blocks : s.limits.max_blocks ≡ number_or 4096 (one_text found (codes "blocks"))
  pub space_blocks : s.limits.space_blocks ≡ MOST_SPACE_BLOCKS

-- the numbers that a history has too, as they were found in the words
pub record AreAsked (found : Found) (asked : Asked) : Type 0 where
  pub workers : asked.workers ≡ number_if (one_text found (codes "workers"))
  pub vertices : asked.max_vertices ≡ number_if (one_text found (codes "vertices"))
