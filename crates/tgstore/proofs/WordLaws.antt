-- What was found in words is what they say; and a text that may be missing.
use Rattle.std.proofs.Common.{◌≡◌, ◌∙◌, ℕ, List, [], ◌∷◌, Option, Some, None, Result, Ok, Err, option_map, refl, ap, subst, sym, codes}
use Rattle.std.specs.Prelude.{IfOk, unwrap_or}
use Rattle.std.specs.Borrow.{Bor}
use Rattle.clap.specs.Built.{AddsArg, AddsInTurn}
use Rattle.clap.specs.Walk.{rows_of}
use Rattle.clap.specs.Words.{App, Rule, app_of, first_of, first_value, matches_of, one_of, one_text, with_rule}
use Rattle.clap.specs.declared.builder.arg.Arg.{Arg}
use Rattle.clap.specs.declared.builder.command.Command.{Command}
use Rattle.clap.specs.declared.parser.matches.Found.{Found}
use Rattle.clap.proofs.WalkLemmas.{first_value-rows, one_text-rows}
use Rattle.tgstore.specs.Words.{AreArgsOf, AreAsked, AreFound, AreSaid, IsFlag, bare_line, command_line, number_if, number_or, option_rules}
use Rattle.tgstore.specs.declared.settings.Options.{Options}

pub now_or : (r : Option (Bor (List ℕ))) (d : Bor (List ℕ)) → (unwrap_or r d).now ≡ unwrap_or (option_map (λ s. s.now) r) d.now
now_or None d = refl
now_or (Some x) d = refl

-- what was found in the words is what they say
pub said_of : (words : List (List ℕ)) (found : Found) (o : Options) → rows_of found ≡ matches_of command_line words → AreFound found o.settings → IsFlag (one_text found (codes "race")) o.race → IsFlag (one_text found (codes "entries")) o.entries → IsFlag (one_text found (codes "why")) o.why → IsFlag (one_text found (codes "strict")) o.strict → o.stock.now ≡ unwrap_or (first_value found (codes "stock")) [] → option_map (λ s. s.now) o.resume ≡ first_value found (codes "resume") → option_map (λ s. s.now) o.keep ≡ first_value found (codes "keep") → AreAsked found o.asked → AreSaid words o
said_of words found o rows numbers race entries why strict stock resume keep asked =
    let number : (name : List ℕ) → one_text found name ≡ one_of name (matches_of command_line words) = λ name. one_text-rows found name ∙ ap (one_of name) rows in
    record {
      workers = numbers.workers ∙ ap (number_or 2) (number (codes "workers"));
      helpers = numbers.helpers ∙ ap (number_or 1) (number (codes "helpers"));
      vertices = numbers.vertices ∙ ap (number_or 1000000) (number (codes "vertices"));
      blocks = numbers.blocks ∙ ap (number_or 4096) (number (codes "blocks"));
      space_blocks = numbers.space_blocks;
      race = subst (λ t. IsFlag t o.race) (number (codes "race")) race;
      entries = subst (λ t. IsFlag t o.entries) (number (codes "entries")) entries;
      why = subst (λ t. IsFlag t o.why) (number (codes "why")) why;
      strict = subst (λ t. IsFlag t o.strict) (number (codes "strict")) strict;
      stock = stock ∙ ap (λ t. unwrap_or t []) (first_value-rows found (codes "stock") ∙ ap (first_of (codes "stock")) rows);
      resume = resume ∙ first_value-rows found (codes "resume") ∙ ap (first_of (codes "resume")) rows;
      keep = keep ∙ first_value-rows found (codes "keep") ∙ ap (first_of (codes "keep")) rows;
      asked = (asked.workers ∙ ap number_if (number (codes "workers")), asked.vertices ∙ ap number_if (number (codes "vertices")));
    }

-- the program with options of these rules
with_rules : App → List Rule → App
with_rules app [] = app
with_rules app (rule ∷ rules) = with_rules (with_rule app rule) rules

all_added : (rules : List Rule) (args : List Arg) (old new : Command) → AreArgsOf rules args → AddsInTurn AddsArg old args new → app_of new ≡ with_rules (app_of old) rules
unfolding with_rules
all_added [] [] old new are same = ap app_of (sym same)
all_added (rule ∷ rules) (arg ∷ args) old new are added =
    all_added rules args added.0 new are.1 added.2 ∙ ap (λ app. with_rules app rules) (added.1.shape are.0.local ∙ ap (with_rule (app_of old)) are.0.rule)
all_added [] (arg ∷ args) old new are added = absurd are
all_added (rule ∷ rules) [] old new are added = absurd are

-- a command to which the options were added in turn is the command line
pub is_line : {E : Type 0} (old : Command) (result : Result Command E) (args : List Arg) → app_of old ≡ bare_line → AreArgsOf option_rules args → IfOk result (AddsInTurn AddsArg old args) → IfOk result (λ new. app_of new ≡ command_line)
unfolding with_rules
is_line old (Ok new) args line are added = all_added option_rules args old new are added ∙ ap (λ app. with_rules app option_rules) line
is_line old (Err e) args line are added = tt
