use Rattle.std.proofs.Common.{◌≡◌, ◌∙◌, ap, map, refl, true}
use Rattle.clap.specs.Words.{App, found_of, is_simple, matches_of}
use Rattle.clap.specs.Walk.{rows_of}
use Rattle.clap.proofs.OnLiterals.{clap_on_literals}
use Rattle.tgstore.specs.Words.{command_line}
use Rattle.tgstore.proofs.WordLaws.{said_of}
use Rattle.tgstore.proofs.words.options_by.Goals as goal

is_simple_line : is_simple command_line ≡ true
unfolding clap_on_literals
is_simple_line = refl

pub returns-in-Ok-clause-said : goal.returns-in-Ok-clause-said
returns-in-Ok-clause-said g c =
    let words = map g.S.AsStr.text c.args.words.now in
    let found = found_of c.in_ok-matches.matches in
    let rows : rows_of found ≡ matches_of command_line words =
    (c.in_ok-matches.ensures.ok.2 (ap is_simple c.requires ∙ is_simple_line)).0 ∙ ap (λ (a : App). matches_of a words) c.requires in
    said_of words found c.in-Ok.options rows c.in-Ok.ensures.found c.in-Ok.ensures.race c.in-Ok.ensures.entries c.in-Ok.ensures.why c.in-Ok.ensures.strict c.in-Ok.ensures.stock c.in-Ok.ensures.resume c.in-Ok.ensures.keep c.in-Ok.ensures.asked
