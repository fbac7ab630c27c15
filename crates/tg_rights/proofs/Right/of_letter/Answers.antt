use Rattle.std.proofs.Common.{◌∙◌, ◌==◌, rules, sym}
use Rattle.std.proofs.lemmas.Iterator.Adapters.{option_map_id}
use Rattle.std.proofs.lemmas.Iterator.Consumers.{YieldsList-from_copied}
use Rattle.std.proofs.lemmas.Iterator.{YieldsList-from_slice}
use Rattle.std.proofs.lemmas.Iterator.Search.{find_from_yields_List}
use Rattle.tg_rights.specs.RightSet.{all_rights, letter_of}
use Rattle.tg_rights.proofs.Right.of_letter.Goals as goal

pub returns : goal.returns
returns c =
    sym (option_map_id c.find.result)
    ∙ find_from_yields_List (λ x. c.args.letter == letter_of x) _ _ _ c.find.ensures.ran
    (YieldsList-from_copied (YieldsList-from_slice all_rights cc))
    (λ x b q k. search (rules))
