use Rattle.std.proofs.Common.{◌∙◌, ap, []}
use Rattle.std.specs.Prelude.{unwrap_or}
use Rattle.tgstore.proofs.WordLaws.{now_or}
use Rattle.tgstore.proofs.words.options_of.Goals as goal

pub returns-in-Ok-clause-stock : goal.returns-in-Ok-clause-stock
returns-in-Ok-clause-stock c = ap (λ s. s.now) c.unwrap_or.ensures ∙ now_or c.get_str.result _ ∙ ap (λ t. unwrap_or t []) c.get_str.ensures
