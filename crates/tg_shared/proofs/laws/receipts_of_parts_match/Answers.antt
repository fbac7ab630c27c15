use Rattle.tg_shared.proofs.PartLaws.{parts_match}
use Rattle.tg_shared.proofs.laws.receipts_of_parts_match.Goals as goal

pub returns : goal.returns
returns c = parts_match
