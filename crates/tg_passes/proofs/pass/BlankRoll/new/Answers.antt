use Rattle.tg_passes.proofs.Rolling.{begins}
use Rattle.tg_passes.proofs.pass.BlankRoll.new.Goals as goal

pub of_words-requires : goal.of_words-requires
of_words-requires c = begins
