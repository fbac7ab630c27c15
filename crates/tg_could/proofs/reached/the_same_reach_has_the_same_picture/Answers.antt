use Rattle.tg_could.proofs.ReachedLaws.{same_picture}
use Rattle.tg_could.proofs.reached.the_same_reach_has_the_same_picture.Goals as goal

pub returns : goal.returns
returns c p g h same picture = same_picture g h same p picture
