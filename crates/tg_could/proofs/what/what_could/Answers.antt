use Rattle.std.proofs.Common.{ℕ, subst}
use Rattle.tg_could.specs.Listed.{IsUnlisted}
use Rattle.tg_could.proofs.what.what_could.Goals as goal

pub returns : goal.returns
returns c = record {
  made = c.made.ensures;
  never = λ g picture right y left.
      c.leaves_out-is_shown.ensures left.shown g picture right y
      (subst (λ (n : ℕ). IsUnlisted c.of-listed.result c.args.x n c.args.scene.now.picture.now.limit right y) c.made.ensures
      (subst (λ (n : ℕ). IsUnlisted c.of-listed.result c.args.x c.made.result n right y) c.limit.ensures left.untold));
}
