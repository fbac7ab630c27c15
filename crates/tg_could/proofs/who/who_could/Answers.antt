use Rattle.std.proofs.Common.{ℕ, subst}
use Rattle.tg_could.specs.Told.{IsUntold}
use Rattle.tg_could.proofs.who.who_could.Goals as goal

pub returns : goal.returns
returns c = record {
  made = c.made.ensures;
  never = λ g picture x left.
      c.leaves_out-is_shown.ensures left.shown g picture x
      (subst (λ (n : ℕ). IsUntold c.tell.new.self c.args.y n c.args.scene.now.picture.now.limit x) c.made.ensures
      (subst (λ (n : ℕ). IsUntold c.tell.new.self c.args.y c.made.result n x) c.limit.ensures left.untold));
}
