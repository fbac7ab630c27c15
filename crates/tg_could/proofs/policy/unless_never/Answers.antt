use Rattle.std.proofs.Common.{rules}
use Rattle.tg_could.proofs.policy.unless_never.Goals as goal

pub returns-then-eq-clause-never : goal.returns-then-eq-clause-never
returns-then-eq-clause-never c g picture =
    c.could.ensures c.args.scene.now.silent.now c.args.scene.now.picture.now g c.requires picture (search rules)
