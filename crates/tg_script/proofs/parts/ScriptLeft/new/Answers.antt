use Rattle.std.proofs.Common.{refl}
use Rattle.tg_script.proofs.RunPartLaws.{starts_reading}
use Rattle.tg_script.proofs.parts.ScriptLeft.new.Goals as goal

pub returns : goal.returns
returns g c = record {
  reads = starts_reading c.new.result c.new.ensures;
  first = refl;
  stock = c.new-2.ensures;
  helpers = refl;
}
