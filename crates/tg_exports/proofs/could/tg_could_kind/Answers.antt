use Rattle.std.proofs.Common.{subst}
use Rattle.tg_c.specs.Statuses.{TellsNumber}
use Rattle.tg_exports.proofs.could.tg_could_kind.Goals as goal

pub returns : goal.returns
returns c =
    let asked = c.foresee_kind.ensures in
    record {
      stays = asked.stays;
      same = asked.same;
      answer = asked.answer;
      told = subst (TellsNumber c.tell_number.result c.args.kind.now c.tell_number.new.out) asked.told c.tell_number.ensures;
      is = asked.is;
      refused = asked.refused;
    }
