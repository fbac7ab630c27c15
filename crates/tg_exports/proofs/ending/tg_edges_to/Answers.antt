use Rattle.std.proofs.Common.{Result, List, ℕ}
use Rattle.tg_rights.specs.RightSet.{RightSet}
use Rattle.tg_c.specs.Ending.{AreEdgesShown, AreToldEdgesTo}
use Rattle.tg_c.specs.Statuses.{TellsEdges}
use Rattle.tg_c.specs.declared.refusal.CallRefusal.{CallRefusal}
use Rattle.tg_c.proofs.CallLaws.{edges_told, hears_as}
use Rattle.tg_exports.proofs.ending.tg_edges_to.Goals as goal

pub returns : goal.returns
returns c =
    let shown : Result (List (ℕ × RightSet)) CallRefusal → Type 0 = AreEdgesShown c.args.edges.now c.edges_to.new.into c.edges_to.result in
    let tells : Result (List (ℕ × RightSet)) CallRefusal → Type 0 = TellsEdges c.tell_number.result (record { count = c.args.count.now; edges = c.args.edges.now }) (record { count = c.tell_number.new.out; edges = c.edges_to.new.into }) in
    hears_as (λ why. why) (AreToldEdgesTo c.args.name) c.args.store.now c.edges_to.new.place shown tells c.edges_to.ensures
    (λ answer is. edges_told c.tell_number.result c.args.count.now c.tell_number.new.out c.args.edges.now c.edges_to.new.into c.edges_to.result answer c.tell_number.ensures is)
