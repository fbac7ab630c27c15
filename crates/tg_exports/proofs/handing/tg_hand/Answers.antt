use Rattle.std.proofs.Common.{◌≡◌, Result, subst}
use Rattle.tg_store.specs.declared.handing.Hand.{Hand}
use Rattle.tg_store.specs.declared.handing.Handed.{Handed}
use Rattle.tg_c.specs.declared.refusal.CallRefusal.{CallRefusal}
use Rattle.tg_c.specs.Handing.{HandsRights, TellsHanded, hand_out}
use Rattle.tg_c.proofs.HandLaws.{hand_told}
use Rattle.tg_exports.proofs.handing.tg_hand.Goals as goal

pub returns-in-Ok : goal.returns-in-Ok
returns-in-Ok c =
    let tells : Result Handed CallRefusal → Type 0 =
    TellsHanded c.tell_handed.result (hand_out c.args.removed.now c.args.denial.now) (hand_out c.tell_handed.new.removed c.tell_handed.new.denial) in
    record {
      handed = hand_told c.args.hand.now c.args.store.now c.hand_on-handed.new.place c.in-Ok.rights c.hand_on-handed.result tells c.in-Ok.ensures.label
          (subst (λ (h : Hand). HandsRights c.args.store.now c.hand_on-handed.new.place h (λ told. c.hand_on-handed.result ≡ told)) c.hand_with.ensures c.hand_on-handed.ensures) c.tell_handed.ensures;
    }
