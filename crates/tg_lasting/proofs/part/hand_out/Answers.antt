use Rattle.tg_lasting.proofs.KeepingPartLaws.{handed_out}
use Rattle.tg_lasting.proofs.part.hand_out.Goals as goal

pub returns-in-Ok : goal.returns-in-Ok
returns-in-Ok g c =
    let k = g.K.Sink in
    handed_out (k.taken c.args.sink.now) (k.taken c.put_all.new.sink) (k.taken c.finish.new.self) c.args.replies.now c.finish.result c.in-Ok.ensures.0 c.finish.ensures.bytes
