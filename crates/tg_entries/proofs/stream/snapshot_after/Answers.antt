use Rattle.std.proofs.lemmas.Bool.{false≢true}
use Rattle.tg_entries.proofs.ReadLaws.{saved_ended}
use Rattle.tg_entries.proofs.stream.snapshot_after.Goals as goal

pub unreachable-requires : goal.unreachable-requires
unreachable-requires c =
    let h = c.in_ok-shown.ensures.some c.requires.graph c.requires.come c.requires.saved in
    false≢true (rw c.in-None.is at h)

pub returns : goal.returns
returns c = λ keeps text was.
    saved_ended keeps text c.args.entered.now c.in-Some.snapshot was
    (λ h come. rw c.in-Some.is at (c.in_ok-shown.ensures.of h come)) (rw c.in-Some.is at c.in_ok-shown.ensures.place)
