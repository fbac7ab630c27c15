use Rattle.std.proofs.lemmas.List.Elements.{All-weaker}
use Rattle.tg_shared.specs.Sessions.{KeptInParts, MatchesSince}
use Rattle.tg_shared.proofs.PartLaws.{since_kept}
use Rattle.tg_shared.proofs.Sharing.{shared_out}
use Rattle.tg_shared.proofs.laws.kept_parts_share_out.Goals as goal

pub returns : goal.returns
returns c = λ entries first ss kept.
    shared_out entries first ss (record { matching = All-weaker (KeptInParts kept.parts) (MatchesSince entries first) (λ s. since_kept entries first kept.parts s kept.are) ss kept.each; apart = kept.apart })
